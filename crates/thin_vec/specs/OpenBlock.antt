-- These definitions state which slots of an open block contain items, and which are empty.
pub mod Dedup
pub mod Retain
use Rattle.std.specs.Prelude.{◌≡◌, ◌+◌, ◌-◌, ◌≤◌, drop, length, slice_range, take}
use Rattle.thin_block.specs.Slots.{items_in}
use Rattle.thin_vec.specs.OpenView.{OpenView, slots_of}
use Rattle.thin_vec.specs.declared.open_block.OpenBlock.TheInside.{Inside}

module _ {T A : Type 0} where
  -- `open_view h` is how contracts see the open block `h`: as a value of the type `OpenView`.
  abbrev pub open_view : Inside T A → OpenView T A
  open_view h =
      record {
        front = items_in (take h.front_end h.block.slots);
        gap_before = h.middle_start - h.front_end;
        middle = items_in (slice_range h.block.slots h.middle_start h.middle_end);
        gap_after = h.tail_start - h.middle_end;
        tail = items_in (drop h.tail_start h.block.slots);
        capacity = length h.block.slots;
        alloc = h.block.alloc;
        cost = h.block.cost;
      }

  -- `IsOpenViewOf h v` holds if the value `v` describes the open block `h`. The slots of `h` hold
  -- the items of the front, the middle run and the tail of `v`, and all other slots are empty.
  pub record IsOpenViewOf (h : Inside T A) (v : OpenView T A) : Type 0 where
    pub slots : h.block.slots ≡ slots_of v
    pub front : length v.front ≡ h.front_end
    pub gap_before : h.front_end + v.gap_before ≡ h.middle_start
    pub middle : h.middle_start + length v.middle ≡ h.middle_end
    pub gap_after : h.middle_end + v.gap_after ≡ h.tail_start
    pub tail : h.tail_start + length v.tail ≡ h.tail_end
    pub room : h.tail_end ≤ v.capacity

  -- `IsOpen h` is the invariant of the type `OpenBlock`.
  abbrev pub IsOpen : Inside T A → Type 0
  IsOpen h = IsOpenViewOf h (open_view h)
