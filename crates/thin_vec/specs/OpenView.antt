-- An open block is the block of a list during an edit. It has three runs of items, the front, the
-- middle run and the tail, with empty slots between them.
use Rattle.std.specs.Prelude.{ℕ, ◌+◌, ◌-◌, ◌==◌, List, ◌++◌, Option, if◌then◌else◌, length, refl}
use Rattle.std.specs.Coded.{Coded, code_by, coded×, coded_ℕ, coded_list, coded_option}
use Rattle.thin_block.specs.Cost.{Cost, cost_code, add_moves}
use Rattle.thin_block.specs.Slots.{empty_slots, filled_slots}

-- `OpenView T A` describes an open block with the item type `T` and the allocator type `A`. Its
-- slots are divided as follows. Each of these parts may consist of no slots.
--
-- ```text
--   +-----------+-----------+-----------+-----------+-----------+-------------+
--   |   items   |   empty   |   items   |   empty   |   items   |    empty    |
--   +-----------+-----------+-----------+-----------+-----------+-------------+
--       front     gap_before    middle     gap_after     tail       spare slots
-- ```
pub record OpenView (T A : Type 0) : Type 0 where
  -- The front items: the items before the edited range, then the items of the range that a call
  -- such as `retain` has kept so far, or the items that an edit such as `finish` of a `Splice` has
  -- inserted so far.
  pub front : List T
  -- The number of empty slots between the front and the middle run.
  pub gap_before : ℕ
  -- The middle items: the items of the edited range that have not been yielded, kept or removed
  -- yet.
  pub middle : List T
  -- The number of empty slots between the middle run and the tail.
  pub gap_after : ℕ
  -- The tail items: the items after the edited range.
  pub tail : List T
  -- The number of slots of the block.
  pub capacity : ℕ
  -- The allocator of the block, or `None` if the block has no memory.
  pub alloc : Option A
  -- The recorded cost of the block so far (requests for memory, copied items and moves).
  pub cost : Cost

-- `open_view_code` encodes a value of the type `OpenView` as the tuple of its eight fields.
abbrev pub open_view_code : {T A : Type 0} → Coded T → Coded A → Coded (OpenView T A)
open_view_code {T} {A} t a =
    code_by (List T × (ℕ × (List T × (ℕ × (List T × (ℕ × (Option A × Cost)))))))
    (coded× (coded_list t)
    (coded× coded_ℕ (coded× (coded_list t)
    (coded× coded_ℕ (coded× (coded_list t)
    (coded× coded_ℕ (coded× (coded_option a) cost_code)))))))
    (λ v. (
      v.front,
      (v.gap_before, (v.middle, (v.gap_after, (v.tail, (v.capacity, (v.alloc, v.cost)))))),
    ))
    (λ p. record {
      front = p.0;
      gap_before = p.1.0;
      middle = p.1.1.0;
      gap_after = p.1.1.1.0;
      tail = p.1.1.1.1.0;
      capacity = p.1.1.1.1.1.0;
      alloc = p.1.1.1.1.1.1.0;
      cost = p.1.1.1.1.1.1.1;
    })
    (λ _. refl)

module _ {T A : Type 0} where
  -- `tail_start v` is the index of the first slot of the tail of the open block `v`.
  abbrev pub tail_start : OpenView T A → ℕ
  tail_start v = length v.front + v.gap_before + length v.middle + v.gap_after

  -- `tail_end v` is the index directly after the tail of the open block `v`.
  abbrev pub tail_end : OpenView T A → ℕ
  tail_end v = tail_start v + length v.tail

  -- `range_len v` is the number of slots between the front and the tail of the open block `v`. For
  -- a `Drain` or a `Splice`, this is the length of the range, whatever has been yielded of it.
  abbrev pub range_len : OpenView T A → ℕ
  range_len v = v.gap_before + length v.middle + v.gap_after

  -- `slots_of v` contains all slots of the open block `v`, in order.
  abbrev pub slots_of : OpenView T A → List (Option T)
  slots_of v = filled_slots v.front
      ++ (empty_slots v.gap_before
      ++ (filled_slots v.middle
      ++ (empty_slots v.gap_after
      ++ (filled_slots v.tail ++ empty_slots (v.capacity - tail_end v)))))

  -- `items_of v` is the list of all items of the open block `v`, in order.
  abbrev pub items_of : OpenView T A → List T
  items_of v = v.front ++ (v.middle ++ v.tail)

  -- `cost_closed v` is the recorded cost of the open block `v` after the gap between its front and
  -- its middle run has been closed.
  abbrev pub cost_closed : OpenView T A → Cost
  cost_closed v =
      if v.gap_before == 0 then v.cost else add_moves (length v.middle + length v.tail) v.cost
