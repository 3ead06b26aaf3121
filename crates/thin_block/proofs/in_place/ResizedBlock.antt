-- These lemmas are about the block that `resize_words` and `resize_padded` leave if the allocator
-- succeeds.
use Rattle.std.proofs.Common.{◌≡◌, true, ℕ, ◌-◌, ◌^◌, ◌<◌, ◌≤◌, List, ◌++◌, length, sym, ap, arith}
use Rattle.std.proofs.Common.{Some, Option}
use denote.RawPtr.{Ptr}
use Rattle.core.proofs.alloc.Calls.{Al}
use Rattle.core.proofs.mem.Param.{El}
use Rattle.thin_block.specs.Block.{block_view}
use Rattle.thin_block.specs.Cost.{Cost}
use Rattle.thin_block.specs.Ownership.{is_nonempty}
use Rattle.thin_block.specs.Slots.{empty_slots, filled_slots, items_in, slot_range, write_slots}
use Rattle.thin_block.specs.Slots.{IsPacked}
use Rattle.thin_block.proofs.HeaderMemory.{Br, any_some}
use Rattle.thin_block.proofs.SlotsLemmas.{packed-carried, packed-long}

-- In this module, the allocator `a` has resized the block `x` to `cap` slots.
module _ (E : El) (Y : Al) (x : (Br E Y).Denot) (a : Y.row.Denot) (cap : ℕ)
    (packed : IsPacked x.slots x.len) (enough : x.len ≤ cap) (nonzero : 0 < cap)
    (few : cap < 2 ^ 63) where
  abbrev pub new_slots : List (Option E.row.Denot)
  new_slots = filled_slots (items_in x.slots) ++ empty_slots (cap - x.len)

  pub new_long : length new_slots ≡ cap
  new_long = packed-long x.slots x.len packed cap enough

  pub new_sound : (x.len ≤ length new_slots)
      × (true ≡ is_nonempty new_slots) × (length new_slots < 2 ^ 63)
  new_sound = let long = new_long in (omega arith, any_some new_slots (omega arith), omega arith)

  -- `resized cost at` is the block afterwards, with its header at the address `at`.
  abbrev pub resized : Cost → Ptr → (Br E Y).Denot
  resized cost at =
      record {
        at = at;
        item = record {};
        handle = record {};
        slots = new_slots;
        len = x.len;
        alloc = Some a;
        cost = cost;
        sound = new_sound;
      }

  pub resized_view : (cost : Cost) (at : Ptr) → let v = block_view (resized cost at) in
      v ≡ record v { slots = write_slots 0 (slot_range 0 x.len x.slots) (empty_slots cap) }
  resized_view cost at =
      ap (λ (l : List (Option E.row.Denot)). record (block_view (resized cost at)) { slots = l })
      (sym (packed-carried x.slots x.len packed cap))
