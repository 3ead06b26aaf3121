-- These definitions are for the contracts of the iterator that `into_iter` returns. In contracts,
-- the items of this iterator are the items that it has not yielded yet. (std: `vec::IntoIter`)
use Rattle.std.specs.Prelude.{◌≡◌, ◌++◌, ℕ, ◌+◌, ◌-◌, length}
use Rattle.std.specs.Iterator.{YieldsFirst, YieldsLast}
use Rattle.std.specs.Iterator.Runs.{YieldsInOrder, YieldsInReverse}
use Rattle.thin_block.specs.Block.{IsAllocatedBy}
use Rattle.thin_block.specs.Slots.{empty_slots, filled_slots, items_in}
use Rattle.thin_block.specs.declared.block.Block.{Block}
use Rattle.thin_vec.specs.VecWords.{into_iter_items}

module _ {T A : Type 0} where
  -- `IsIntoIterBlock b a start end` describes the block `b` of an iterator: exactly the slots
  -- `start..end` hold items, and the memory of `b`, if it has any, came from the allocator `a`.
  pub record IsIntoIterBlock (b : Block T A) (a : A) (start end : ℕ) : Type 0 where
    pub slots : b.slots
        ≡ empty_slots start
        ++ (filled_slots (items_in b.slots) ++ empty_slots (length b.slots - end))
    pub len : start + length (items_in b.slots) ≡ end
    pub from : IsAllocatedBy b.alloc a

module _ (T A : Type 0) where
  -- `IntoIterYieldsInOrder` states that, for every iterator, calls to `next` yield the remaining
  -- items in order.
  abbrev pub IntoIterYieldsInOrder : Type 0
  IntoIterYieldsInOrder =
      YieldsInOrder (YieldsFirst (into_iter_items {T = T} {A = A})) into_iter_items

  -- `IntoIterYieldsInReverse` states that, for every iterator, calls to `next_back` yield the
  -- remaining items in reverse order.
  abbrev pub IntoIterYieldsInReverse : Type 0
  IntoIterYieldsInReverse =
      YieldsInReverse (YieldsLast (into_iter_items {T = T} {A = A})) into_iter_items
