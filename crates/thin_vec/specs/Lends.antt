-- These definitions say what a list contains after a `&mut` borrow of its items has ended.
use Rattle.std.specs.Prelude.{List, Option, ℕ}
use Rattle.std.specs.declared.alloc.Allocator.{Ghosts as AllocatorGhosts}
use Rattle.std.specs.Borrow.{Lends, LendsIf, MutBor, Fml, RattleType, Array, follows}
use Rattle.std.specs.declared.slice.IterMut.{IterMut}
use Rattle.std.specs.Slice.Iter.{iter_mut_name}
use Rattle.thin_block.specs.declared.growth.Growth.{Ghosts as GrowthGhosts}
use Rattle.thin_vec.specs.ThinVec.{ListView}
use Rattle.thin_vec.specs.contracts.convert.into_iter.IntoIter.{the_row as iterator_row}
use Rattle.thin_vec.specs.contracts.list.ThinVec.{the_row}
pub use Rattle.thin_vec.specs.VecWords.{with_item, with_items, with_items_from}

module _ (T A G : RattleType) (a : AllocatorGhosts A.Denot) (g : GrowthGhosts G.Denot)
    (v : MutBor (ListView T.Denot A.Denot)) where
  -- `LendsItems r` states that the reference `r` borrows all items of the list to which the
  -- reference `v` points. When the borrow ends, the list contains the items that were written
  -- through `r`.
  abbrev pub LendsItems : MutBor (List T.Denot) → Fml
  LendsItems r = Lends (the_row T A G a g) (Array T 0) v r (with_items v.now)

  -- `LendsItemsFrom i r` states that the reference `r` borrows items of the list to which the
  -- reference `v` points, from index `i` onward. When the borrow ends, the items that were written
  -- through `r` are in their place.
  abbrev pub LendsItemsFrom : ℕ → MutBor (List T.Denot) → Fml
  LendsItemsFrom i r = Lends (the_row T A G a g) (Array T 0) v r (with_items_from v.now i)

  -- `LendsItem i r` states that the reference `r` borrows the item at index `i` of the list to
  -- which the reference `v` points. When the borrow ends, the item at this index is the value that
  -- was written through `r`.
  abbrev pub LendsItem : ℕ → MutBor T.Denot → Fml
  LendsItem i r = Lends (the_row T A G a g) T v r (with_item v.now i)

  -- `LendsGet i r` states how the option `r` affects the list to which the reference `v` points. If
  -- `r` is `Some`, it borrows the item at index `i`, and only this item may change. If `r` is
  -- `None`, the list does not change.
  abbrev pub LendsGet : ℕ → Option (MutBor T.Denot) → Fml
  LendsGet i r = LendsIf (the_row T A G a g) T v r (with_item v.now i) v.now

  -- `LendsIter it` states that the iterator `it` borrows all items of the list to which the
  -- reference `v` points. When the borrow ends, the list contains the items that were written
  -- through the references that `it` yielded.
  abbrev pub LendsIter : IterMut T.Denot → Fml
  LendsIter it = follows (the_row T A G a g) (Array T 0) v.ghost_name
      (iter_mut_name it) (with_items v.now)

  -- `LendsRest r` states that the reference `r` borrows the items that an iterator has not yielded
  -- yet. The reference `v` points to this iterator. When the borrow ends, the remaining items of
  -- the iterator are the items that were written through `r`.
  abbrev pub LendsRest : MutBor (List T.Denot) → Fml
  LendsRest r = Lends (iterator_row T A G a g) (Array T 0) v r (with_items v.now)
