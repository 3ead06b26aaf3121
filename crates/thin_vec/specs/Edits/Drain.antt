-- These definitions are for the contracts of `Drain`. They name the parts of a `Drain`, and they
-- say what its methods guarantee. (std: `vec::Drain`)
use Rattle.std.specs.Prelude.{◌≡◌, ◌⊎◌, ◌==◌, List, ◌++◌, None, Option, if◌then◌else◌, length}
use Rattle.std.specs.Borrow.{GName}
use Rattle.std.specs.Iterator.{Yields, YieldsFirst, YieldsLast, YieldsThen}
use Rattle.std.specs.Iterator.Runs.{YieldsInOrder, YieldsInReverse}
use Rattle.thin_block.specs.Cost.{add_moves}
use Rattle.thin_block.specs.declared.growth.Growth.{Ghosts}
use Rattle.thin_vec.specs.OpenView.{OpenView, range_len}
use Rattle.thin_vec.specs.ThinVec.{ListView}
use Rattle.thin_vec.specs.declared.edits.drain.Drain.{Drain}
use Rattle.thin_vec.specs.declared.edits.holder.IntoInner.{Ghosts as IntoInnerGhosts}

module _ {T A G H : Type 0} {g : Ghosts G} {h : IntoInnerGhosts H (OpenView T A)} where
  -- `drain_block d` is the open block that the `Drain` `d` owns. Its front contains the items
  -- before the range, and its tail contains the items after the range.
  abbrev pub drain_block : Drain T A G H g h → OpenView T A
  drain_block d = h.inner d.holder

  -- `list_after_drain d` is the list that the `Drain` `d` leaves when it is dropped: its items are
  -- those before and after the range. Unless the range has no slots, each item after it has been
  -- moved once by then. The contract of `drain` says what this list is, and calls to `next` and
  -- `next_back` do not change it. The prover unfolds this definition only on request.
  unfoldable pub list_after_drain : Drain T A G H g h → ListView T A
  list_after_drain d = record {
    items = (drain_block d).front ++ (drain_block d).tail;
    capacity = (drain_block d).capacity;
    alloc = d.list.now.alloc;
    cost = if range_len (drain_block d) == 0 then (drain_block d).cost else add_moves
        (length (drain_block d).tail) (drain_block d).cost;
  }

  -- `drain_rest d` contains the items of the range that the `Drain` `d` has not yielded yet.
  abbrev pub drain_rest : Drain T A G H g h → List T
  drain_rest d = (drain_block d).middle

  -- `drain_list d` is the list that the `Drain` `d` borrows, as it is until `d` is dropped. It
  -- stays as it is if `d` is leaked (this is tested, not proved).
  abbrev pub drain_list : Drain T A G H g h → ListView T A
  drain_list d = d.list.now

  -- `drain_lender d` is the ghost name of the reference to the list that the `Drain` borrows.
  -- References with equal ghost names borrow the same list.
  abbrev pub drain_lender : Drain T A G H g h → GName
  drain_lender d = d.list.ghost_name

  -- `DrainKeeps old new` states that `old` and `new` borrow the same list, which is unchanged, and
  -- that dropping `old` would result in the same list as dropping `new`.
  pub record DrainKeeps (old new : Drain T A G H g h) : Type 0 where
    pub lender : drain_lender new ≡ drain_lender old
    pub meanwhile : drain_list new ≡ drain_list old
    pub after_drop : list_after_drain new ≡ list_after_drain old

  -- `DrainSteps old item new` holds if a call to `next` returned `item` and changed the `Drain`
  -- from `old` to `new`: `item` is the first of the remaining items, or `None` if there was none.
  pub record DrainSteps (old : Drain T A G H g h) (item : Option T) (new : Drain T A G H g h)
      : Type 0 where
    pub gave : YieldsFirst drain_rest old item new
    pub keeps : DrainKeeps old new

  -- `DrainStepsBack old item new` holds if a call to `next_back` returned `item` and changed the
  -- `Drain` from `old` to `new`: `item` is the last of the remaining items, or `None` if there was
  -- none.
  pub record DrainStepsBack (old : Drain T A G H g h) (item : Option T) (new : Drain T A G H g h)
      : Type 0 where
    pub gave : YieldsLast drain_rest old item new
    pub keeps : DrainKeeps old new

  -- `DrainKeepsAlong d` states that calls to `next` on the `Drain` `d`, however many there are,
  -- and even if the last of them returns `None`, change neither the borrowed list nor the list that
  -- will remain after `d` is dropped (`DrainKeeps`). This follows from `DrainSteps`.
  abbrev pub DrainKeepsAlong : Drain T A G H g h → Type 0
  DrainKeepsAlong first = (items : List T) (later : Drain T A G H g h)
      → Yields DrainSteps first items later ⊎ YieldsThen DrainSteps first items None later
      → DrainKeeps first later

  -- `DrainYieldsInOrder d` states that calls to `next` on any `Drain` of the type of `d` yield the
  -- remaining items of the range in order. (Only the type of `d` matters.) This follows from
  -- `DrainSteps`.
  abbrev pub DrainYieldsInOrder : Drain T A G H g h → Type 0
  DrainYieldsInOrder d = YieldsInOrder DrainSteps drain_rest

  -- `DrainYieldsInReverse d` states that calls to `next_back` on any `Drain` of the type of `d`
  -- yield the remaining items of the range in reverse order. (Only the type of `d` matters.) This
  -- follows from `DrainStepsBack`.
  abbrev pub DrainYieldsInReverse : Drain T A G H g h → Type 0
  DrainYieldsInReverse d = YieldsInReverse DrainStepsBack drain_rest
