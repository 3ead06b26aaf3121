-- These definitions name the parts of a `Splice`, and describe the list and the error after a call
-- to `finish`. (std: `Vec::splice`)
use Rattle.std.specs.Prelude.{◌≡◌, ◌⊎◌, ◌+◌, ◌-◌, ◌<◌, [], ◌++◌, IsSome, List, Option, if◌then◌else◌, ◌==◌, length, vec_capacity, ℕ}
use Rattle.std.specs.Iterator.{Count, YieldsFirst, YieldsLast, YieldsThen}
use Rattle.std.specs.Iterator.SizeHint.{IsWithinCount}
use Rattle.std.specs.Option.{option_to_list}
use Rattle.std.specs.declared.option.Option.TheVariants.{None, Some}
use Rattle.std.specs.Align.{type_align}
use Rattle.std.specs.Borrow.{GName, RattleType}
use Rattle.std.specs.Mem.{type_size}
use Rattle.thin_block.specs.declared.errors.ThinVecError.TheVariants.{OutOfMemory}
use Rattle.thin_block.specs.Cost.{Cost, add_moves, add_realloc}
use Rattle.thin_block.specs.Growth.{GrowthRule, grown_capacity}
use Rattle.thin_block.specs.declared.growth.Growth.{Ghosts}
use Rattle.thin_vec.specs.List.Capacity.{FailsForRoom}
use Rattle.thin_vec.specs.List.Extend.{YieldsAndCanContinue}
use Rattle.thin_vec.specs.OpenView.{OpenView}
use Rattle.thin_vec.specs.ThinVec.{ListView, capacity_after_reserve}
use Rattle.thin_vec.specs.declared.errors.SpliceRefused.{SpliceRefused}
use Rattle.thin_vec.specs.declared.edits.splice.Splice.{Splice}
use Rattle.thin_vec.specs.declared.edits.holder.IntoInner.{Ghosts as IntoInnerGhosts}

module _ {S T A : Type 0} (steps : S → Option T → S → Type 0) where
  -- `SpliceErrorAccountsFor steps can remaining s placed error` describes a call to `finish` that
  -- inserted the items `placed` and then failed with `error`. The iterator `s` yielded first the
  -- items `placed`, and then the items that `error` contains: those in `held`, and then `in_hand`.
  -- `YieldsAndCanContinue` says what `steps`, `can` and `remaining` are. One of two cases holds:
  --
  -- - `next` may be called on the `rest` of the iterator. There are items in `held` only if there
  --   is an item `in_hand`.
  -- - The iterator has ended. There are items in `held`, and none `in_hand`.
  abbrev pub SpliceErrorAccountsFor : (S → Type 0) → (S → Count) → S → List T → SpliceRefused T S A
      → Type 0
  SpliceErrorAccountsFor can remaining s placed error =
      (YieldsAndCanContinue steps can remaining s
      ((placed ++ error.held.items) ++ option_to_list error.in_hand) error.rest
      × (error.in_hand ≡ None → error.held.items ≡ []))
      ⊎ ((error.in_hand ≡ None) × (0 < length error.held.items)
      × YieldsThen steps s (placed ++ error.held.items) None error.rest)

-- `cost_after_growth n c d cost` is the recorded cost of a list of `n` items after its capacity
-- changed from `c` to `d`, if it was `cost` before.
abbrev pub cost_after_growth : ℕ → ℕ → ℕ → Cost → Cost
cost_after_growth n c d cost = if d == c then cost else add_realloc n cost

module _ {T A : Type 0} where
  -- `IsAfterSplice rule R k t v h w limit` says which capacity and which cost the list `w` has. It
  -- is the list `v` after `finish` inserted items of an iterator before the last `t` items. The
  -- range has `k` slots, the growth rule is `rule`, the item type is `R`, and the iterator could
  -- yield at most `limit` items.
  --
  -- The list makes room for the new items in two steps: once the range is full, it reserves `h`
  -- more slots, and once these are full, too, it makes room for all items that are left.
  pub record IsAfterSplice (rule : GrowthRule) (R : RattleType) (k t : ℕ) (v : ListView T A) (h : ℕ)
      (w : ListView T A) (limit : Count) : Type 0 where
    -- The range and the `h` slots have at most as many slots as the iterator could yield items.
    -- Tests show that `h` is the lower bound in the size hint, or 0 if nothing was reserved.
    pub within : (h ≡ 0) ⊎ IsWithinCount (k + h) limit
    -- If the new items do not fill the range, nothing was reserved.
    pub short : length w.items < length v.items + k → h ≡ 0
    -- The capacity after the first step.
    pub reserved : ℕ
    pub reserves : capacity_after_reserve rule R v (k + h) ≡ Some reserved
    -- The capacity after the second step. It is `reserved` if the new items fit into the range and
    -- the `h` slots, as after a failure.
    pub capacity : grown_capacity rule (type_size R) (type_align R) reserved (length w.items)
        ≡ Some w.capacity
    -- Each new item moves once. The last `t` items do not move if `h` is 0 and the new items just
    -- fill the range. They move twice if `h` is above 0 and the new items do not just fill the
    -- range and the `h` slots. Otherwise, they move once.
    pub cost :
        let inserted = length w.items - length v.items in
        let once = if h == 0 then 0 else t in
        let again = if length w.items == length v.items + k + h then 0 else t in
        let first = cost_after_growth (length v.items + k) v.capacity reserved v.cost in
        let second = cost_after_growth (length v.items + k + h) reserved w.capacity first in
        w.cost ≡ add_moves (inserted + once + again) second

  -- `IsSpliceCause rule R w tail limit error` states why a call to `finish` failed with `error`.
  -- The growth rule is `rule`, the item type is `R`, the list after the call is `w`, and the items
  -- after the range are `tail`. The rest of the iterator may yield at most `limit` items. For each
  -- error that `finish` returns, the premises of exactly one field hold.
  pub record IsSpliceCause {S : Type 0} (rule : GrowthRule) (R : RattleType) (w : ListView T A)
      (tail : List T)
      (limit : Count) (error : SpliceRefused T S A) : Type 0 where
    -- If the error contains no item, there was no room for `h` more items in the list, where `h`
    -- is a possible lower bound in the size hint (see `cause` of `extend`).
    pub by_hint : error.held.items ≡ [] → error.in_hand ≡ None
        → (h : ℕ) × IsWithinCount h limit × FailsForRoom rule R w h error.cause
    -- If the error contains only items in `held`, there was no room for these items in the list.
    pub by_held : 0 < length error.held.items → error.in_hand ≡ None
        → FailsForRoom rule R w (length error.held.items) error.cause
    -- If items follow the range and there is an item `in_hand`, the vector `held` is full, and
    -- could not get memory for this item.
    pub by_in_hand : 0 < length tail → IsSome error.in_hand
        → (error.cause ≡ OutOfMemory) × (length error.held.items ≡ vec_capacity error.held)
    -- If no item follows the range and there is an item `in_hand`, there was no room for this item
    -- in the list.
    pub by_push : tail ≡ [] → IsSome error.in_hand → FailsForRoom rule R w 1 error.cause

module _ {I T A G H : Type 0} {g : Ghosts G} {h : IntoInnerGhosts H (OpenView T A)} where
  -- `list_without_range s` is the list without the range: the items before and after it. The
  -- contract of `splice` says what this list is, calls to `next` and `next_back` do not change it,
  -- and the contract of `finish` says what `finish` adds to it. The prover unfolds this definition
  -- only on request.
  unfoldable pub list_without_range : Splice I T A G H g h → ListView T A
  list_without_range s = record {
    items = (h.inner s.holder).front ++ (h.inner s.holder).tail;
    capacity = (h.inner s.holder).capacity;
    alloc = s.list.now.alloc;
    cost = (h.inner s.holder).cost;
  }

  -- `splice_front s` contains the items before the range.
  abbrev pub splice_front : Splice I T A G H g h → List T
  splice_front s = (h.inner s.holder).front

  -- `splice_rest s` contains the items of the range that the `Splice` `s` has not yielded yet.
  abbrev pub splice_rest : Splice I T A G H g h → List T
  splice_rest s = (h.inner s.holder).middle

  -- `splice_tail s` contains the items after the range.
  abbrev pub splice_tail : Splice I T A G H g h → List T
  splice_tail s = (h.inner s.holder).tail

  -- `splice_range_len s` is the number of slots of the range, including the slots whose items have
  -- already been yielded.
  abbrev pub splice_range_len : Splice I T A G H g h → ℕ
  splice_range_len s =
      (h.inner s.holder).gap_before + length (h.inner s.holder).middle +
      (h.inner s.holder).gap_after

  -- `splice_iter s` is the iterator whose items will replace the range.
  abbrev pub splice_iter : Splice I T A G H g h → I
  splice_iter s = s.iter

  -- `splice_list s` is the list that the `Splice` `s` borrows, as it is until `finish` is called.
  abbrev pub splice_list : Splice I T A G H g h → ListView T A
  splice_list s = s.list.now

  -- `splice_lender s` is the ghost name of the reference to the list that the `Splice` borrows.
  -- References with equal ghost names borrow the same list.
  abbrev pub splice_lender : Splice I T A G H g h → GName
  splice_lender s = s.list.ghost_name

  -- `SpliceKeeps old new` states that `old` and `new` borrow the same list, which is unchanged, own
  -- the same iterator, and would leave the same list.
  pub record SpliceKeeps (old new : Splice I T A G H g h) : Type 0 where
    pub lender : splice_lender new ≡ splice_lender old
    pub meanwhile : splice_list new ≡ splice_list old
    pub iter : splice_iter new ≡ splice_iter old
    pub front : splice_front new ≡ splice_front old
    pub tail : splice_tail new ≡ splice_tail old
    pub range : splice_range_len new ≡ splice_range_len old
    pub without_range : list_without_range new ≡ list_without_range old

  -- `SpliceSteps old item new` holds if a call to `next` returned `item` and changed the `Splice`
  -- from `old` to `new`: `item` is the first of the remaining items, or `None` if there was none.
  pub record SpliceSteps (old : Splice I T A G H g h) (item : Option T)
      (new : Splice I T A G H g h) : Type 0 where
    pub gave : YieldsFirst splice_rest old item new
    pub keeps : SpliceKeeps old new

  -- `SpliceStepsBack old item new` holds if a call to `next_back` returned `item` and changed the
  -- `Splice` from `old` to `new`: `item` is the last of the remaining items, or `None` if there was
  -- none.
  pub record SpliceStepsBack (old : Splice I T A G H g h) (item : Option T)
      (new : Splice I T A G H g h) : Type 0 where
    pub gave : YieldsLast splice_rest old item new
    pub keeps : SpliceKeeps old new
