-- These definitions are for the private functions that `Splice::finish` calls. No public contract
-- uses these definitions.
use Rattle.std.specs.Prelude.{◌≡◌, ◌+◌, ◌<◌, ◌≤◌, List, [], ◌++◌, IfErr, IsOk, MatchOption, None, OnErr, OnOk, Option, length, ℕ}
use Rattle.std.specs.Iterator.{Count, Drains, size}
use Rattle.std.specs.Iterator.SizeHint.{IsWithinCount}
use Rattle.std.specs.declared.result.Result.{Result}
use Rattle.std.specs.Borrow.{RattleType}
use Rattle.thin_block.specs.Growth.{GrowthRule}
use Rattle.thin_vec.specs.Cheap.{IsCheap}
use Rattle.thin_vec.specs.Edits.Splice.{IsAfterSplice, IsSpliceCause, SpliceErrorAccountsFor}
use Rattle.thin_vec.specs.List.Extend.{IsAfterExtend}
use Rattle.thin_vec.specs.OpenView.{OpenView}
use Rattle.thin_vec.specs.ThinVec.{HasRoomFor, ListView}
use Rattle.thin_vec.specs.declared.errors.SpliceRefused.{SpliceRefused}

module _ {T A : Type 0} where
  -- `without_middle v a` is the list of the front items and the tail items of the open block `v`,
  -- with the allocator `a`.
  abbrev pub without_middle : OpenView T A → A → ListView T A
  without_middle v a = record {
    items = v.front ++ v.tail;
    capacity = v.capacity;
    alloc = a;
    cost = v.cost;
  }

  -- `with_replacement v xs` contains the front items of the open block `v`, then the items `xs`,
  -- and then the tail items of `v`.
  abbrev pub with_replacement : OpenView T A → List T → List T
  with_replacement v xs = (v.front ++ xs) ++ v.tail

  -- `AddsFromIter v w limit` describes how adding items of an iterator turned the list `v` into
  -- `w`. The iterator could yield at most `limit` items.
  pub record AddsFromIter (v w : ListView T A) (limit : Count) : Type 0 where
    pub never_less : v.capacity ≤ w.capacity
    pub had_room : HasRoomFor v (size limit) → w.capacity ≡ v.capacity
    pub kept : w.capacity ≡ v.capacity → w.cost.blocks ≡ v.cost.blocks
    pub alloc : w.alloc ≡ v.alloc
    pub cheap : IsCheap v → IsCheap w

module _ {S T A : Type 0} (steps : S → Option T → S → Type 0) (can : S → Type 0)
    (remaining : S → Count) where
  -- `FinishesSplice` describes a call that puts the items of the iterator `s` into the open block
  -- `v`, in place of the removed range. The call returns `result`, and the list after the call is
  -- `w`. This list has the allocator `a`, the growth rule `rule` and the item type `R`.
  pub record FinishesSplice (rule : GrowthRule) (R : RattleType) (v : OpenView T A) (a : A) (s : S)
      (w : ListView T A) (result : Result (Unit {0}) (SpliceRefused T S A)) : Type 0 where
    pub succeeds : size (remaining s) ≤ v.gap_before → IsOk result
    pub succeeds_at_end : v.tail ≡ [] → HasRoomFor (without_middle v a) (size (remaining s))
        → IsOk result
    pub items : OnOk result ((xs : List T) × Drains steps s xs × (w.items ≡ with_replacement v xs))
    pub longer : length (v.front ++ v.tail) ≤ length w.items
    pub taken : AddsFromIter (without_middle v a) w (remaining s)
    pub at_end : v.tail ≡ [] → (h : ℕ) × IsWithinCount h (remaining s)
        × IsAfterExtend rule R (without_middle v a) h w
    pub before_tail : 0 < length v.tail → (h : ℕ)
        × IsAfterSplice rule R v.gap_before (length v.tail) (without_middle v a) h w (remaining s)
        × OnErr result (length w.items ≡ length (v.front ++ v.tail) + v.gap_before + h)
    pub placed : IfErr result (λ error. (xs : List T) × (w.items ≡ with_replacement v xs)
        × SpliceErrorAccountsFor steps can remaining s xs error)
    pub cause : IfErr result
        (λ error. IsSpliceCause rule R w v.tail (remaining error.rest) error)
    pub held_at_end : v.tail ≡ [] → IfErr result (λ error. error.held.items ≡ [])
    pub in_hand_at_end : v.tail ≡ [] → IfErr result (λ error. MatchOption error.in_hand
        ((w ≡ without_middle v a) × (error.rest ≡ s))
        (λ _. length w.items ≡ w.capacity))
    pub in_hand_before_tail : 0 < length v.tail → IfErr result (λ error. error.held.items ≡ []
        → error.in_hand ≡ None → length w.items ≡ length (v.front ++ v.tail) + v.gap_before)
