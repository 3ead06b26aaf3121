-- These definitions describe calls that add one item to a list and return a `&mut` to it, such as
-- `Vec::push_mut`. They say what the list contains after the borrow.
use Rattle.std.specs.Prelude.{◌≡◌, ℕ, List, Result, Some}
use Rattle.std.specs.declared.alloc.Allocator.{Ghosts as AllocatorGhosts}
use Rattle.std.specs.Borrow.{Fml, LendsSoOk, MutBor, RattleType}
use Rattle.thin_block.specs.Growth.{GrowthRule}
use Rattle.thin_block.specs.declared.growth.Growth.{Ghosts as GrowthGhosts}
use Rattle.thin_vec.specs.List.Capacity.{CostsMoves, PreservesList}
use Rattle.thin_vec.specs.ThinVec.{HasRoomFor, ListView, capacity_after_reserve}
use Rattle.thin_vec.specs.contracts.list.ThinVec.{the_row}

-- `InsertsOne rule R v xs k w` holds if a call added one item of the type `R` to the list `v`, and
-- turned it into the list `w` with the items `xs`. The call made `k` moves. If `v` was full, it
-- grew under the growth rule `rule`.
pub record InsertsOne {T A : Type 0} (rule : GrowthRule) (R : RattleType) (v : ListView T A)
    (xs : List T)
    (k : ℕ) (w : ListView T A) : Type 0 where
  pub items : w.items ≡ xs
  pub capacity : capacity_after_reserve rule R v 1 ≡ Some w.capacity
  pub cost : CostsMoves k v w
  -- This follows from `capacity`. It is here for the proofs of callers.
  pub had_room : HasRoomFor v 1 → w.capacity ≡ v.capacity
  pub preserved : PreservesList R v w

module _ (T A G : RattleType) (a : AllocatorGhosts A.Denot) (g : GrowthGhosts G.Denot)
    (v : MutBor (ListView T.Denot A.Denot)) where
  -- `LendsAdded holding k r` describes the result `r` of a call that adds an item with `k` moves.
  -- If `r` is `Ok`, it borrows the new item, and the list contains `holding x` afterwards, where
  -- `x` is the final value of the item. If `r` is `Err`, the list does not change.
  abbrev pub LendsAdded : {E : Type 0} → (T.Denot → List T.Denot) → ℕ
      → Result (MutBor T.Denot) E → Fml
  LendsAdded holding k r = LendsSoOk (the_row T A G a g) T v r
      (λ w x. InsertsOne g.rule T v.now (holding x) k w) (λ w. w ≡ v.now)
