-- These definitions describe calls that need room in a list: their errors, their cost, and what
-- they preserve. (std: `Vec::reserve`)
use Rattle.std.specs.Prelude.{◌≡◌, ◌↔◌, ℕ, ◌<◌, ◌≤◌, IsErrOf, Option, Result}
use Rattle.std.specs.declared.option.Option.TheVariants.{None}
use Rattle.std.specs.declared.result.Result.TheVariants.{Ok, Err}
use Rattle.std.specs.Align.{type_align}
use Rattle.std.specs.Borrow.{RattleType}
use Rattle.std.specs.Mem.{type_size}
use Rattle.thin_block.specs.declared.errors.ThinVecError.{ThinVecError}
use Rattle.thin_block.specs.declared.errors.ThinVecError.TheVariants.{CapacityOverflow}
use Rattle.thin_block.specs.Cost.{Cost, add_moves}
use Rattle.thin_block.specs.Growth.{GrowthRule, exact_capacity}
use Rattle.thin_vec.specs.Cheap.{IsCheap}
use Rattle.thin_vec.specs.ThinVec.{ListView, HasRoomFor, IsBounded, capacity_after_reserve, cost_after_resize}
use Rattle.thin_vec.specs.declared.errors.Rejected.{Rejected}

-- `map_cause r` is `r`, with the error, if there is one, replaced by its cause. In Rust, this is
-- `r.map_err(|error| error.cause)`.
abbrev pub map_cause : {X T : Type 0} → Result X (Rejected T) → Result X ThinVecError
map_cause (Ok x) = Ok x
map_cause (Err e) = Err e.cause

-- `OverflowsIff wanted r` states that the result `r` is the error `CapacityOverflow` if and only
-- if `wanted` is `None`. The option `wanted` is the capacity that the growth rule chooses, or
-- `None` if it chooses none. (For a call that asks for an exact capacity, it is this capacity, or
-- `None` if a block of this capacity would be too large.)
pub record OverflowsIff {X : Type 0} (wanted : Option ℕ) (r : Result X ThinVecError) : Type 0
  where
    pub overflow : IsErrOf r CapacityOverflow ↔ (wanted ≡ None)

-- `OverflowsIffTooLarge R n r` states that the result `r` is the error `CapacityOverflow` if and
-- only if a capacity of `n` items of the type `R` is too large.
pub record OverflowsIffTooLarge {X : Type 0} (R : RattleType) (n : ℕ)
    (r : Result X ThinVecError) : Type 0
  where
    pub overflow : IsErrOf r CapacityOverflow
        ↔ (exact_capacity (type_size R) (type_align R) 0 n ≡ None)

-- `FailsToAllocate R h cause` states why a call failed with the error `cause`: it could not
-- allocate a block of capacity `h`, which is not 0, for items of the type `R`. The cause is
-- `CapacityOverflow` if and only if this block would be too large.
abbrev pub FailsToAllocate : RattleType → ℕ → ThinVecError → Type 0
FailsToAllocate R h cause =
    (0 < h) × ((cause ≡ CapacityOverflow)
    ↔ (exact_capacity (type_size R) (type_align R) 0 h ≡ None))

-- `MovesAtMost n before after` states that the recorded cost `after` is the cost `before` plus at
-- most `n` moves. No request was made, and nothing was copied.
pub record MovesAtMost (n : ℕ) (before after : Cost) : Type 0 where
  pub moves : ℕ
  pub few : moves ≤ n
  pub cost : after ≡ add_moves moves before

module _ {T A : Type 0} where
  -- `CostsMoves n v w` states that changing the list `v` to `w` took exactly `n` moves. If the
  -- capacity changed, it also took one request for memory, which copied all items of `v`.
  abbrev pub CostsMoves : ℕ → ListView T A → ListView T A → Type 0
  CostsMoves n v w = w.cost ≡ add_moves n (cost_after_resize v w.capacity)

  -- `FailsForRoom rule R w k cause` states why a call failed with the error `cause`: the list `w`
  -- has no room for `k` more items of the type `R`. Here, `w` is the list at the time of the
  -- failure, which does not change it. The cause is `CapacityOverflow` if and only if the growth
  -- rule `rule` chooses no capacity for these items.
  abbrev pub FailsForRoom : GrowthRule → RattleType → ListView T A → ℕ → ThinVecError → Type 0
  FailsForRoom rule R w k cause =
      ¬ (HasRoomFor w k)
      × ((cause ≡ CapacityOverflow) ↔ (capacity_after_reserve rule R w k ≡ None))

  -- `PreservesList R v w` says what stays true in a call that changes the list `v` of items of the
  -- type `R` to `w`. The allocator did not change, the capacity did not shrink, and the bound
  -- `IsCheap` on the cost was preserved. Before and after the call, the length and the capacity are
  -- within their bounds (`within`). In a contract that also has a clause `capacity`, the field
  -- `never_less` follows from that clause.
  pub record PreservesList (R : RattleType) (v w : ListView T A) : Type 0 where
    pub alloc : w.alloc ≡ v.alloc
    pub never_less : v.capacity ≤ w.capacity
    pub cheap : IsCheap v → IsCheap w
    pub within : IsBounded R v × IsBounded R w

  -- `IsFreshList R a w` holds if the new list `w` of items of the type `R` has the allocator `a`, a
  -- low recorded cost (`IsCheap`), and a capacity that can be allocated (`IsBounded`).
  pub record IsFreshList (R : RattleType) (a : A) (w : ListView T A) : Type 0 where
    pub alloc : w.alloc ≡ a
    pub cheap : IsCheap w
    pub within : IsBounded R w
