-- This file describes an allocation that the allocator resizes as an array. It begins with a gap:
-- unused memory, where the header of a block is otherwise.
use Rattle.std.specs.Prelude.{◌≡◌, ℕ, ◌+◌, ◌-◌, ◌*◌, ◌≤◌, List, ◌++◌, length, Result}
use Rattle.core.specs.declared.result.Result.TheVariants.{Ok, Err}
use Rattle.std.specs.Mem.{type_size}
use base.Fml.{Fml, ffalse, fsep, froom}
use mir.Syntax.{Ty}
use denote.RattleType.{RattleType}
use denote.RawPtr.{Ptr, block_ptr, null_ptr}
use Rattle.core.specs.Allocator.{FitsBlock, array_of}
use Rattle.thin_block.specs.Ownership.{slots_own}
use Rattle.thin_block.specs.Slots.{filled_slots, empty_slots}

-- `FitsGap R k n held wanted xs` holds if the list `xs` has `n` values of the type `R`, at least as
-- many as the `k` values of the gap, and if allocations for `current` and for `wanted` values have
-- room for the gap and the list, and are small enough.
pub record FitsGap (R : RattleType) (k n current wanted : ℕ) (xs : List R.Denot) : Type 0 where
  pub count : length xs ≡ n
  pub enough : k ≤ n
  pub room : k + n ≤ current
  pub new_room : k + n ≤ wanted
  pub fits : FitsBlock R current
  pub new_fits : FitsBlock R wanted

-- `gapped_items t R p k n c xs` is an allocation for `c` values of the type `R` at the address `p`,
-- with the right `t` to free it. It contains a gap of `k` values, the `n` values `xs`, and
-- uninitialized memory for the other values.
abbrev pub gapped_items : (Ty → Ptr → Fml) → (R : RattleType) → Ptr → ℕ → ℕ → ℕ → List R.Denot → Fml
gapped_items t R null_ptr k n c xs = ffalse
gapped_items t R (block_ptr b o) k n c xs =
    fsep (froom (array_of R k) b o)
    (fsep (slots_own R (filled_slots xs ++ empty_slots (c - (k + n))) b (o + k * type_size R))
    (t (array_of R c) (block_ptr b o)))

-- `gapped_if_ok` states what a change from `current` to `wanted` values leaves: the allocation in
-- its new size if it succeeded, and the unchanged allocation if it failed.
abbrev pub gapped_if_ok : {E : Type 0} → (Ty → Ptr → Fml) → (R : RattleType) → Ptr → ℕ → ℕ → ℕ → ℕ
    → List R.Denot → Result Ptr E → Fml
gapped_if_ok t R p k n current wanted xs (Ok q) = gapped_items t R q k n wanted xs
gapped_if_ok t R p k n current wanted xs (Err e) = gapped_items t R p k n current xs
