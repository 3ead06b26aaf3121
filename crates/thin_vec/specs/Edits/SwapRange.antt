-- These definitions are for the contract of `swap_range`. They say how many moves are counted, and
-- when the call fails with `CapacityOverflow`.
use Rattle.std.specs.Prelude.{◌≡◌, ◌↔◌, ◌⊎◌, ℕ, ◌+◌, ◌-◌, ◌==◌, IsErrOf, Option, Result, if◌then◌else◌, length}
use Rattle.std.specs.declared.option.Option.TheVariants.{None}
use Rattle.thin_block.specs.declared.errors.ThinVecError.{ThinVecError}
use Rattle.thin_block.specs.declared.errors.ThinVecError.TheVariants.{CapacityOverflow}
use Rattle.thin_vec.specs.ThinVec.{ListView}

-- `moves_swapping v i j k` is the number of moves that are counted in the list `v` if its items
-- `i..j` are exchanged with `k` items. As many items as both have are exchanged pair by pair, which
-- counts no move.
abbrev pub moves_swapping : {T A : Type 0} → ListView T A → ℕ → ℕ → ℕ → ℕ
moves_swapping v i j k = k - (j - i) + (if j - i == k then 0 else length v.items - j)

-- `OverflowsIffEither wanted other r` states that the result `r` is the error `CapacityOverflow` if
-- and only if one of the options is `None`. They are the capacities that the growth rules of the
-- two lists choose, or `None` if they choose none.
pub record OverflowsIffEither {X : Type 0} (wanted other : Option ℕ) (r : Result X ThinVecError)
    : Type 0
  where
    pub overflow : IsErrOf r CapacityOverflow ↔ ((wanted ≡ None) ⊎ (other ≡ None))
