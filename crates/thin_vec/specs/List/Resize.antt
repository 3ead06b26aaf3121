-- This file defines what a failed call to `try_resize_with` leaves.
use Rattle.std.specs.Prelude.{◌≡◌, ℕ, List, ◌++◌, Option, Result, Some, length}
use Rattle.std.specs.List.{FoldsTo}
use Rattle.std.specs.declared.result.Result.TheVariants.{Err, Ok}
use Rattle.thin_vec.specs.List.Capacity.{CostsMoves}
use Rattle.thin_vec.specs.ThinVec.{ListView}

-- `LeftByFailedMake wanted step make error v w` describes a call that reserved room in the list
-- `v`, and appended what the closure `make` returned, until it returned the error `error`. The call
-- left the list `w`. The option `wanted` is the capacity that the growth rule chooses, or `None` if
-- it chooses none. `step f r g` states that a call of the closure `f` may return `r` and leave `g`.
pub record LeftByFailedMake {T A F E : Type 0} (wanted : Option ℕ)
    (step : F → Result T E → F → Type 0) (make : F) (error : E) (v w : ListView T A) : Type 0 where
  pub made : List T
  pub items : w.items ≡ v.items ++ made
  pub capacity : wanted ≡ Some w.capacity
  pub cost : CostsMoves (length made) v w
  -- The closure before the call that failed, and after it.
  pub before : F
  pub calls : FoldsTo (λ f item g. step f (Ok item) g) make made before
  pub after : F
  pub failed : step before (Err error) after
