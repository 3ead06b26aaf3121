-- These lemmas are about the capacity of a list in which a range is replaced.
use Rattle.std.proofs.Common.{◌≡◌, ℕ, ◌+◌, ◌≤◌, Err, None, Ok, Option, Result, Some, ap, arith, inl, inr, length, refl}
use Rattle.std.proofs.lemmas.Bool.{cases_lt}
use Rattle.std.specs.Borrow.{RattleType}
use Rattle.std.specs.Prelude.{IfErr, IsErrOf}
use Rattle.thin_block.specs.Capacity.{Fits}
use Rattle.thin_block.specs.Growth.{GrowthRule, IsLawful}
use Rattle.thin_block.specs.declared.errors.ThinVecError.{ThinVecError}
use Rattle.thin_block.specs.declared.errors.ThinVecError.TheVariants.{CapacityOverflow}
use Rattle.thin_block.proofs.CapacityLemmas.{fits-less, ruled-grows}
use Rattle.thin_vec.specs.ThinVec.{IsBounded, IsCauseOf, ListView, capacity_after_reserve}

never-some : (o : Option ℕ) → ((c : ℕ) → o ≡ Some c → ⊥) → o ≡ None
never-some None never = refl
never-some (Some c) never = absurd (never c refl)

-- If a block for `n` items is too large, no growth rule chooses a capacity for `n` items or more.
pub too-many : {T A : Type 0} (rule : GrowthRule) (R : RattleType) (v : ListView T A) (k n : ℕ)
    → IsLawful rule → IsBounded R v → (Fits R n → ⊥) → n ≤ length v.items + k
    → capacity_after_reserve rule R v k ≡ None
too-many rule R v k n law bounded never some =
    elim (cases_lt v.capacity (length v.items + k)) [
      | inl more ↦ never-some (capacity_after_reserve rule R v k)
          (λ c is. let grown = ruled-grows rule _ _ v.capacity (length v.items + k) c law more is in
          never (fits-less R n c grown.fits (omega (arith, grown.enough, some))))
      | inr spare ↦ absurd
          (never (fits-less R n v.capacity bounded.fits (omega (arith, spare, some))))
    ]

-- If a call returns `CapacityOverflow` only if no capacity is chosen, the cause of each of its
-- errors is right.
pub cause-of : {X : Type 0} (r : Result X ThinVecError) (wanted : Option ℕ)
    → (IsErrOf r CapacityOverflow → wanted ≡ None) → IfErr r (IsCauseOf wanted)
cause-of (Ok x) wanted h = tt
cause-of (Err cause) wanted h = λ is. h (ap Err is)
