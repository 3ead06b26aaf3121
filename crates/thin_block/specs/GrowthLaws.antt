-- This file proves that the rule `doubling` satisfies the law of growth rules (`IsLawful`).
use Rattle.std.specs.Prelude.{◌≡◌, ℕ, ◌*◌, ◌≤◌, ◌==◌, Bool, true, false, IsTrue, if◌then◌else◌, max, refl}
use Rattle.std.specs.declared.option.Option.TheVariants.{Some, None}
use Rattle.std.proofs.Common.{subst, arith}
use Rattle.std.proofs.lemmas.Bool.Decides.{nat_tests}
use Rattle.thin_block.specs.Capacity.{fits, min_non_zero_cap}
use Rattle.thin_block.specs.Growth.{IsLawful, doubling, checked_capacity}

when_some : (b : Bool) (m n : ℕ) → (if b then Some m else None) ≡ Some n → (b ≡ true) × (m ≡ n)
when_some true m n e = (refl, cc)
when_some false m n e = cc

pub fitting_is : (s a m n : ℕ) → checked_capacity s a m ≡ Some n → IsTrue (fits s a m) × (m ≡ n)
unfolding checked_capacity
fitting_is s a m n e = when_some (fits s a m) m n e

twice : (s c w : ℕ) → 2 * c ≤ max w (if c == 0 then min_non_zero_cap s else 2 * c)
twice s c w = grind (arith, nat_tests)

-- The rule `doubling` satisfies `IsLawful`, the law of growth rules.
pub doubling_law : IsLawful doubling
unfolding doubling
doubling_law s a c w n more word e =
    let m : ℕ = max w (if c == 0 then min_non_zero_cap s else 2 * c) in
    let told = fitting_is s a m n e in
    let twofold = twice s c w in
    let enough : w ≤ m = omega arith in
    record {
      enough = omega arith;
      doubled = omega arith;
      fits = subst (λ (k : ℕ). IsTrue (fits s a k)) told.1 told.0;
    }
