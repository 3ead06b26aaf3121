-- This file defines a growth rule that multiplies the capacity. It also proves that the rule
-- satisfies `IsLawful`, the law that every growth rule must satisfy. The proof is in the folder
-- `specs` and not in `proofs`, because the implementation of `Growth` refers to it.
use Rattle.std.specs.Prelude.{◌≡◌, ℕ, ◌*◌, ◌≤◌, Bool, true, false, IsTrue, if◌then◌else◌, max, refl}
use Rattle.std.specs.declared.option.Option.TheVariants.{Some, None}
use Rattle.std.proofs.Common.{mul-le-mul_right, subst, arith}
use Rattle.thin_vec.specs.Capacity.{fits}
use Rattle.thin_vec.specs.Growth.{GrowthRule, IsLawful, checked_capacity}

-- The growth rule `multiple k` chooses `k` times the old capacity, or the required capacity if that
-- is greater. It returns `None` if a block of the chosen capacity is too large to be allocated.
unfoldable pub multiple : ℕ → GrowthRule
multiple k s a c w = checked_capacity s a (max w (k * c))

-- The growth rule `threefold` chooses three times the old capacity, or the required capacity if
-- that is greater.
abbrev pub threefold : GrowthRule
threefold = multiple 3

-- If `if b then Some m else None` equals `Some n`, then `b` is true, and `m` equals `n`.
when_some : (b : Bool) (m n : ℕ) → (if b then Some m else None) ≡ Some n → (b ≡ true) × (m ≡ n)
when_some true m n e = (refl, cc)
when_some false m n e = cc

-- `checked_capacity s a m` is `Some m` if a block with room for `m` items of size `s` and alignment
-- `a` is small enough to be allocated. Otherwise, it is `None`. So if `checked_capacity s a m`
-- equals `Some n`, then this block is small enough, and `m` equals `n`.
fitting_is : (s a m n : ℕ) → checked_capacity s a m ≡ Some n → IsTrue (fits s a m) × (m ≡ n)
unfolding checked_capacity
fitting_is s a m n e = when_some (fits s a m) m n e

-- If `2 <= k`, then the growth rule `multiple k` satisfies `IsLawful`, the law that every growth
-- rule must satisfy.
multiple_law : (k : ℕ) → 2 ≤ k → IsLawful (multiple k)
unfolding multiple
multiple_law k least s a c w n more word e =
    let told = fitting_is s a (max w (k * c)) n e in
    let twice : 2 * c ≤ k * c = mul-le-mul_right c least in
    record {
      enough = omega (arith, told.1);
      doubled = omega (arith, twice, told.1);
      fits =
          subst (λ (m : ℕ). IsTrue (fits s a m)) told.1 told.0;
    }

-- The growth rule `threefold` satisfies `IsLawful`, the law that every growth rule must satisfy.
pub threefold_law : IsLawful threefold
threefold_law = multiple_law 3 (omega arith)
