-- This file proves that the rule `power_bytes` satisfies the law of growth rules. It also proves
-- that, for items of at least one byte, each capacity that the rule chooses is the greatest
-- capacity for which a block fits into `p` bytes, for some power of two `p`. The proofs are in
-- `specs`, because the impl of `Growth` names the lemma `power_bytes_law`.
use Rattle.std.specs.Prelude.{◌≡◌, ℕ, zero, suc, ◌+◌, ◌-◌, ◌*◌, ◌/◌, ◌^◌, ◌<◌, ◌≤◌, ◌==◌, nat_le, Bool, true, false, IsTrue, if◌then◌else◌, max, refl}
use Rattle.std.specs.declared.option.Option.TheVariants.{Some}
use Rattle.std.specs.Int.{IsPowerOfTwo, IsNextPowerOfTwo}
use Rattle.std.proofs.Common.{subst, arith, sym, ap, ◌∙◌, inl, inr, add-mul, mod-lt, pow-suc, mul_assoc, pow_mono, pow_pos, eq-zero-or-pos}
use Rattle.std.proofs.lemmas.Bool.{cases_lt}
use Rattle.std.proofs.lemmas.Bool.Decides.{nat_tests}
use Rattle.std.proofs.lemmas.Grind.{pow_more}
use Rattle.std.proofs.lemmas.Nat.{div-add-mod', le-div}
use borrow.Author.Tests.{leb-true, leb-false}
use Rattle.thin_block.specs.Capacity.{fits, items_offset, double_to, least_power}
use Rattle.thin_block.specs.Growth.{FillsPowerOfTwo, IsValidGrowth, IsLawful, doubling, checked_capacity, power_bytes}
use Rattle.thin_block.specs.GrowthLaws.{doubling_law, fitting_is}

-- The next lemmas are about the least power of two that is at least a given number.

below_power : (n : ℕ) → n < 2 ^ n
below_power zero = omega arith
below_power (suc n) = omega (arith, below_power n, pow_more 2 n)

one_step : (b : Bool) (n p next : ℕ) → nat_le n p ≡ b → IsPowerOfTwo p → p / 2 < max 1 n
    → (p < n → IsNextPowerOfTwo n next) → IsNextPowerOfTwo n (if b then p else next)
one_step true n p next e power half later = (power, leb-true n p e, half)
one_step false n p next e power half later = later (leb-false n p e)

doubled_is : (k n p : ℕ) → IsPowerOfTwo p → p / 2 < max 1 n → n ≤ 2 ^ k * p
    → IsNextPowerOfTwo n (double_to k n p)
doubled_is zero n p power half enough = (power, omega (arith, enough), half)
doubled_is (suc k) n p power half enough =
    let next : 2 * p ≡ 2 ^ (power.0 + 1) = omega (arith, power.1, pow_more 2 power.0) in
    let twice : 2 ^ suc k * p ≡ 2 ^ k * (2 * p) = ap (λ (x : ℕ). x * p) (pow-suc 2 k)
    ∙ mul_assoc (2 ^ k) 2 p in
    one_step (nat_le n p) n p (double_to k n (2 * p)) refl power half
    (λ less. doubled_is k n (2 * p) (power.0 + 1, next) (omega (arith, less))
    (omega (arith, enough, twice)))

-- The definition `least_power` is correct.
pub least_power_is : (n : ℕ) → IsNextPowerOfTwo n (least_power n)
unfolding least_power
least_power_is n = doubled_is n n 1 (0, refl) (omega arith) (omega (arith, below_power n))

pub not_more : (n j k : ℕ) → n ≤ 2 ^ k → 2 ^ j / 2 < max 1 n → 2 ^ j ≤ 2 ^ k
not_more n zero k enough half = pow_pos k
not_more n (suc j) k enough half = elim (cases_lt j k) [
  | inl less ↦ pow_mono less
  | inr more ↦ (let under : 2 ^ k ≤ 2 ^ j = pow_mono more in let twice = pow_more 2 j in
      let some = pow_pos j in absurd (omega (arith, half, enough, under, twice, some)))
]

pub one_least_power : (n p q : ℕ) → IsNextPowerOfTwo n p → IsNextPowerOfTwo n q → p ≡ q
one_least_power n p q first second =
    let under = not_more n first.0.0 second.0.0 (subst (λ x. n ≤ x) second.0.1 second.1)
    (subst (λ x. x / 2 < max 1 n) first.0.1 first.2) in
    let over = not_more n second.0.0 first.0.0 (subst (λ x. n ≤ x) first.0.1 first.1)
    (subst (λ x. x / 2 < max 1 n) second.0.1 second.2) in
    omega (arith, first.0.1, second.0.1, under, over)

-- The next lemmas are about the growth rule `PowerBytes`.

pub powers_of_none : (s a c w : ℕ) → s ≡ 0 → power_bytes s a c w ≡ doubling s a c w
unfolding power_bytes
powers_of_none s a c w none = let test : (s == 0) ≡ true = grind (arith, nat_tests) in rw test refl

pub powers_of_some : (s a c w : ℕ) → 0 < s → power_bytes s a c w ≡ checked_capacity s a
    ((least_power (items_offset a + max w (2 * c) * s) - items_offset a) / s)
unfolding power_bytes
powers_of_some s a c w some = let test : (s == 0) ≡ false = grind (arith, nat_tests) in rw test refl

-- In this module, items take `s ≥ 1` bytes, and `power_bytes` chooses the capacity `n` for the old
-- capacity `c` and the required capacity `w`.
module _ (s a c w n : ℕ) (some : 0 < s) (e : power_bytes s a c w ≡ Some n) where
  -- `wanted` is the total size in bytes of `max w (2 * c)` items.
  abbrev wanted : ℕ
  wanted = max w (2 * c) * s

  abbrev power : ℕ
  power = least_power (items_offset a + wanted)

  named : IsTrue (fits s a ((power - items_offset a) / s)) × ((power - items_offset a) / s ≡ n)
  named = fitting_is s a ((power - items_offset a) / s) n (sym (powers_of_some s a c w some) ∙ e)

  room : items_offset a + wanted ≤ power
  room = (least_power_is (items_offset a + wanted)).1

  pub powers_grow : IsValidGrowth s a c w n
  powers_grow =
      let more : max w (2 * c) ≤ (power - items_offset a) / s =
      le-div (max w (2 * c)) (power - items_offset a) s some (omega (arith, room)) in
      record {
        enough = omega (arith, more, named.1);
        doubled = omega (arith, more, named.1);
        fits = subst (λ (k : ℕ). IsTrue (fits s a k)) named.1 named.0;
      }

  pub powers_filled : FillsPowerOfTwo s a n
  powers_filled =
      let parts = div-add-mod' (power - items_offset a) s in
      let rest = mod-lt (power - items_offset a) {m = s} some in
      let whole : (power - items_offset a) / s * s ≡ n * s = ap (λ (k : ℕ). k * s) named.1 in
      let next : (n + 1) * s ≡ n * s + 1 * s = add-mul n 1 s in
      record {
        power = power;
        is_power = (least_power_is (items_offset a + wanted)).0;
        holds = omega (arith, room, parts, whole);
        is_full = omega (arith, room, parts, whole, rest, next);
      }

-- The rule `power_bytes` satisfies `IsLawful`, the law that every growth rule must satisfy.
pub power_bytes_law : IsLawful power_bytes
power_bytes_law s a c w n more word e = elim (eq-zero-or-pos s) [
  | inl none ↦ doubling_law s a c w n more word (sym (powers_of_none s a c w none) ∙ e)
  | inr some ↦ powers_grow s a c w n some e
]
