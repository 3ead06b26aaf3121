-- These lemmas are about the functions that choose the new capacity of a block: `grown_capacity`,
-- which uses a growth rule, and `exact_capacity`.
use Rattle.std.proofs.Common.{if◌then◌else◌, Bool, true, false, IsTrue, ◌≡◌, ℕ, zero, suc, ◌*◌, ◌^◌}
use Rattle.std.proofs.Common.{◌<◌, ◌≤◌, refl, sym, ◌∙◌, arith}
use native.Mathlib.Decide.{dec_lt}
use native.Mathlib.Nat.{mul-le-mul_left, mul-le-mul_right}
use borrow.Author.Tests.{lt-ltb, le-ltb, le-leb, lt-leb}
use denote.RattleType.{RattleType}
use Rattle.core.proofs.ptr.Rows.{times_below}
use Rattle.std.specs.Align.{type_align}
use Rattle.std.specs.Mem.{type_size}
use Rattle.std.specs.declared.option.Option.TheVariants.{Some, None}
use Rattle.thin_block.specs.Capacity.{fits, Fits}
use Rattle.thin_block.specs.Growth.{GrowthRule, IsLawful, IsValidGrowth, exact_capacity}
use Rattle.thin_block.specs.Growth.{checked_capacity, grown_capacity}
use Rattle.thin_block.proofs.sizes.SizesLemmas.{fits_tells, fits_yes, rounded}
pub use Rattle.thin_block.proofs.sizes.SizesLemmas.{fits-none}

pub ruled-same : (rule : GrowthRule) (s a c w : ℕ) → w ≤ c → grown_capacity rule s a c w ≡ Some c
unfolding grown_capacity
ruled-same rule s a c w enough = rw (le-leb w c enough) refl

pub ruled-overflow : (rule : GrowthRule) (s a c w : ℕ) → c < w → 2 ^ 64 ≤ w
    → grown_capacity rule s a c w ≡ None
unfolding grown_capacity
ruled-overflow rule s a c w more high = rw (lt-leb w c more) (rw (le-ltb w (2 ^ 64) high) refl)

pub ruled-rule : (rule : GrowthRule) (s a c w : ℕ) → c < w → w < 2 ^ 64
    → grown_capacity rule s a c w ≡ rule s a c w
unfolding grown_capacity
ruled-rule rule s a c w more word = rw (lt-leb w c more) (rw (lt-ltb w (2 ^ 64) word) refl)

pub ruled-grows : (rule : GrowthRule) (s a c w n : ℕ) → IsLawful rule → c < w
    → grown_capacity rule s a c w ≡ Some n → IsValidGrowth s a c w n
ruled-grows rule s a c w n law more e = elim (dec_lt w (2 ^ 64)) [
  | yes word ↦ law s a c w n more word (sym (ruled-rule rule s a c w more word) ∙ e)
  | no high ↦ cc (ruled-overflow rule s a c w more (omega arith))
]

pub fits-small : (R : RattleType) (c : ℕ) → Fits R c → c < 2 ^ 63
fits-small R c e = (fits_tells R c e).few

pub fits-bytes : (R : RattleType) (c : ℕ) → Fits R c → c * type_size R < 2 ^ 63
fits-bytes R c e = let room = (fits_tells R c e).room in omega arith

pub fits-part : (R : RattleType) (i c : ℕ) → Fits R c → i ≤ c → i * type_size R < 2 ^ 63
fits-part R i c e less = times_below i c (type_size R) (2 ^ 63) less (fits-bytes R c e)

pub fits-less : (R : RattleType) (c d : ℕ) → Fits R d → c ≤ d → Fits R c
fits-less R c d e less =
    let told = fits_tells R d e in
    let under : c * type_size R ≤ d * type_size R = mul-le-mul_right (type_size R) less in
    fits_yes R c (omega arith) (omega arith)

-- The next lemmas are about fewer than `2 ^ 31` items of fewer than `2 ^ 31` bytes each. A block
-- for these items is far below every size limit.

pub few-bytes : (c s : ℕ) → c < 2 ^ 31 → s < 2 ^ 31 → c * s < 2 ^ 62
few-bytes c s few small =
    let wide : c * s ≤ c * (2 ^ 31) =
    mul-le-mul_left c (let less : s ≤ 2 ^ 31 = omega arith in less) in
    omega arith

pub small-fits : (R : RattleType) (c : ℕ) → c < 2 ^ 31 → type_size R < 2 ^ 31 → Fits R c
small-fits R c few small =
    let bytes : c * type_size R < 2 ^ 62 = few-bytes c (type_size R) few small in
    let about = rounded R 0 in
    fits_yes R c (omega arith) (omega (arith, about.most))

pub exact-same : (s a c w : ℕ) → w ≤ c → exact_capacity s a c w ≡ Some c
unfolding exact_capacity
exact-same s a c w enough = rw (le-leb w c enough) refl

pub exact-fits : (R : RattleType) (c w : ℕ) → c < w → Fits R w
    → exact_capacity (type_size R) (type_align R) c w ≡ Some w
unfolding exact_capacity checked_capacity
exact-fits R c w more fit = rw (lt-leb w c more, fit) refl

no-answer : (b : Bool) (n : ℕ) → (IsTrue b → ⊥) → (if b then Some n else None) ≡ None
no-answer true n never = absurd (never refl)
no-answer false n never = refl

pub fitting-none : (R : RattleType) (n : ℕ) → (Fits R n → ⊥)
    → checked_capacity (type_size R) (type_align R) n ≡ None
unfolding checked_capacity
fitting-none R n never = no-answer (fits (type_size R) (type_align R) n) n never

pub exact-overflow : (R : RattleType) (c w : ℕ) → c < w → (Fits R w → ⊥)
    → exact_capacity (type_size R) (type_align R) c w ≡ None
unfolding exact_capacity
exact-overflow R c w more never = rw (lt-leb w c more) (fitting-none R w never)

pub exact-none : (R : RattleType) (w : ℕ) → (Fits R w → ⊥)
    → exact_capacity (type_size R) (type_align R) 0 w ≡ None
exact-none R zero never = absurd (never (fits-none R))
exact-none R (suc w) never = exact-overflow R 0 (suc w) (omega arith) never

pub exact-past : (R : RattleType) (c w : ℕ) → c < w → 2 ^ 64 ≤ w
    → exact_capacity (type_size R) (type_align R) c w ≡ None
exact-past R c w more high =
    exact-overflow R c w more (λ fit. let small = fits-small R w fit in absurd (omega arith))

pub ruleset ruled = (ruled-same, ruled-overflow, ruled-rule)

pub ruleset exact = (exact-same, exact-fits, exact-overflow, exact-none, exact-past, fits-none)
