-- These arithmetic lemmas are about the size of a block in bytes, and about the capacities for
-- which a block is small enough to be allocated.
use Rattle.std.proofs.Common.{◌≡◌, ℕ, zero, suc, ◌+◌, ◌-◌, ◌*◌, ◌/◌, ◌^◌, ◌<◌, ◌≤◌, Bool, true}
use Rattle.std.proofs.Common.{false, refl, sym, ap, subst, ◌∙◌, arith, ltb, zero-mul, suc-mul, inl}
use Rattle.std.proofs.Common.{inr, eq-zero-or-pos as eq-or-pos}
use mathlib.Core.Bool.{◌&&◌}
use native.Mathlib.Nat.{mul-le-mul_right}
use borrow.Author.Tests.{lt-ltb, le-ltb, ltb-true}
use mir.Syntax.{Width, w8, w16, w32, w64, w128}
use mir.Val.{bytes}
use prog.Align.{align_w, align-bytes}
use prog.Capped.{capped_fits, capped_is, capped_small}
use prog.Memory.{capped}
use denote.Param.{layout}
use denote.RattleType.{RattleType}
use Rattle.std.proofs.lemmas.Bool.{and_from, and_parts, cases_lt}
use Rattle.std.proofs.lemmas.Bool.Decides.{nat_tests}
use Rattle.std.proofs.lemmas.Nat.{div-add-mod', le-div}
use Rattle.std.specs.Align.{type_align}
use Rattle.std.specs.Int.{next_multiple_of}
use Rattle.std.specs.Mem.{type_size}
use Rattle.std.specs.Prelude.{max, min, ◌==◌, if◌then◌else◌}
use Rattle.std.specs.declared.option.Option.TheVariants.{Some, None}
use Rattle.thin_block.specs.Capacity.{items_offset, block_align, block_bytes, fits, Fits}
use Rattle.thin_block.specs.Capacity.{min_non_zero_cap}
use Rattle.thin_block.specs.Growth.{checked_capacity, doubling}

-- The next lemmas are about rounding a size up to a multiple of an alignment.

-- `Rounded a x` collects bounds on the alignment and the size of a block whose items have the
-- alignment `a` and take `x` bytes in total.
pub record Rounded (a x : ℕ) : Type 0 where
  pub least : 8 ≤ block_align a
  pub most : block_align a ≤ 16
  pub offset : items_offset a ≡ 16
  pub above : x + 16 ≤ next_multiple_of (items_offset a + x) (block_align a)
  pub tells : next_multiple_of (items_offset a + x) (block_align a) < 2 ^ 63
      → x + 16 + block_align a ≤ 2 ^ 63
  pub short : x + 16 + block_align a ≤ 2 ^ 63 → next_multiple_of (items_offset a + x)
      (block_align a) < 2 ^ 63

rounded_to : (w : Width) (x : ℕ) → Rounded (bytes w) x
rounded_to w8 x = omega arith
rounded_to w16 x = omega arith
rounded_to w32 x = omega arith
rounded_to w64 x = omega arith
rounded_to w128 x = omega arith

-- `IsAlign a` holds if `a` is 1, 2, 4, 8 or 16.
abbrev pub IsAlign : ℕ → Type 0
IsAlign a = (w : Width) × (a ≡ bytes w)

align_known : (R : RattleType) → IsAlign (type_align R)
align_known R = (align_w (layout R), align-bytes (layout R))

pub rounded_at : (a x : ℕ) → IsAlign a → Rounded a x
rounded_at a x is = subst (λ (k : ℕ). Rounded k x) (sym is.1) (rounded_to is.0 x)

pub rounded : (R : RattleType) (x : ℕ) → Rounded (type_align R) x
rounded R x = rounded_at (type_align R) x (align_known R)

-- The next lemmas are about sizes that exceed `usize::MAX`. The code replaces each such size with
-- `usize::MAX`.

pub whole_product : (c s : ℕ) → c * capped s < 2 ^ 63 → c * s ≡ c * capped s
whole_product zero s h = zero-mul s ∙ sym (zero-mul (capped s))
whole_product (suc c) s h =
    let more = suc-mul c (capped s) in
    let low : s < 2 ^ 63 = capped_small s (omega arith) in
    ap (λ (k : ℕ). suc c * k) (sym (capped_is s (omega arith)))

pub capped_product : (c s : ℕ) → c * s < 2 ^ 63 → c * capped s ≡ c * s
capped_product zero s h = zero-mul (capped s) ∙ sym (zero-mul s)
capped_product (suc c) s h = let more = suc-mul c s in
    ap (λ (k : ℕ). suc c * k) (capped_is s (omega arith))

pub capped_le : (s : ℕ) → capped s ≤ s
capped_le s = elim (cases_lt s (2 ^ 64)) [
  | inl low ↦ omega (arith, capped_is s low)
  | inr high ↦ omega (arith, capped_fits s, high)
]

pub positive : (n : ℕ) → (n ≡ 0 → ⊥) → 0 < n
positive zero never = absurd (never refl)
positive (suc n) never = omega arith

lt_of_not : (a b : ℕ) → (a ≤ b → ⊥) → b < a
lt_of_not a b never = omega arith

-- The next lemmas are about blocks that are small enough to be allocated.

-- Suppose that each item has the size `s` and the alignment `a`. `Small s a c` holds if the header,
-- `c` items and `block_align a` bytes for padding take at most `2 ^ 63` bytes in total.
abbrev pub Small : ℕ → ℕ → ℕ → Type 0
Small s a c = c * s + 16 + block_align a ≤ 2 ^ 63

-- `Told s a c` is what holds if a block for `c` items is small enough to be allocated.
pub record Told (s a c : ℕ) : Type 0 where
  pub few : c < 2 ^ 63
  pub room : Small s a c
  pub short : block_bytes s a c < 2 ^ 63

module _ (s a c : ℕ) (is : IsAlign a) where
  pub small_yes : c < 2 ^ 63 → Small s a c → fits s a c ≡ true
  unfolding fits
  small_yes few room =
      let whole : block_bytes s a c < 2 ^ 63 = (rounded_at a (c * s) is).short room in
      and_from (ltb c (2 ^ 63)) (ltb (block_bytes s a c) (2 ^ 63)) (lt-ltb c (2 ^ 63) few)
      (lt-ltb (block_bytes s a c) (2 ^ 63) whole)

  pub small_tells : fits s a c ≡ true → Told s a c
  unfolding fits
  small_tells e =
      let both = and_parts (ltb c (2 ^ 63)) (ltb (block_bytes s a c) (2 ^ 63)) e in
      let few : c < 2 ^ 63 = ltb-true c (2 ^ 63) both.0 in
      let short : block_bytes s a c < 2 ^ 63 = ltb-true (block_bytes s a c) (2 ^ 63) both.1 in
      record { few = few; room = (rounded_at a (c * s) is).tells short; short = short }

-- This module restates the lemmas `small_yes` and `small_tells` for an item type `R`.
module _ (R : RattleType) (c : ℕ) where
  pub fits_yes : c < 2 ^ 63 → Small (type_size R) (type_align R) c → Fits R c
  fits_yes few room = small_yes (type_size R) (type_align R) c (align_known R) few room

  pub fits_tells : Fits R c → Told (type_size R) (type_align R) c
  fits_tells e = small_tells (type_size R) (type_align R) c (align_known R) e

  -- The code of `fits` compares `c` with this quotient. `size` is the size of an item, capped at
  -- `usize::MAX`.
  pub divided : (size : ℕ) → size ≡ capped (type_size R) → 0 < size
      → c ≤ (2 ^ 63 - block_align (type_align R) - 16) / size → Small (type_size R) (type_align R) c
  divided size is some few =
      let about = rounded R 0 in
      let q : ℕ = (2 ^ 63 - block_align (type_align R) - 16) / size in
      let parts = div-add-mod' (2 ^ 63 - block_align (type_align R) - 16) size in
      let under : c * size ≤ q * size = mul-le-mul_right size few in
      let low : c * capped (type_size R) < 2 ^ 63 =
      subst (λ (k : ℕ). c * k < 2 ^ 63) is (omega arith) in
      let same : c * type_size R ≡ c * size = whole_product c (type_size R) low
      ∙ ap (λ (k : ℕ). c * k) (sym is) in
      omega arith

  pub dividing : (size : ℕ) → size ≡ capped (type_size R) → 0 < size
      → Small (type_size R) (type_align R) c → c ≤ (2 ^ 63 - block_align (type_align R) - 16) / size
  dividing size is some room =
      let about = rounded R 0 in
      let same : c * capped (type_size R) ≡ c * type_size R =
      capped_product c (type_size R) (omega arith) in
      let same' : c * size ≡ c * type_size R = ap (λ (k : ℕ). c * k) is ∙ same in
      le-div c (2 ^ 63 - block_align (type_align R) - 16) size some (omega arith)

pub fits-none : (R : RattleType) → Fits R 0
fits-none R =
    let about = rounded R 0 in
    let nothing = zero-mul (type_size R) in
    fits_yes R 0 (omega arith) (omega arith)

pub first_one : (s : ℕ) → 2 ^ 61 - 1 < capped s → 1 ≡ min_non_zero_cap s
unfolding min_non_zero_cap
first_one s large =
    let above : 2 ^ 61 - 1 < s =
    lt_of_not s (2 ^ 61 - 1) (λ h. let same = capped_is s (omega arith) in
    absurd (omega arith)) in
    rw (lt-ltb (2 ^ 61 - 1) s above) refl

pub first_many : (s : ℕ) → capped s ≤ 2 ^ 61 - 1 → 4 ≡ min_non_zero_cap s
unfolding min_non_zero_cap
first_many s small =
    let low = capped_small s (omega arith) in
    let same = capped_is s (omega arith) in
    rw (le-ltb (2 ^ 61 - 1) s (omega arith)) refl

-- The next lemmas are about the growth rule `Doubling`.

first_false : (x y : Bool) → x ≡ false → (x && y) ≡ false
first_false true y f = cc
first_false false y f = refl

fits_no : (s a c : ℕ) → 2 ^ 63 ≤ c → fits s a c ≡ false
unfolding fits
fits_no s a c many = first_false (ltb c (2 ^ 63)) (ltb (block_bytes s a c) (2 ^ 63))
    (le-ltb c (2 ^ 63) many)

-- `tried s c w` is what the rule `doubling` chooses unless a block of this capacity is too large.
abbrev pub tried : ℕ → ℕ → ℕ → ℕ
tried s c w = max w (if c == 0 then min_non_zero_cap s else 2 * c)

pub tried_first : (s c w d : ℕ) → c ≡ 0 → d ≡ min_non_zero_cap s → max w d ≡ tried s c w
tried_first s c w d none is = grind (arith, nat_tests)

pub tried_twice : (s c w d : ℕ) → (c ≡ 0 → ⊥) → d ≡ 2 * c → max w d ≡ tried s c w
tried_twice s c w d some is = grind (arith, nat_tests)

pub fitting_past : (s a n : ℕ) → 2 ^ 63 ≤ n → checked_capacity s a n ≡ None
unfolding checked_capacity
fitting_past s a n many = λ i. if fits_no s a n many i then Some n else None

-- If `c < w`, then the code of `Doubling`, which caps `2 * c` at `usize::MAX`, chooses the same
-- capacity as the function `doubling`, which does not cap it.
pub doubling_is : (s a c w d : ℕ) → c < w → (c ≡ 0 → d ≡ min_non_zero_cap s)
    → ((c ≡ 0 → ⊥) → d ≡ min (c * 2) (2 ^ 64 - 1))
    → checked_capacity s a (max w d) ≡ doubling s a c w
unfolding doubling
doubling_is s a c w d more none some = elim (cases_lt c (2 ^ 63)) [
  | inl few ↦ ap (checked_capacity s a) (tries few)
  | inr many ↦ fitting_past s a (max w d) (omega arith)
      ∙ sym (fitting_past s a (tried s c w) (omega arith))
]
  where
    tries : c < 2 ^ 63 → max w d ≡ tried s c w
    tries few = elim (eq-or-pos c) [
      | inl zeroed ↦ tried_first s c w d zeroed (none zeroed)
      | inr positive ↦ tried_twice s c w d (λ e. omega (arith, e))
          (omega (arith, some (λ e. omega (arith, e))))
    ]
