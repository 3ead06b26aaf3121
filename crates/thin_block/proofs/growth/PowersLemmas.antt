-- These lemmas prove that the code of the growth rule `PowerBytes` computes the same capacity as
-- the function `power_bytes` in specs/Growth.antt, and that a block of this capacity is not padded.
use Rattle.std.proofs.Common.{◌≡◌, ℕ, ◌+◌, ◌-◌, ◌*◌, ◌/◌, ◌^◌, ◌<◌, ◌≤◌, Option, IfSome, false, inl}
use Rattle.std.proofs.Common.{inr, max, min, sym, ap, ◌∙◌, arith, eq-zero-or-pos}
use native.Mathlib.Nat.{mul-le-mul_left, mul-le-mul_right}
use prog.Capped.{capped_is, capped_small}
use prog.Memory.{capped}
use denote.RattleType.{RattleType}
use Rattle.std.proofs.lemmas.Nat.{le-div}
use Rattle.std.specs.Align.{type_align}
use Rattle.std.specs.Mem.{type_size}
use Rattle.std.specs.declared.option.Option.TheVariants.{Some, None}
use Rattle.thin_block.specs.Capacity.{Fits, has_padding, items_offset, least_power}
use Rattle.thin_block.specs.Growth.{FillsPowerOfTwo, checked_capacity, power_bytes}
use Rattle.thin_block.specs.PowerLaws.{least_power_is, powers_filled, powers_of_some}
use Rattle.thin_block.proofs.CapacityLemmas.{fitting-none}
use Rattle.thin_block.proofs.padded.PaddedLemmas.{full_unpadded, small_unpadded}
use Rattle.thin_block.proofs.sizes.SizesLemmas.{capped_le, fits_tells, rounded}

-- The code uses the item size `size`, which is `s` capped at `usize::MAX`.
pub takes_none : (s size : ℕ) → size ≡ capped s → size ≡ 0 → s ≡ 0
takes_none s size is none =
    let low : s < 2 ^ 63 = capped_small s (omega (arith, is, none)) in
    omega (arith, capped_is s (omega (arith, low)), is, none)

takes_some : (s size : ℕ) → size ≡ capped s → 0 < size → 0 < s
takes_some s size is some = omega (arith, is, some, capped_le s)

pub each_fills : (s a c w : ℕ) (r : Option ℕ) → r ≡ power_bytes s a c w → 0 < s
    → IfSome r (FillsPowerOfTwo s a)
each_fills s a c w None e some = tt
each_fills s a c w (Some n) e some = powers_filled s a c w n some (sym e)

pub each_unpadded : (s a c w : ℕ) (r : Option ℕ) → r ≡ power_bytes s a c w
    → IfSome r (λ n. has_padding s a n ≡ false)
each_unpadded s a c w None e = tt
each_unpadded s a c w (Some n) e = elim (eq-zero-or-pos s) [
  | inl none ↦ small_unpadded s a n (omega (arith, none))
  | inr some ↦ full_unpadded s a n (powers_filled s a c w n some (sym e))
]

module _ (R : RattleType) (c w size : ℕ) (is : size ≡ capped (type_size R))
    (some : 0 < size) (more : c < w) where
  abbrev s : ℕ
  s = type_size R

  abbrev a : ℕ
  a = type_align R

  -- `items` is the number of items that the code asks for. It caps `2 * c` at `usize::MAX`.
  abbrev items : ℕ
  items = max w (min (c * 2) (2 ^ 64 - 1))

  abbrev wanted : ℕ
  wanted = max w (2 * c)

  -- These lemmas assume that a header and `items` items take at most `2 ^ 63` bytes in total. In
  -- this case, no number that the code computes exceeds `usize::MAX`.
  module _ (small : 16 + items * size ≤ 2 ^ 63) where
    size_is : s ≡ size
    size_is =
        let one : 1 * size ≤ items * size =
        mul-le-mul_right size (let low : 1 ≤ items = omega (arith, more) in low) in
        let low : s < 2 ^ 63 = capped_small s (omega (arith, one, small, is)) in
        sym (is ∙ capped_is s (omega (arith, low)))

    items_are : items ≡ wanted
    items_are =
        let one : items * 1 ≤ items * size =
        mul-le-mul_left items (let low : 1 ≤ size = some in low) in
        omega (arith, one, small)

    pub power_is : (power : ℕ) → power ≡ least_power (16 + items * size)
        → checked_capacity s a ((power - 16) / size) ≡ power_bytes s a c w
    power_is power e =
        let offset : 16 ≡ items_offset a = sym (rounded R 0).offset in
        let bytes : 16 + items * size ≡ items_offset a + wanted * s =
        λ i. offset i + items_are i * sym size_is i in
        let next : (power - 16)
        / size ≡ (least_power (items_offset a + wanted * s) - items_offset a) / s =
        λ i. ((e ∙ ap least_power bytes) i - offset i) / sym size_is i in
        ap (checked_capacity s a) next ∙ sym (powers_of_some s a c w (omega (arith, size_is, some)))

  pub power_past : 2 ^ 63 < 16 + items * size → None ≡ power_bytes s a c w
  power_past large =
      let offset = (rounded R 0).offset in
      let takes : 0 < s = takes_some s size is some in
      let n : ℕ = (least_power (items_offset a + wanted * s) - items_offset a) / s in
      let power = (least_power_is (items_offset a + wanted * s)).1 in
      let enough : wanted ≤ n =
      le-div wanted (least_power (items_offset a + wanted * s) - items_offset a) s takes
      (omega (arith, power)) in
      let less : items * size ≤ items * s =
      mul-le-mul_left items (let low : size ≤ s = omega (arith, is, capped_le s) in low) in
      let more : items * s ≤ n * s =
      mul-le-mul_right s (let few : items ≤ n = omega (arith, enough) in few) in
      let never : Fits R n → ⊥ = λ fit. (let room = (fits_tells R n fit).room in
      omega (arith, room, large, less, more)) in
      sym (powers_of_some s a c w takes ∙ fitting-none R n never)
