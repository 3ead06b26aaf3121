-- These arithmetic lemmas are about padded blocks. In a padded block, the header and the padding
-- before it take as many bytes as an item.
use Rattle.std.proofs.Common.{◌≡◌, true, false, ℕ, Some, ◌+◌, ◌-◌, ◌*◌, ◌/◌, ◌^◌, ◌<◌, ◌≤◌, inl}
use Rattle.std.proofs.Common.{inr, max, sym, ap, subst, ◌∙◌, arith}
use native.Mathlib.Nat.{mul-le-mul_right}
use borrow.Author.Tests.{ltb-true, leb-true, lt-ltb, le-ltb, lt-leb, le-leb}
use mir.Syntax.{Width, w8, w16, w32, w64, w128}
use mir.Val.{bytes}
use prog.Align.{Dv, align_w, align-bytes, align_size, dv→, dv_trans}
use prog.Capped.{capped_is, capped_small}
use prog.Memory.{capped}
use denote.Param.{layout}
use denote.RattleType.{RattleType}
use Rattle.core.proofs.ptr.Rows.{add_times}
use Rattle.std.proofs.lemmas.Bool.{and_parts, and_right, cases_lt}
use Rattle.std.specs.Align.{type_align}
use Rattle.std.specs.Int.{IsNextPowerOfTwo}
use Rattle.std.specs.Mem.{type_size}
use Rattle.std.specs.Prelude.{Bool, nat_le, nat_lt, ◌&&◌}
use Rattle.thin_block.specs.Capacity.{has_padding, has_room_for_padding, in_words, items_offset}
use Rattle.thin_block.specs.Capacity.{least_power, may_have_padding}
use Rattle.thin_block.specs.Growth.{FillsPowerOfTwo}
use Rattle.thin_block.specs.Ownership.{pads}
use Rattle.thin_block.specs.PowerLaws.{least_power_is, not_more, one_least_power}
use Rattle.thin_block.proofs.sizes.SizesLemmas.{capped_le, rounded}
use Rattle.thin_block.proofs.words.WordsLemmas.{InWords, words_told}

-- `Padded s a c` collects what holds if a block for `c` items of size `s` and alignment `a` is
-- padded.
pub record Padded (s a c : ℕ) : Type 0 where
  pub wide : 16 < s
  pub aligned : 8 ≤ a
  pub many : 32 ≤ c
  pub short : (c + 2) * s < 2 ^ 63

pub padded_tells : (s a c : ℕ) → has_padding s a c ≡ true → Padded s a c
unfolding has_padding
padded_tells s a c e =
    let room : Bool = has_room_for_padding s a c in
    let may : Bool = may_have_padding s a c in
    let both = and_parts may room e in
    let next : Bool =
    nat_le (items_offset a + (c + 1) * s) (least_power (items_offset a + c * s)) in
    let few = and_parts (nat_lt (c * s) (2 ^ 62)) next both.1 in
    let pads = and_parts (nat_lt 16 s) (nat_le 8 a && nat_le 32 c) both.0 in
    let many = and_parts (nat_le 8 a) (nat_le 32 c) pads.1 in
    let enough : 32 ≤ c = leb-true 32 c many.1 in
    let low : c * s < 2 ^ 62 = ltb-true (c * s) (2 ^ 62) few.0 in
    let twice : 32 * s ≤ c * s = mul-le-mul_right s enough in
    let sum : (c + 2) * s ≡ c * s + 2 * s = add_times c 2 s in
    record {
      wide = ltb-true 16 s pads.0;
      aligned = leb-true 8 a many.0;
      many = enough;
      short = omega arith;
    }

eight_divides : (w : Width) → 8 ≤ bytes w → Dv 8 (bytes w)
eight_divides w8 h = absurd (omega arith)
eight_divides w16 h = absurd (omega arith)
eight_divides w32 h = absurd (omega arith)
eight_divides w64 h = tt
eight_divides w128 h = tt

-- `InEights s a n` holds if an item of the size `s` and the alignment `a` can be used as `n + 2`
-- pieces of 8 bytes.
pub record InEights (s a n : ℕ) : Type 0 where
  pub size : (n + 2) * 8 ≡ s
  pub align : Dv 8 a

-- `pieces s` is the number of pieces of 8 bytes that an item of the size `s` takes beyond the 16
-- bytes of a header.
abbrev pub pieces : ℕ → ℕ
pieces s = s / 8 - 2

pub in_eights : (R : RattleType) (c : ℕ) → pads R c ≡ true
    → InEights (type_size R) (type_align R) (pieces (type_size R))
in_eights R c e =
    let h = padded_tells (type_size R) (type_align R) c e in
    let known : type_align R ≡ bytes (align_w (layout R)) = align-bytes (layout R) in
    let eight : Dv 8 (type_align R) = subst (λ (a : ℕ). Dv 8 a) (sym known)
    (eight_divides (align_w (layout R)) (subst (λ (a : ℕ). 8 ≤ a) known h.aligned)) in
    let whole = dv→ 8 (type_size R)
    (dv_trans 8 (type_align R) (type_size R) eight (align_size (layout R))) in
    record { size = omega arith; align = eight }

-- Blocks of small items are not padded.
pub small_unpadded : (s a c : ℕ) → s ≤ 16 → has_padding s a c ≡ false
unfolding has_padding
small_unpadded s a c small =
    ap (λ (b : Bool). (b && (nat_le 8 a && nat_le 32 c)) && has_room_for_padding s a c)
    (le-ltb 16 s small)

-- Blocks whose items form words are not padded.
pub words_unpadded : (R : RattleType) (m k c : ℕ) → in_words (type_size R) ≡ Some (m, k)
    → pads R c ≡ false
words_unpadded R m k c is =
    let h : InWords (type_size R) (type_align R) m k = words_told R m k is in
    let s : ℕ = type_size R in
    let one : 1 * s ≤ m * s = mul-le-mul_right s h.counts.some in
    let all : 1 * (m * s) ≤ k * (m * s) = mul-le-mul_right (m * s) h.any in
    small_unpadded s (type_align R) c (omega arith)

-- A block that just fits into a power of two is not padded.
pub full_unpadded : (s a c : ℕ) → FillsPowerOfTwo s a c → has_padding s a c ≡ false
unfolding has_padding
full_unpadded s a c fills =
    let n : ℕ = items_offset a + c * s in
    let least = least_power_is n in
    let under = not_more n least.0.0 fills.is_power.0
    (subst (λ x. n ≤ x) fills.is_power.1 fills.holds)
    (subst (λ x. x / 2 < max 1 n) least.0.1 least.2) in
    let full : least_power n < items_offset a + (c + 1) * s =
    omega (arith, least.0.1, fills.is_power.1, under, fills.is_full) in
    and_right (may_have_padding s a c) (has_room_for_padding s a c)
    (and_right (nat_lt (c * s) (2 ^ 62))
    (nat_le (items_offset a + (c + 1) * s) (least_power n))
    (lt-leb (items_offset a + (c + 1) * s) (least_power n) full))

-- The code of `has_room_for_padding` computes the value of the definition of this name. It uses
-- `size`, the size of an item capped at `usize::MAX`, and `next`, the next power of two.
pub room_is : (R : RattleType) (c size next : ℕ) → size ≡ capped (type_size R)
    → c * size ≡ c * type_size R → c * size < 2 ^ 62 → IsNextPowerOfTwo (16 + c * size) next
    → nat_le size (next - (16 + c * size))
    ≡ has_room_for_padding (type_size R) (type_align R) c
room_is R c size next is same few power =
    let s : ℕ = type_size R in
    let n : ℕ = items_offset (type_align R) + c * s in
    let m : ℕ = items_offset (type_align R) + (c + 1) * s in
    let offset = (rounded R 0).offset in
    let bytes : 16 + c * size ≡ n = omega (arith, offset, same) in
    let whole : next ≡ least_power n =
    one_least_power n next (least_power n)
    (subst (λ k. IsNextPowerOfTwo k next) bytes power) (least_power_is n) in
    let more : m ≡ n + s = omega (arith, add_times c 1 s) in
    let first : nat_lt (c * s) (2 ^ 62) ≡ true =
    lt-ltb (c * s) (2 ^ 62) (omega (arith, same, few)) in
    let second : nat_le size (next - (16 + c * size)) ≡ nat_le m (least_power n) =
    elim (cases_lt (next - (16 + c * size)) size) [
      | inl less ↦ lt-leb size (next - (16 + c * size)) less
          ∙ sym (lt-leb m (least_power n)
          (omega (arith, less, power.1, bytes, whole, more, is, capped_le s)))
      | inr enough ↦ (let small = capped_small s (omega (arith, is, enough, few, power.2)) in
          let size_is = capped_is s (omega (arith, small)) in
          le-leb size (next - (16 + c * size)) enough
          ∙ sym (le-leb m (least_power n)
          (omega (arith, enough, power.1, bytes, whole, more, is, size_is, small))))
    ] in
    second ∙ ap (λ (b : Bool). b && nat_le m (least_power n)) (sym first)
