-- These lemmas are about the memory that a block requests, whether or not the block is padded. They
-- give its size and alignment, split it into the header, the slots and the right to free it, and
-- join it again.
use Rattle.std.proofs.Common.{◌≡◌, ℕ, ◌+◌, ◌-◌, ◌*◌, ◌^◌, ◌<◌, [], ◌∷◌, Bool, true, false, Option}
use Rattle.std.proofs.Common.{Some, None, refl, sym, ap, ◌∙◌, arith, zero-mul}
use seplogic.Ra.Ura.{Ura}
use base.Fml.{Fml, ftrue, fsep, froom, fwand}
use base.Logic.{SProp, ent, sep, apply∗}
use borrow.Author.Tests.{clash}
use mir.Syntax.{Ty, ty_ptr}
use prog.Memory.{size, align}
use types.Kit.{‵, ◌⊛◌, ◌$◌, ◌∵◌, !, qed, by, move, drop, use1, use2, split, split3, fsplit, fjoin}
use types.Kit.{fjoin3, rewrite, done}
use types.Logic.{Logic, sem}
use denote.RattleType.{RattleType}
use denote.RawPtr.{Ptr, block_ptr}
use Rattle.core.specs.Allocator.{array_of}
use Rattle.core.proofs.mem.Param.{El, R}
use Rattle.std.specs.Align.{type_align}
use Rattle.std.specs.Int.{div_ceil}
use Rattle.std.specs.Mem.{type_size}
use Rattle.std.specs.Prelude.{if◌then◌else◌}
use Rattle.thin_block.specs.Capacity.{block_align, block_bytes, front_bytes, in_words, memory_bytes}
use Rattle.thin_block.specs.InPlace.{gapped_items}
use Rattle.thin_block.specs.Ownership.{block_type, dealloc_right, dealloc_right_if}
use Rattle.thin_block.specs.Ownership.{dealloc_right_of, end_of, erased_type, fits_block}
use Rattle.thin_block.specs.Ownership.{header_owns, header_room, memory_type, memory_type_if}
use Rattle.thin_block.specs.Ownership.{padded_type, pads, rejoin_wand, requested_type_of, slots_own}
use Rattle.thin_block.specs.Ownership.{slots_wand, unjoined_room, words_of}
use Rattle.thin_block.specs.Slots.{empty_slots}
use Rattle.thin_block.proofs.HeaderMemory.{carve, header_unwritten}
use Rattle.thin_block.proofs.SlotMemory.{of_raw, to_raw}
use Rattle.thin_block.proofs.WordConversionLemmas.{same_words, asked_size, asked_align}
use Rattle.thin_block.proofs.WordConversionLemmas.{header_apart, words_apart}
use Rattle.thin_block.proofs.in_place.ArrayMemory.{memory_in, memory_out}
use Rattle.thin_block.proofs.padded.PaddedLemmas.{padded_tells}
use Rattle.thin_block.proofs.padded.PaddedMemory.{padded_size, padded_align, array_out}
use Rattle.thin_block.proofs.sizes.SizesLemmas.{fits_tells}
use Rattle.thin_block.proofs.words.WordRooms.{half}
use Rattle.thin_block.proofs.words.WordsLemmas.{words_told}
use Rattle.thin_block.proofs.words.WordsMemory.{word_el, words_in}

-- `Front p s n` collects what holds if `n` bytes precede the header of a block for items of size
-- `s`. `p` says whether the block is padded.
pub record Front (p : Bool) (s n : ℕ) : Type 0 where
  pub padded : 0 < n → p ≡ true
  pub ordinary : n ≡ 0 → p ≡ false
  pub whole : p ≡ true → n + 16 ≡ s
  pub none : p ≡ false → n ≡ 0

front_if : (p : Bool) (s n : ℕ) → (p ≡ true → 16 < s) → n ≡ (if p then s - 16 else 0)
    → Front p s n
front_if true s n wide is =
    let large : 16 < s = wide refl in
    record {
      padded = λ h. refl;
      ordinary = λ h. absurd (omega (arith, h));
      whole = λ h. omega arith;
      none = λ h. absurd (clash (sym h));
    }
front_if false s n wide is =
    record {
      padded = λ h. absurd (omega (arith, h));
      ordinary = λ h. refl;
      whole = λ h. absurd (clash h);
      none = λ h. is;
    }

module _ (Rw : RattleType) (c : ℕ) where
  abbrev s : ℕ
  s = type_size Rw

  abbrev a : ℕ
  a = type_align Rw

  pub front_tells : (n : ℕ) → n ≡ front_bytes s a c → Front (pads Rw c) s n
  front_tells n is = front_if (pads Rw c) s n (λ e. (padded_tells s a c e).wide) is

  size_if : (p : Bool) → pads Rw c ≡ p
      → size (memory_type_if p (words_of Rw) (erased_type Rw) c)
      ≡ (if p then (c + 2) * s else block_bytes s a c)
  size_if true e = padded_size Rw c
  size_if false e = asked_size Rw c

  pub memory_size : size (memory_type Rw c) ≡ memory_bytes s a c
  memory_size = size_if (pads Rw c) refl

  align_if : (p : Bool) → pads Rw c ≡ p
      → align (memory_type_if p (words_of Rw) (erased_type Rw) c) ≡ block_align a
  align_if true e = padded_align Rw c ∙ (let wide = (padded_tells s a c e).aligned in omega arith)
  align_if false e = asked_align Rw c

  pub memory_align : align (memory_type Rw c) ≡ block_align a
  memory_align = align_if (pads Rw c) refl

  short_if : (p : Bool) → pads Rw c ≡ p → fits_block Rw c ≡ true
      → (if p then (c + 2) * s else block_bytes s a c) < 2 ^ 63
  short_if true e fits = (padded_tells s a c e).short
  short_if false e fits = (fits_tells Rw c fits).short

  pub memory_short : fits_block Rw c ≡ true → memory_bytes s a c < 2 ^ 63
  memory_short = short_if (pads Rw c) refl

-- In this module, the memory of a block of `c` slots begins at the offset `start` of the allocation
-- `b`. Its header is at the offset `o`. `t` is the right to free memory.
module _ {M : Type 1} {𝓤 : Ura M} (𝓛 : Logic 𝓤) (E : El) (b c : ℕ) (t : Ty → Ptr → Fml)
    (start o : ℕ) where
  open 𝓛 use {H}

  abbrev τ : Ty
  τ = erased_type (R E)

  abbrev end : ℕ
  end = end_of (type_size (R E)) c o

  -- `Unaddressed p` is the right to free the block, before the address of its memory is stored. `p`
  -- says whether the block is padded. Only if it is, there is such an address.
  abbrev pub Unaddressed : Bool → Fml
  Unaddressed true = fsep (froom ty_ptr b end) (fsep (fwand (header_room b o) (froom τ b start))
      (fsep (fwand (froom ty_ptr b end) (froom τ b end))
      (t (padded_type τ c) (block_ptr b start))))
  Unaddressed false = dealloc_right_of t (words_of (R E)) τ c b o

  abbrev Memory : Bool → Ty
  Memory p = memory_type_if p (words_of (R E)) τ c

  -- The parts of a new block. `right` is the right to free the block.
  abbrev Split : Fml → SProp 𝓤
  Split right = sep 𝓤 (H.room half b o) (sep 𝓤 (H.room half b (8 + o))
      (sep 𝓤 (sem 𝓛 (slots_own (R E) (empty_slots c) b (o + 16))) (sem 𝓛 right)))

  words_known : (w : ℕ × ℕ) → words_of (R E) ≡ Some w → in_words (type_size (R E)) ≡ Some w
  words_known w e = sym (same_words (R E) c) ∙ e

  -- Splits the memory of a block that is not padded.
  ordinary_apart : (w : Option (ℕ × ℕ)) → words_of (R E) ≡ w
      → ent 𝓤 (sep 𝓤 (H.room (requested_type_of w τ c) b o)
      (sem 𝓛 (t (requested_type_of w τ c) (block_ptr b o))))
      (Split (dealloc_right_of t w τ c b o))
  ordinary_apart None e =
      qed 𝓛 (‵ (froom (block_type (R E) c) b o) ∷ ‵ (t (block_type (R E) c) (block_ptr b o)) ∷ [])
      ∵ use1 𝓛 (‵ (froom half b o) ⊛ ‵ (froom half b (o + 8)) ⊛ ‵
      (froom (array_of (R E) c) b (o + 16)) ⊛ ‵ (rejoin_wand None τ c b o))
      (carve 𝓛 (R E) c b o) $ split3 ! $ move ! (2 ∷ []) $ split ! $
      use1 𝓛 (‵ (slots_own (R E) (empty_slots c) b (o + 16))) (of_raw E 𝓛 b c (o + 16)) $
      move ! (1 ∷ 4 ∷ []) $ fjoin ! $
      rewrite ! 3 (λ (k : ℕ). ‵ (froom half b k))
      (let turned : o + 8 ≡ 8 + o = omega arith in turned) refl $ move ! (2 ∷ 3 ∷ 1 ∷ 0 ∷ []) $
      done !
  ordinary_apart (Some w) e =
      let W : El = word_el E.row E.laws w.0 in
      let n : ℕ = w.1 + div_ceil c w.0 in
      let is = words_known w e in
      let slots : c ≡ 0 + c = omega arith in
      qed 𝓛 (‵ (froom (array_of (R W) n) b o) ∷ ‵ (t (array_of (R W) n) (block_ptr b o)) ∷ []) ∵
      use2 𝓛 (‵ (gapped_items t (R W) (block_ptr b o) w.1 0 n []))
      (memory_in 𝓛 W t b o w.1 n (omega arith)) $
      use1 𝓛 (‵ (froom half b o) ⊛ ‵ (froom half b (8 + o)) ⊛ ‵
      (dealloc_right_of t (Some w) τ c b o) ⊛ ‵ (slots_own (R E) (empty_slots c) b (o + 16)))
      (words_apart 𝓛 E.row E.laws b w.0 w.1 is o t 0 c n refl [] 0 c (sym (zero-mul w.0)) slots
      (omega arith)) $
      split3 ! $ move ! (2 ∷ []) $ split ! $ move ! (2 ∷ 3 ∷ 1 ∷ 0 ∷ []) $ done !

  joined_if : (w : Option (ℕ × ℕ)) → words_of (R E) ≡ w → pads (R E) c ≡ false → (n : ℕ)
      → ent 𝓤 (sep 𝓤 (sem 𝓛 (header_owns t (R E) n c b o))
      (sem 𝓛 (slots_own (R E) (empty_slots c) b (o + 16))))
      (sep 𝓤 (H.room (requested_type_of w τ c) b o)
      (sem 𝓛 (t (requested_type_of w τ c) (block_ptr b o))))
  joined_if None e bare n =
      qed 𝓛 (‵ (header_owns t (R E) n c b o) ∷ ‵ (slots_own (R E) (empty_slots c) b (o + 16)) ∷ [])
      ∵ use1 𝓛 (‵ (header_room b o) ⊛ ‵ (dealloc_right t (R E) c b o))
      (header_unwritten 𝓛 t (R E) n c b o) $ split ! $ move ! (1 ∷ []) $
      rewrite ! 0 (λ (p : Bool).
      ‵ (dealloc_right_if p t (words_of (R E)) τ (type_size (R E)) c b o)) bare refl $
      rewrite ! 0 (λ (w : Option (ℕ × ℕ)). ‵ (dealloc_right_of t w τ c b o)) e refl $ fsplit ! $
      move ! (3 ∷ []) $ use1 𝓛 (‵ (froom (array_of (R E) c) b (o + 16)))
      (to_raw E 𝓛 b c (o + 16)) $
      -- The context is now: memory for the slots; the right to join the parts of the block; the
      -- right to free the block; memory for the header.
      move ! (3 ∷ []) $ fsplit ! $ move ! (1 ∷ 2 ∷ []) $ fjoin ! $ move ! (1 ∷ 0 ∷ []) $ fjoin ! $
      use2 𝓛 (‵ (froom (block_type (R E) c) b o))
      (apply∗ 𝓤 (sem 𝓛 (unjoined_room (R E) c b o)) (H.room (block_type (R E) c) b o)) $ done !
  joined_if (Some w) e bare n =
      let W : El = word_el E.row E.laws w.0 in
      let all : ℕ = w.1 + div_ceil c w.0 in
      let v : ℕ = all - (w.1 + 0) in
      let is = words_known w e in
      let told = words_told (R E) w.0 w.1 is in
      let slots : c ≡ 0 + c = omega arith in
      let fill : div_ceil c w.0 ≡ v + 0 = omega arith in
      let front : w.1 * type_size (R W) ≡ 16 = ap (λ (i : ℕ). w.1 * i) told.size ∙ told.room in
      let place : 0 * type_size (R W) + (o + 16) ≡ o + w.1 * type_size (R W) =
      omega (arith, zero-mul (type_size (R W))) in
      qed 𝓛 (‵ (header_owns t (R E) n c b o) ∷ ‵ (slots_own (R E) (empty_slots c) b (o + 16)) ∷ [])
      ∵ use1 𝓛 (‵ (froom (array_of (R W) w.1) b o) ⊛ ‵
      (slots_wand τ w.0 (div_ceil c w.0) c b (o + 16)) ⊛ ‵
      (t (array_of (R W) all) (block_ptr b o)))
      (header_apart 𝓛 E.row E.laws b w.0 w.1 is o t n c all refl) $ split3 ! $
      move ! (3 ∷ 1 ∷ []) $
      use2 𝓛 (‵ ftrue ⊛ ‵ (slots_own (R W) (empty_slots v) b (0 * type_size (R W) + (o + 16))))
      (words_in 𝓛 E.row E.laws w.0 w.1 b told [] 0 c v (div_ceil c w.0) c (o + 16)
      (sym (zero-mul w.0)) slots fill (told.counts.covers c)) $ split ! $ drop ! $
      rewrite ! 0 (λ (i : ℕ). ‵ (slots_own (R W) (empty_slots v) b i)) place refl $
      move ! (1 ∷ 0 ∷ 2 ∷ []) $ fjoin3 ! $
      by ! (memory_out 𝓛 W t b o w.1 all (omega arith))

  -- Joins all that a block with empty slots owns into its memory and the right to free it, if the
  -- block is not padded.
  pub ordinary_joined : pads (R E) c ≡ false → (n : ℕ)
      → ent 𝓤 (sep 𝓤 (sem 𝓛 (header_owns t (R E) n c b o))
      (sem 𝓛 (slots_own (R E) (empty_slots c) b (o + 16))))
      (sep 𝓤 (H.room (Memory false) b o) (sem 𝓛 (t (Memory false) (block_ptr b o))))
  ordinary_joined bare n = joined_if (words_of (R E)) refl bare n

  apart_if : (p : Bool) → pads (R E) c ≡ p → (n : ℕ) → Front p (type_size (R E)) n → o ≡ n + start
      → ent 𝓤 (sep 𝓤 (H.room (Memory p) b start) (sem 𝓛 (t (Memory p) (block_ptr b start))))
      (Split (Unaddressed p))
  apart_if true pad n front place =
      let same = front.whole refl in
      let at : start + type_size (R E) ≡ o + 16 = omega arith in
      let slots : c ≡ 0 + c = omega arith in
      qed 𝓛 (‵ (froom (Memory true) b start) ∷ ‵ (t (Memory true) (block_ptr b start)) ∷ []) ∵
      use2 𝓛 (‵ (gapped_items t (R E) (block_ptr b start) 1 0 (c + 2) []))
      (memory_in 𝓛 E t b start 1 (c + 2) (omega arith)) $
      use1 𝓛 (‵ (froom half b o) ⊛ ‵ (froom half b (8 + o)) ⊛ ‵ (froom ty_ptr b end) ⊛ ‵
      (slots_own (R E) (empty_slots c) b (o + 16)) ⊛ ‵
      (fsep (fwand (header_room b o) (froom τ b start)) (fsep (fwand (froom ty_ptr b end)
      (froom τ b end)) (t (padded_type τ c) (block_ptr b start)))))
      (array_out 𝓛 E b c pad t start o at 0 c (c + 2) [] slots refl refl) $ split3 ! $
      move ! (2 ∷ []) $ split3 ! $ move ! (0 ∷ 2 ∷ []) $ fjoin ! $ move ! (2 ∷ 3 ∷ 1 ∷ 0 ∷ []) $
      done !
  apart_if false bare n front place =
      let same : start ≡ o = (let none = front.none refl in omega arith) in
      qed 𝓛 (‵ (froom (Memory false) b start) ∷ ‵ (t (Memory false) (block_ptr b start)) ∷ []) ∵
      rewrite ! 0 (λ (k : ℕ). ‵ (froom (Memory false) b k)) same refl $
      rewrite ! 1 (λ (k : ℕ). ‵ (t (Memory false) (block_ptr b k))) same refl $
      by ! (ordinary_apart (words_of (R E)) refl)

  -- Splits the memory of a new block into memory for the capacity and for the length, the slots,
  -- and the right to free the block.
  pub memory_apart : (n : ℕ) → n ≡ front_bytes (type_size (R E)) (type_align (R E)) c
      → o ≡ n + start
      → ent 𝓤 (sep 𝓤 (H.room (memory_type (R E) c) b start)
      (sem 𝓛 (t (memory_type (R E) c) (block_ptr b start))))
      (sep 𝓤 (H.room half b o) (sep 𝓤 (H.room half b (8 + o))
      (sep 𝓤 (sem 𝓛 (slots_own (R E) (empty_slots c) b (o + 16)))
      (sem 𝓛 (Unaddressed (pads (R E) c))))))
  memory_apart n is = apart_if (pads (R E) c) refl n (front_tells (R E) c n is)
