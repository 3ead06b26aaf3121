-- These lemmas convert a block into one array of words, which an allocator can grow or shrink, and
-- back. A word is a struct of whole items that takes 8 or 16 bytes.
use Rattle.std.proofs.Common.{◌≡◌, false, ℕ, Some, None, ◌+◌, ◌-◌, ◌*◌, ◌≤◌, List, [], ◌∷◌, ◌++◌}
use Rattle.std.proofs.Common.{length, refl, sym, ap, ◌∙◌, arith, Bool, Option}
use seplogic.Ra.Ura.{Ura}
use base.Fml.{Fml, froom}
use base.Logic.{ent, sep}
use mir.Syntax.{Ty}
use prog.Memory.{size, align}
use prog.RawLaws.{size-raw, align-raw}
use types.Kit.{‵, ◌⊛◌, ◌$◌, ◌∵◌, !, qed, move, use1, use3, split, split3, fsplit, fsplit3, fjoin}
use types.Kit.{rewrite, done}
use types.Logic.{Logic, sem}
use denote.Memory.{lone}
use denote.Param.{param}
use denote.Param.Laws.{Laws}
use denote.RattleType.{RattleType}
use denote.RawPtr.{Ptr, block_ptr}
use Rattle.core.specs.Allocator.{array_of}
use Rattle.core.proofs.mem.Param.{El, R, elτ}
use Rattle.std.specs.Align.{type_align}
use Rattle.std.specs.Int.{div_ceil}
use Rattle.std.specs.Mem.{type_size}
use Rattle.thin_block.specs.Capacity.{in_words, block_align, block_bytes}
use Rattle.thin_block.specs.InPlace.{gapped_items}
use Rattle.thin_block.specs.Ownership.{slots_own, header_owns, erased_type, words_of}
use Rattle.thin_block.specs.Ownership.{requested_type_of, header_room, header_wand, slots_wand}
use Rattle.thin_block.specs.Ownership.{dealloc_right, dealloc_right_of, dealloc_right_if, pads}
use Rattle.thin_block.specs.Slots.{filled_slots, empty_slots}
use Rattle.thin_block.proofs.HeaderMemory.{whole_size, whole_align, header_unwritten}
use Rattle.thin_block.proofs.padded.PaddedLemmas.{words_unpadded}
use Rattle.thin_block.proofs.words.WordRooms.{half, header_out, header_in}
use Rattle.thin_block.proofs.words.WordsLemmas.{InWords, word_align, word_size, words_told}
use Rattle.thin_block.proofs.words.WordsLemmas.{nameless}
use Rattle.thin_block.proofs.words.WordsMemory.{word_el, words_made, words_back}

module _ (Rw : RattleType) (c : ℕ) where
  abbrev s₀ : ℕ
  s₀ = type_size Rw

  abbrev a₀ : ℕ
  a₀ = type_align Rw

  abbrev τ₀ : Ty
  τ₀ = lone Rw.mir

  pub same_words : words_of Rw ≡ in_words s₀
  same_words = ap in_words (size-raw τ₀)

  size_for : (w : Option (ℕ × ℕ)) → in_words s₀ ≡ w
      → size (requested_type_of w (erased_type Rw) c) ≡ block_bytes s₀ a₀ c
  size_for None e = whole_size Rw c
  size_for (Some w) e =
      let h : InWords s₀ a₀ w.0 w.1 = words_told Rw w.0 w.1 e in
      ap (λ (n : ℕ). (w.1 + div_ceil c w.0) * n)
      ((λ i. word_size (size-raw τ₀ i) (align-raw τ₀ i) w.0) ∙ h.size) ∙ h.bytes_are c

  align_for : (w : Option (ℕ × ℕ)) → in_words s₀ ≡ w
      → align (requested_type_of w (erased_type Rw) c) ≡ block_align a₀
  align_for None e = whole_align Rw c
  align_for (Some w) e = ap word_align (align-raw τ₀) ∙ (words_told Rw w.0 w.1 e).align

  pub asked_size : size (requested_type_of (words_of Rw) (erased_type Rw) c) ≡ block_bytes s₀ a₀ c
  asked_size = size_for (words_of Rw) (sym same_words)

  pub asked_align : align (requested_type_of (words_of Rw) (erased_type Rw) c) ≡ block_align a₀
  asked_align = align_for (words_of Rw) (sym same_words)

-- In this module, `m` items of the type `T` make a word, which is a struct of 8 or 16 bytes. The
-- header takes as many bytes as `k` words.
module _ {M : Type 1} {𝓤 : Ura M} (𝓛 : Logic 𝓤) (T : RattleType) (L : Laws T) (b m k : ℕ)
    (is : in_words (type_size (param 0 T)) ≡ Some (m, k)) (o : ℕ) where
  open 𝓛 use {H}

  abbrev Item : El
  Item = record { row = T; laws = L }

  abbrev W : El
  W = word_el T L m

  -- `gap` is the memory of the header as memory for `k` words.
  abbrev gap : Fml
  gap = froom (array_of (R W) k) b o

  hd : InWords (size (erased_type (R Item))) (align (erased_type (R Item))) m k
  hd = nameless (elτ Item) m k (words_told (R Item) m k is)

  module _ (t : Ty → Ptr → Fml) (n c all : ℕ) (total : all ≡ k + div_ceil c m) where
    abbrev Right : Fml
    Right = t (array_of (R W) all) (block_ptr b o)

    abbrev Rest : Fml
    Rest = slots_wand (erased_type (R Item)) m (div_ceil c m) c b (o + 16)

    asked_words : words_of (R Item) ≡ Some (m, k)
    asked_words = same_words (R Item) c ∙ is

    bare : pads (R Item) c ≡ false
    bare = words_unpadded (R Item) m k c is

    -- Splits what a block owns besides its slots into memory for `k` words, `Rest` (the right to
    -- convert the slots into words) and the right to free the block.
    pub header_apart : ent 𝓤 (sem 𝓛 (header_owns t (R Item) n c b o))
        (sep 𝓤 (sem 𝓛 gap) (sep 𝓤 (sem 𝓛 Rest) (sem 𝓛 Right)))
    header_apart =
        qed 𝓛 (‵ (header_owns t (R Item) n c b o) ∷ []) ∵
        use1 𝓛 (‵ (header_room b o) ⊛ ‵ (dealloc_right t (R Item) c b o))
        (header_unwritten 𝓛 t (R Item) n c b o) $ split ! $ move ! (1 ∷ []) $
        rewrite ! 0 (λ (p : Bool). ‵ (dealloc_right_if p t (words_of (R Item))
        (erased_type (R Item)) (type_size (R Item)) c b o)) bare refl $
        rewrite ! 0 (λ (w : Option (ℕ × ℕ)). ‵ (dealloc_right_of t w (erased_type (R Item)) c b o))
        asked_words refl $
        fsplit ! $ fsplit ! $ move ! (3 ∷ []) $ fsplit ! $
        -- The context is now: memory for the capacity; memory for the length; the right to convert
        -- the header into words; the same right for the slots; the right to free the block.
        use3 𝓛 (‵ gap) (header_in 𝓛 (erased_type (R Item)) m k b hd o) $ move ! (2 ∷ []) $
        rewrite ! 0 (λ (j : ℕ). ‵ (t (array_of (R W) j) (block_ptr b o))) (sym total) refl $
        move ! (1 ∷ 2 ∷ 0 ∷ []) $ done !

    -- `Kept` is the right to free the block, which is not padded.
    abbrev pub Kept : Fml
    Kept = dealloc_right_of t (Some (m, k)) (erased_type (R Item)) c b o

    pub right_in : ent 𝓤 (sem 𝓛 Kept) (sem 𝓛 (dealloc_right t (R Item) c b o))
    right_in =
        qed 𝓛 (‵ Kept ∷ []) ∵
        rewrite ! 0 (λ (w : Option (ℕ × ℕ)). ‵ (dealloc_right_of t w (erased_type (R Item)) c b o))
        (sym asked_words) refl $
        rewrite ! 0 (λ (p : Bool). ‵ (dealloc_right_if p t (words_of (R Item))
        (erased_type (R Item)) (type_size (R Item)) c b o)) (sym bare) refl $ done !

    -- In this module, `count` words hold the items `xs`.
    module _ (xs : List T.Denot) (count j : ℕ) (whole : length xs ≡ count * m)
        (slots : c ≡ length xs + j) (room : k + count ≤ all) where
      abbrev v : ℕ
      v = all - (k + count)

      -- Splits the words into memory for the header, `Kept`, and the slots with the items.
      pub words_apart : ent 𝓤 (sem 𝓛 (gapped_items t (R W) (block_ptr b o) k count all
          (words_made T m count xs)))
          (sep 𝓤 (H.room half b o) (sep 𝓤 (H.room half b (8 + o))
          (sep 𝓤 (sem 𝓛 Kept)
          (sem 𝓛 (slots_own (R Item) (filled_slots xs ++ empty_slots j) b (o + 16))))))
      words_apart =
          let told = words_told (R Item) m k is in
          let place : o + k * type_size (R W) ≡ o + 16 =
          ap (λ (n : ℕ). o + n) (ap (λ (n : ℕ). k * n) told.size ∙ told.room) in
          let ws : List W.row.Denot = words_made T m count xs in
          qed 𝓛 (‵ (gapped_items t (R W) (block_ptr b o) k count all ws) ∷ []) ∵ fsplit3 ! $
          use1 𝓛 (‵ (froom half b o) ⊛ ‵ (froom half b (o + 8)) ⊛ ‵
          (header_wand (erased_type (R Item)) m k b o))
          (header_out 𝓛 (erased_type (R Item)) m k b hd o) $ split3 ! $
          rewrite ! 1 (λ (n : ℕ). ‵ (froom half b n))
          (let turned : o + 8 ≡ 8 + o = omega arith in turned) refl $ move ! (3 ∷ []) $
          rewrite ! 0 (λ (n : ℕ). ‵ (slots_own (R W)
          (filled_slots (words_made T m count xs) ++ empty_slots v) b n)) place refl $
          use1 𝓛 (‵ (slots_own (R Item) (filled_slots xs ++ empty_slots j) b (o + 16)) ⊛ ‵ Rest)
          (words_back 𝓛 T L m k b told xs count j v (div_ceil c m) c (o + 16) whole slots
          (let fill : div_ceil c m ≡ v + count = omega arith in fill) (told.counts.covers c)) $
          split ! $
          -- The context is now: the slots; the right to convert the slots into words; memory for
          -- the capacity; memory for the length; the right to convert the memory of the header into
          -- words; the right to free the words.
          rewrite ! 5 (λ (i : ℕ). ‵ (t (array_of (R W) i) (block_ptr b o))) total refl $
          move ! (4 ∷ 1 ∷ []) $ fjoin ! $ move ! (0 ∷ 4 ∷ []) $ fjoin ! $
          move ! (2 ∷ 3 ∷ 0 ∷ 1 ∷ []) $ done !
