-- These lemmas convert uninitialized memory of headers, slots and blocks into memory of words, and
-- back. Here, a word is a struct of `m` items, which takes 8 or 16 bytes.
use Rattle.std.proofs.Common.{◌≡◌, ℕ, zero, suc, ◌+◌, ◌*◌, [], ◌∷◌, refl, sym, ap, ◌∙◌, arith}
use Rattle.std.proofs.Common.{zero-mul, suc-mul, w64}
use native.Mathlib.Nat.{add_comm}
use seplogic.Ra.Ura.{Ura}
use base.Fml.{Fml, ftrue, froom, fwand}
use base.Logic.{ent, sep, apply∗}
use mir.Syntax.{Ty, ty_int, ty_array}
use prog.Memory.{size, align}
use types.Kit.{‵, ◌⊛◌, ◌$◌, ◌∵◌, !, qed, by, move, keep, drop, use0, use1, use2, split, fsplit}
use types.Kit.{fjoin, rewrite, frame as keeps, assume, done}
use types.Logic.{Logic, sem}
use denote.Index.{place, place_is}
use denote.RawPtr.Room.{past, room_cut, room_glue}
use denote.Steps.{nothing}
use Rattle.thin_block.specs.Ownership.{word_of, word_wand, word_wands, header_room, header_wand}
use Rattle.thin_block.proofs.padded.PaddedLemmas.{InEights}
use Rattle.thin_block.proofs.words.WordsLemmas.{InWords}

past_place : (τ : Ty) (n o : ℕ) → past τ n o ≡ place (size τ) o n
past_place τ zero o = refl
past_place τ (suc n) o = past_place τ n (o + size τ)

pub past_is : (τ : Ty) (n o : ℕ) → past τ n o ≡ o + n * size τ
past_is τ n o = past_place τ n o ∙ (place_is (size τ) o n ∙ add_comm (n * size τ) o)

-- `half` is the type of one half of the header. Both the capacity and the length have this type.
abbrev pub half : Ty
half = ty_int w64

-- In this module, memory of the type `τ` can be used as `n + 2` pieces of 8 bytes.
module _ {M : Type 1} {𝓤 : Ura M} (𝓛 : Logic 𝓤) (τ : Ty) (b n : ℕ)
    (hd : InEights (size τ) (align τ) n) where
  open 𝓛 use {H}

  abbrev all : Ty
  all = ty_array half (n + 2)

  abbrev two : Ty
  two = ty_array half 2

  module _ (start at : ℕ) (place : start + size τ ≡ at + 16) where
    after_front : past half n start ≡ at
    after_front = let is = past_is half n start in let whole = hd.size in omega arith

    abbrev Header : Fml
    Header = fwand (header_room b at) (froom τ b start)

    -- Splits memory for an item into the two halves of a header at its end, and the right to
    -- convert them back.
    pub front_out : ent 𝓤 (H.room τ b start)
        (sep 𝓤 (H.room half b at) (sep 𝓤 (H.room half b (at + 8)) (sem 𝓛 Header)))
    front_out =
        qed 𝓛 (‵ (froom τ b start) ∷ []) ∵
        use1 𝓛 (‵ (froom all b start) ⊛ ‵ (fwand (froom all b start) (froom τ b start)))
        (𝓛.laws.room_as τ all b start hd.size hd.align) $ split ! $
        use1 𝓛 (‵ (froom (ty_array half n) b start) ⊛ ‵ (froom two b (past half n start)))
        (room_cut 𝓛 half n 2 b start) $ split ! $ move ! (1 ∷ []) $
        rewrite ! 0 (λ (k : ℕ). ‵ (froom two b k)) after_front refl $
        use1 𝓛 (‵ (froom half b at) ⊛ ‵ (froom (ty_array half 1) b (at + 8)))
        (𝓛.laws.room_uncons half 1 b at) $ split ! $ move ! (1 ∷ []) $
        use1 𝓛 (‵ (froom half b (at + 8)) ⊛ ‵ (froom (ty_array half 0) b (at + 8 + 8)))
        (𝓛.laws.room_uncons half 0 b (at + 8)) $ split ! $ move ! (2 ∷ 0 ∷ 3 ∷ 4 ∷ []) $
        keeps ! $ keeps ! $ keep ! (0 ∷ 1 ∷ []) $
        -- The context is now: memory for the padding; the right to convert the whole back.
        assume {P = H.room τ b start} ! (‵ (header_room b at)) $ fsplit ! $
        use0 𝓛 (‵ (froom (ty_array half 0) b (at + 8 + 8)))
        (𝓛.laws.room_nil half b (at + 8 + 8)) $ move ! (2 ∷ 0 ∷ []) $
        use2 𝓛 (‵ (froom (ty_array half 1) b (at + 8))) (𝓛.laws.room_cons half 0 b (at + 8)) $
        move ! (1 ∷ 0 ∷ []) $ use2 𝓛 (‵ (froom two b at)) (𝓛.laws.room_cons half 1 b at) $
        rewrite ! 0 (λ (k : ℕ). ‵ (froom two b k)) (sym after_front) refl $
        move ! (1 ∷ 0 ∷ []) $ use2 𝓛 (‵ (froom all b start)) (room_glue 𝓛 half n 2 b start) $
        by ! (apply∗ 𝓤 (H.room all b start) (H.room τ b start))

    -- Undoes `front_out`.
    pub front_in : ent 𝓤 (sep 𝓤 (H.room half b at) (sep 𝓤 (H.room half b (at + 8)) (sem 𝓛 Header)))
        (H.room τ b start)
    front_in =
        qed 𝓛 (‵ (froom half b at) ∷ ‵ (froom half b (at + 8)) ∷ ‵ Header ∷ []) ∵
        fjoin ! $ by ! (apply∗ 𝓤 (sem 𝓛 (header_room b at)) (H.room τ b start))

module _ {M : Type 1} {𝓤 : Ura M} (𝓛 : Logic 𝓤) (τ : Ty) (m k b : ℕ)
    (hd : InWords (size τ) (align τ) m k) where
  open 𝓛 use {H}

  abbrev ω : Ty
  ω = word_of τ m

  abbrev u : ℕ
  u = size ω

  abbrev chunk : Ty
  chunk = ty_array τ m

  abbrev units : Ty
  units = ty_array ω k

  after_run : (o : ℕ) → past τ m o ≡ o + u
  after_run o = past_is τ m o ∙ ap (λ (n : ℕ). o + n) (sym hd.size)

  one_more : (w : ℕ) → m + w * m ≡ suc w * m
  one_more w = omega (arith, suc-mul w m)

  -- Splits memory for `w` words into memory for their items, and the rights to convert it back.
  pub ways_out : (w o : ℕ) → ent 𝓤 (H.room (ty_array ω w) b o)
      (sep 𝓤 (H.room (ty_array τ (w * m)) b o) (sem 𝓛 (word_wands τ m w b o)))
  ways_out zero o =
      qed 𝓛 (‵ (froom (ty_array ω 0) b o) ∷ []) ∵ drop ! $ nothing ! $
      use0 𝓛 (‵ (froom (ty_array τ 0) b o)) (𝓛.laws.room_nil τ b o) $
      rewrite ! 0 (λ (n : ℕ). ‵ (froom (ty_array τ n) b o)) (sym (zero-mul m)) refl $ done !
  ways_out (suc w) o =
      qed 𝓛 (‵ (froom (ty_array ω (suc w)) b o) ∷ []) ∵
      use1 𝓛 (‵ (froom ω b o) ⊛ ‵ (froom (ty_array ω w) b (o + u)))
      (𝓛.laws.room_uncons ω w b o) $ split ! $
      use1 𝓛 (‵ (froom chunk b o) ⊛ ‵ (word_wand τ m b o))
      (𝓛.laws.room_as ω chunk b o (sym hd.size) hd.item) $
      split ! $ move ! (2 ∷ []) $
      use1 𝓛 (‵ (froom (ty_array τ (w * m)) b (o + u)) ⊛ ‵ (word_wands τ m w b (o + u)))
      (ways_out w (o + u)) $ split ! $
      -- The context is now: memory for the items of all words except the first; the rights for
      -- these words; memory for the items of the first word; the right for the first word.
      rewrite ! 0 (λ (n : ℕ). ‵ (froom (ty_array τ (w * m)) b n)) (sym (after_run o)) refl $
      move ! (2 ∷ 0 ∷ []) $ use2 𝓛 (‵ (froom (ty_array τ (m + w * m)) b o))
      (room_glue 𝓛 τ m (w * m) b o) $
      rewrite ! 0 (λ (n : ℕ). ‵ (froom (ty_array τ n) b o)) (one_more w) refl $
      move ! (2 ∷ 1 ∷ 0 ∷ []) $ fjoin ! $ move ! (1 ∷ 0 ∷ []) $ done !

  -- Undoes `ways_out`.
  pub ways_in : (w o : ℕ)
      → ent 𝓤 (sep 𝓤 (H.room (ty_array τ (w * m)) b o) (sem 𝓛 (word_wands τ m w b o)))
      (H.room (ty_array ω w) b o)
  ways_in zero o = qed 𝓛 (‵ (froom (ty_array τ (0 * m)) b o) ∷ ‵ ftrue ∷ []) ∵ keep ! [] $
      by ! (𝓛.laws.room_nil ω b o)
  ways_in (suc w) o =
      qed 𝓛 (‵ (froom (ty_array τ (suc w * m)) b o) ∷ ‵ (word_wands τ m (suc w) b o) ∷ []) ∵
      rewrite ! 0 (λ (n : ℕ). ‵ (froom (ty_array τ n) b o)) (sym (one_more w)) refl $
      use1 𝓛 (‵ (froom chunk b o) ⊛ ‵ (froom (ty_array τ (w * m)) b (past τ m o)))
      (room_cut 𝓛 τ m (w * m) b o) $ split ! $ move ! (2 ∷ []) $ fsplit ! $
      -- The context is now: the right to convert the first word back; the rights for the other
      -- words; memory for the items of the first word; memory for the items of the other words.
      move ! (2 ∷ 0 ∷ []) $ use2 𝓛 (‵ (froom ω b o)) (apply∗ 𝓤 (H.room chunk b o) (H.room ω b o)) $
      move ! (2 ∷ 1 ∷ []) $
      rewrite ! 0 (λ (n : ℕ). ‵ (froom (ty_array τ (w * m)) b n)) (after_run o) refl $
      use2 𝓛 (‵ (froom (ty_array ω w) b (o + u))) (ways_in w (o + u)) $ move ! (1 ∷ 0 ∷ []) $
      by ! (𝓛.laws.room_cons ω w b o)

  header_bytes : k * u ≡ 16
  header_bytes = ap (λ (n : ℕ). k * n) hd.size ∙ hd.room

  eights : InEights (size units) (align units) 0
  eights = record { size = sym header_bytes; align = hd.eight }

  -- Splits memory for `k` words into the halves of the header, and the right to convert them back.
  pub header_out : (o : ℕ) → ent 𝓤 (H.room units b o)
      (sep 𝓤 (H.room half b o) (sep 𝓤 (H.room half b (o + 8)) (sem 𝓛 (header_wand τ m k b o))))
  header_out o = front_out 𝓛 units b 0 eights o o (ap (λ (n : ℕ). o + n) header_bytes)

  -- Undoes `header_out`.
  pub header_in : (o : ℕ) → ent 𝓤 (sep 𝓤 (H.room half b o) (sep 𝓤 (H.room half b (o + 8))
      (sem 𝓛 (header_wand τ m k b o)))) (H.room units b o)
  header_in o = front_in 𝓛 units b 0 eights o o (ap (λ (n : ℕ). o + n) header_bytes)
