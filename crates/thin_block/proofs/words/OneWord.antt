-- These lemmas make one word of its items. The machine value of a word is a struct of the array of
-- its items and of an empty array.
use Rattle.std.proofs.Common.{List, [], ◌∷◌, ℕ, refl, w64}
use lib.Dec.{T as Holds}
use seplogic.Ra.Ura.{Ura}
use base.Logic.{ent}
use mir.Syntax.{Ty, ty_array}
use mir.Val.{Val, vstruct, vcons, vnil, WT, has_ty}
use prog.Align.{both}
use types.Kit.{‵, ◌$◌, ◌∵◌, !, qed, by, move, fjoin}
use types.Logic.{Logic, sem}
use denote.Array.{Array, Array-Makes}
use denote.Builtin.{u64}
use denote.Laws.{Is}
use denote.Param.{layout, ArrayAt}
use denote.Plain.{uint_Makes}
use denote.RattleType.{RattleType, owns}
use denote.Signature.Struct.{makes}
use denote.Steps.{nothing, owned}
use denote.Struct.Declared.{shape}
use Rattle.core.proofs.mem.Param.{El, R, el_x}
use Rattle.thin_block.specs.Words.{word}
use Rattle.thin_block.specs.contracts.words.Word.{the_type}
use Rattle.thin_block.proofs.words.WordsMemory.{word_row, number_of_items}

-- `word_val v` is the machine value of a word whose array of items has the machine value `v`.
abbrev pub word_val : Val → Val
word_val v = vstruct (vcons v (vcons (vstruct vnil) vnil))

abbrev Fits : Ty → Val → Type 0
Fits τ v = Holds (has_ty τ v) × WT v

module _ (E : El) (m : ℕ) where
  -- `chunk_type` is the type of the array of the items of one word.
  abbrev pub chunk_type : RattleType
  chunk_type = ArrayAt (R E) (number_of_items m)

  pub word_fits : (v : Val) → Fits (ty_array (layout E.row) m) v
      → Fits (layout (word_row E.row m)) (word_val v)
  word_fits v fits = (both (has_ty (ty_array (layout E.row) m) v) _ fits.0 tt, (fits.1, (tt, tt)))

  pub word_made : {M : Type 1} {𝓤 : Ura M} (𝓛 : Logic 𝓤) (xs : List (el_x E)) (v : Val)
      → ent 𝓤 (sem 𝓛 (chunk_type.own_val xs (v ∷ [])))
      (sem 𝓛 ((word_row E.row m).own_val (word (R E) (number_of_items m) xs) (word_val v ∷ [])))
  word_made 𝓛 xs v =
      let fields = (shape (the_type (R E) (number_of_items m))).fields in
      qed 𝓛 (‵ (chunk_type.own_val xs (v ∷ [])) ∷ []) ∵ nothing ! $
      owned ! (Array u64 0) (Is (Array u64 0)) (Array-Makes 𝓛 u64 (uint_Makes 𝓛 w64) 0) []
      (vstruct vnil ∷ []) ([], ((refl, refl), tt)) $ fjoin ! $ move ! (1 ∷ 0 ∷ []) $ fjoin ! $
      by ! (makes 𝓛 fields (owns fields (xs, ([], tt))) (v ∷ [], (vstruct vnil ∷ [], tt)))
