-- These lemmas are about lists of changes, which are applied to a text one after another.
use Rattle.std.proofs.Common.{◌≡◌, ◌⊎◌, inl, inr, ℕ, zero, suc, ◌-◌, List, [], ◌∷◌, ◌++◌, length, take, drop, reverse, refl, sym, ap, subst, ◌∙◌, arith}
use Rattle.std.proofs.lemmas.List.{length-drop, length-reverse, reverse-append, take-append-drop, take_at}
use Rattle.programs.specs.Changes.{AllFit, FitAlong, changed, texts_along, texts_of}
use Rattle.programs.specs.declared.editor.change.Change.{Change}

module _ {T A : Type 0} where
  -- `texts_along changes text` contains one text for each change, so it is as long as `changes`.
  length-texts_along : (changes : List (Change T A)) (text : List T)
      → length (texts_along changes text) ≡ length changes
  length-texts_along [] text = refl
  length-texts_along (change ∷ changes) text =
      ap (λ (n : ℕ). suc n) (length-texts_along changes (changed change text))

  -- `texts_of changes text` contains one text for each change, so it is as long as `changes`.
  pub length-texts_of : (changes : List (Change T A)) (text : List T)
      → length (texts_of changes text) ≡ length changes
  length-texts_of changes text =
      length-texts_along (reverse changes) text ∙ length-reverse changes

  -- The first `k` texts of `texts_along changes text` are the texts that result if only the first
  -- `k` changes are applied to `text`.
  texts_along-take : (k : ℕ) (changes : List (Change T A)) (text : List T)
      → texts_along (take k changes) text ≡ take k (texts_along changes text)
  texts_along-take zero changes text = refl
  texts_along-take (suc k) [] text = refl
  texts_along-take (suc k) (change ∷ changes) text =
      ap (λ (ts : List (List T)). changed change text ∷ ts)
      (texts_along-take k changes (changed change text))

  -- If all changes in the list `changes` fit when they are applied to `text` in order, then so do
  -- the first `k` of them.
  FitAlong-take : (k : ℕ) (changes : List (Change T A)) (text : List T) → FitAlong changes text
      → FitAlong (take k changes) text
  FitAlong-take zero changes text all = tt
  FitAlong-take (suc k) [] text all = tt
  FitAlong-take (suc k) (change ∷ changes) text all =
      (all.0, FitAlong-take k changes (changed change text) all.1)

  -- `reverse (drop m changes)` contains all items of `reverse changes` except the last `m`.
  reverse-drop : (m : ℕ) (changes : List (Change T A))
      → reverse (drop m changes) ≡ take (length changes - m) (reverse changes)
  reverse-drop m changes =
      let left : List (Change T A) = reverse (drop m changes) in
      let whole : reverse changes ≡ left ++ reverse (take m changes) =
      ap (λ (cs : List (Change T A)). reverse cs) (sym (take-append-drop m changes))
      ∙ reverse-append (take m changes) (drop m changes) in
      let count : length left ≡ length changes - m =
      length-reverse (drop m changes) ∙ length-drop m changes in
      rw whole (sym (take_at left (reverse (take m changes)) (length changes - m) count))

  -- In this module, the first `m` changes are removed from the list `changes`. Only the other
  -- changes are applied to the text `text`.
  module _ (m : ℕ) (changes : List (Change T A)) (text : List T) where
    -- `texts_of` applies the last change in a list first. If the first `m` changes are removed from
    -- the list, the result loses its last `m` texts.
    pub texts_of-drop : texts_of (drop m changes) text
        ≡ take (length changes - m) (texts_of changes text)
    texts_of-drop =
        ap (λ (cs : List (Change T A)). texts_along cs text) (reverse-drop m changes)
        ∙ texts_along-take (length changes - m) (reverse changes) text

    -- If all `changes` fit when they are applied to `text` from the last to the first, then so do
    -- the changes without the first `m`.
    pub AllFit-drop : AllFit changes text → AllFit (drop m changes) text
    AllFit-drop all =
        subst (λ (cs : List (Change T A)). FitAlong cs text) (sym (reverse-drop m changes))
        (FitAlong-take (length changes - m) (reverse changes) text all)

  -- If there is a change, `texts_of changes text` is not empty, because each change results in one
  -- text.
  pub no_text : (changes : List (Change T A)) (text : List T)
      → (length changes ≡ 0) ⊎ ¬ (texts_of changes text ≡ [])
  no_text [] text = inl refl
  no_text (change ∷ changes) text = inr (λ none.
      omega (
        arith,
        length-texts_of (change ∷ changes) text,
        ap (λ (ts : List (List T)). length ts) none,
      ))
