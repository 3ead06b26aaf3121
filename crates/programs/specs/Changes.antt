-- These definitions say which texts result if the changes of a list are applied to a text one after
-- another, and when a change fits a text, that is, when it can be applied to it.
use Rattle.std.specs.Prelude.{◌≤◌, List, [], ◌∷◌, length, reverse}
use Rattle.std.specs.List.{replace_range}
use Rattle.programs.specs.declared.editor.change.Change.{Change}

-- `T` is the type of the items of a text, and `A` the type of the allocator.
module _ {T A : Type 0} where
  -- `changed change text` is the text that results if `change` is applied to `text`.
  abbrev pub changed : Change T A → List T → List T
  changed change text = replace_range text change.start change.end change.items.items

  -- `Fits change text` holds if the range of the change is within the bounds of the text.
  pub record Fits (change : Change T A) (text : List T) : Type 0 where
    pub start_le_end : change.start ≤ change.end
    pub in_bounds : change.end ≤ length text

  -- `texts_along changes text` contains the text after each change. The first change is applied to
  -- `text`, and each later change to the text that results from the previous change.
  abbrev pub texts_along : List (Change T A) → List T → List (List T)
  texts_along [] text = []
  texts_along (change ∷ changes) text =
      changed change text ∷ texts_along changes (changed change text)

  -- `FitAlong changes text` holds if each change fits when `changes` are applied to `text` one
  -- after another, in the order of the list.
  abbrev pub FitAlong : List (Change T A) → List T → Type 0
  FitAlong [] text = Unit {0}
  FitAlong (change ∷ changes) text = Fits change text × FitAlong changes (changed change text)

  -- `texts_of changes text` applies `changes` to `text` one after another, beginning with the last
  -- change. It is the list of the texts after each step.
  abbrev pub texts_of : List (Change T A) → List T → List (List T)
  texts_of changes text = texts_along (reverse changes) text

  -- `AllFit changes text` holds if each change fits when `changes` are applied to `text` one after
  -- another, from the last change to the first.
  abbrev pub AllFit : List (Change T A) → List T → Type 0
  AllFit changes text = FitAlong (reverse changes) text
