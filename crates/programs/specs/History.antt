-- In contracts, the state of an editor is a `History`.
use Rattle.std.specs.Prelude.{◌≡◌, List, []}

-- A `History` contains the current text, which is a list of items of the type `T`, and two lists of
-- texts. Repeated calls to `undo` restore the texts in `past`, and repeated calls to `redo` restore
-- the texts in `future`. In each list, the first text is the one that the next call restores.
pub record History (T : Type 0) : Type 0 where
  pub past : List (List T)
  pub text : List T
  pub future : List (List T)

module _ {T : Type 0} where
  -- `IsNew history` holds if the text is empty, and there is nothing to undo or redo.
  pub record IsNew (history : History T) : Type 0 where
    pub past : history.past ≡ []
    pub text : history.text ≡ []
    pub future : history.future ≡ []
