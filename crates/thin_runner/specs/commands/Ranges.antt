-- This file defines the results of calls to `next` and `next_back` on a range of items. (std:
-- `Vec::drain`, `DoubleEndedIterator`)
use Rattle.std.specs.Prelude.{◌-◌, List, [], ◌∷◌, Option, drop, length, slice_get, take}
use Rattle.thin_runner.specs.declared.command.Step.{Step}
use Rattle.thin_runner.specs.declared.command.Step.TheVariants.{Front, Back}

module _ {T : Type 0} where
  -- `ends_taken xs steps` is the list of the results of the steps, in order, on a range with the
  -- items `xs`. `Front` removes and returns the first of the remaining items, and `Back` removes
  -- and returns the last. Each step returns `None` if no items remain.
  abbrev pub ends_taken : List T → List Step → List (Option T)
  ends_taken xs [] = []
  ends_taken xs (Front ∷ steps) = slice_get xs 0 ∷ ends_taken (drop 1 xs) steps
  ends_taken xs (Back ∷ steps) = slice_get xs (length xs - 1)
      ∷ ends_taken (take (length xs - 1) xs) steps
