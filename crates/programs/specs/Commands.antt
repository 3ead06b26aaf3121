-- This file defines how each command changes the state of the editor.
use Rattle.std.specs.Prelude.{◌≡◌, [], ◌∷◌, String, take}
use Rattle.std.specs.List.{replace_range}
use Rattle.programs.specs.History.{History}
use Rattle.programs.specs.declared.editor.command.Command.{Command}
use Rattle.programs.specs.declared.editor.command.Command.TheVariants.{Forget, Print, Redo, Replace, Undo}

-- `Does command old new` states that a successful run of `command` changes the state of the editor
-- from `old` to `new`.
abbrev pub Does : {A : Type 0} → Command A → History (String A) → History (String A) → Type 0
Does (Replace start end lines) old new =
    (new.text ≡ replace_range old.text start end lines.items)
    × (new.past ≡ old.text ∷ old.past) × (new.future ≡ [])
Does Undo old new = (old.past ≡ new.text ∷ new.past) × (new.future ≡ old.text ∷ old.future)
Does Redo old new = (old.future ≡ new.text ∷ new.future) × (new.past ≡ old.text ∷ old.past)
Does (Forget count) old new =
    (new.past ≡ take count old.past) × (new.text ≡ old.text) × (new.future ≡ old.future)
Does Print old new = new ≡ old
