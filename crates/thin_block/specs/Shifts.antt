-- This file defines the predicate `IsShifted`, which states how far and in which direction items
-- are moved within a block.
use Rattle.std.specs.Prelude.{◌≡◌, ℕ, Bool, true, false}
use Rattle.core.specs.Ptr.{Ptr, ptr_add}
use denote.RattleType.{RattleType}

-- `IsShifted R up d source target` states that the pointer `target` is the pointer `source` after a
-- shift by the size of `d` items of the type `R`. The shift is upward if `up` is true, and downward
-- otherwise.
abbrev pub IsShifted : RattleType → Bool → ℕ → Ptr → Ptr → Type 0
IsShifted R true d source target = target ≡ ptr_add R d source
IsShifted R false d source target = source ≡ ptr_add R d target
