-- These lemmas are about rows of slots in which filled slots are followed by empty slots.
use Rattle.std.specs.Prelude.{◌≡◌, ℕ, suc, zero, List, [], ◌∷◌, ◌++◌, Bool, true, false, Option, length, map, replicate}
use Rattle.std.specs.declared.option.Option.TheVariants.{Some, None}
use mathlib.Core.Path.{refl, ap, ◌∙◌}
use native.Mathlib.Omega.{arith}
use Rattle.std.specs.Option.{is_some}
use Rattle.thin_block.specs.Slots.{empty_slots, filled_slots, items_in}

-- `shape n m` describes a list of `n` filled slots, followed by `m` empty slots: `n` times `true`,
-- and then `m` times `false`.
abbrev pub shape : ℕ → ℕ → List Bool
shape n m = replicate n true ++ replicate m false

-- `head_of bs` encodes the first flag of the list `bs` as a number, which `omega` can compare.
head_of : List Bool → ℕ
head_of [] = 0
head_of (true ∷ bs) = 1
head_of (false ∷ bs) = 2

abbrev tail_of : List Bool → List Bool
tail_of [] = []
tail_of (b ∷ bs) = bs

none_shape : (X : Type 0) (m : ℕ) → map is_some (let none : List (Option X) = empty_slots m in
    none) ≡ replicate m false
none_shape X zero = refl
none_shape X (suc m) = ap (λ l. false ∷ l) (none_shape X m)

front_shape : {X : Type 0} (ys : List X) (m : ℕ)
    → map is_some (filled_slots ys ++ empty_slots m) ≡ shape (length ys) m
front_shape {X} [] m = none_shape X m
front_shape (y ∷ ys) m = ap (λ l. true ∷ l) (front_shape ys m)

pub to_shape : {X : Type 0} (s : List (Option X)) (m : ℕ)
    → s ≡ filled_slots (items_in s) ++ empty_slots m
    → map is_some s ≡ shape (length (items_in s)) m
to_shape s m e = ap (map is_some) e ∙ front_shape (items_in s) m

all_none : {X : Type 0} (s : List (Option X)) (m : ℕ)
    → map is_some s ≡ replicate m false → s ≡ empty_slots m
unfolding head_of
all_none [] zero e = refl
all_none [] (suc m) e = let n : 0 ≡ 2 = ap head_of e in absurd (omega (arith, n))
all_none (x ∷ s) zero e = let n = ap length e in absurd (omega (arith, n))
all_none (Some x ∷ s) (suc m) e = let n : 1 ≡ 2 = ap head_of e in absurd (omega (arith, n))
all_none (None ∷ s) (suc m) e = ap (λ l. None ∷ l) (all_none s m (ap tail_of e))

none_first : {X : Type 0} (s : List (Option X)) (ys : List X) (m : ℕ)
    → false ∷ map is_some s ≡ shape (length ys) m → None ∷ s ≡ filled_slots ys ++ empty_slots m
unfolding head_of
none_first s [] m e = all_none (None ∷ s) m e
none_first s (y ∷ ys) m e = let n : 2 ≡ 1 = ap head_of e in absurd (omega (arith, n))

pub from_shape : {X : Type 0} (s : List (Option X)) (m : ℕ)
    → map is_some s ≡ shape (length (items_in s)) m → s ≡ filled_slots (items_in s) ++ empty_slots m
unfolding head_of
from_shape [] zero e = refl
from_shape [] (suc m) e = let n : 0 ≡ 2 = ap head_of e in absurd (omega (arith, n))
from_shape (Some x ∷ s) m e = ap (λ l. Some x ∷ l) (from_shape s m (ap tail_of e))
from_shape (None ∷ s) m e = none_first s (items_in s) m e
