-- These lemmas are about loops that put items into the empty slots of a block. They state how many
-- items a loop takes at most, and what the slots contain.
use Rattle.std.proofs.Common.{◌≡◌, ℕ, ◌+◌, ◌<◌, ◌≤◌, List, [], ◌∷◌, ◌++◌, length, take, drop, Option, Some, None, Bool, true, false, refl, sym, ap, ◌∙◌, append_assoc, arith, get_or, length-append}
use Rattle.std.proofs.lemmas.List.{append-nil, length-take-le, length_push, set_at, take_more}
use lib.ListN.{set}
use Rattle.thin_block.specs.Slots.{filled_slots, write_slots}
use Rattle.thin_block.proofs.SlotsLemmas.{written-none}
use Rattle.std.specs.Iterator.{Count}
use Rattle.thin_vec.specs.Put.{IsFilledBy}
use Rattle.thin_vec.specs.declared.put.Filled.{Filled}

module _ {S X : Type 0} {steps : S → Option X → S → Type 0} {can : S → Type 0}
    {remaining : S → Count} {s : S} {f : Filled S} where
  pub filled-fits : {room : ℕ} (by : IsFilledBy steps can remaining room s f)
      → length by.items ≤ room
  filled-fits {room} by = go f.ended by.full by.short
    where
      go : (ended : Bool) → (ended ≡ false → length by.items ≡ room)
          → (ended ≡ true → length by.items < room) → length by.items ≤ room
      go true filled_slots short = omega (arith, short refl)
      go false filled_slots short = omega (arith, filled_slots refl)

  abbrev pub filled-room : {m n : ℕ} → m ≡ n → IsFilledBy steps can remaining m s f
      → IsFilledBy steps can remaining n s f
  filled-room same by = record {
    items = by.items;
    gave = by.gave;
    full = λ more. omega (arith, same, by.full more);
    short = λ ends. omega (arith, same, by.short ends);
    asked = by.asked;
    nearer = by.nearer;
  }

module _ {T : Type 0} where
  written-before : (i k : ℕ) (y : Option T) (ys s : List (Option T)) → k ≡ i + 1 → i < length s
      → set (write_slots k ys s) i y ≡ write_slots i (y ∷ ys) s
  written-before i k y ys s next low =
      let rest : List (Option T) = drop (k + length ys) s in
      let more : take k s ≡ take i s ++ get_or s i None ∷ [] =
      ap (λ (n : ℕ). take n s) next ∙ take_more s i None low in
      let past : k + length ys ≡ i + length (y ∷ ys) = omega (arith, next) in
      ap (λ (l : List (Option T)). set (l ++ (ys ++ rest)) i y) more
      ∙ (ap (λ (l : List (Option T)). set l i y)
      (append_assoc (take i s) (get_or s i None ∷ []) (ys ++ rest))
      ∙ (set_at (take i s) (get_or s i None) (ys ++ rest) y i (length-take-le i s (omega arith))
      ∙ ap (λ (n : ℕ). take i s ++ (y ∷ (ys ++ drop n s))) past))

  -- `IsMoving` is the invariant of a loop that moves the items `xs` into the slots from index
  -- `start` onward, beginning with the last item. The items `left` have not been moved yet. The
  -- slots were `r` before the loop, and they are `s` at present.
  pub record IsMoving (xs left : List T) (start : ℕ) (r s : List (Option T)) : Type 0 where
    pub rest : List T
    pub parts : xs ≡ left ++ rest
    pub slots : s ≡ write_slots (start + length left) (filled_slots rest) r

  pub moving-first : (xs : List T) (start : ℕ) (s : List (Option T)) → IsMoving xs xs start s s
  moving-first xs start s =
      record {
        rest = [];
        parts = sym (append-nil xs);
        slots = sym (written-none (start + length xs) s);
      }

  pub moving-next : {xs : List T} (left : List T) {start : ℕ} (i : ℕ) (v : T)
      {r s : List (Option T)} → IsMoving xs (left ++ v ∷ []) start r s → i ≡ start + length left
      → start + length xs ≤ length r → IsMoving xs left start r (set s i (Some v))
  moving-next {xs} left {start} i v {r} {s} m next room =
      let one : length (left ++ v ∷ []) ≡ length left + 1 = length_push left v in
      let all : length xs ≡ length (left ++ v ∷ []) + length m.rest =
      ap length m.parts ∙ length-append (left ++ v ∷ []) m.rest in
      record {
        rest = v ∷ m.rest;
        parts = m.parts ∙ append_assoc left (v ∷ []) m.rest;
        slots =
            ap (λ (l : List (Option T)). set l i (Some v)) m.slots
            ∙ (written-before i (start + length (left ++ v ∷ [])) (Some v) (filled_slots m.rest) r
            (omega (arith, next, one)) (omega (arith, next, one, all, room))
            ∙ ap (λ (n : ℕ). write_slots n (filled_slots (v ∷ m.rest)) r) next);
      }
