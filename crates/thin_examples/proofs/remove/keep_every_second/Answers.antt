-- The closure keeps an item if and only if it has not kept the item before. So the list keeps every
-- second item.
use Rattle.std.proofs.Common.{◌≡◌, Bool, true, false, List, [], ◌∷◌, ap, arith, length, refl, rules, ◌∙◌}
use Rattle.std.specs.List.{items_where_true}
use Rattle.std.specs.List.Retain.{ReturnsInTurn}
use Rattle.std.specs.Prelude.{not}
use Rattle.thin_vec.specs.Edits.Retain.{IsRetained}
use Rattle.thin_vec.specs.ThinVec.{ListView}
use Rattle.thin_examples.specs.EverySecond.{alternating}
use Rattle.thin_examples.proofs.remove.keep_every_second.Goals as goal

-- `R` describes the calls of the closure. The flag of its state says whether it kept the item
-- before.
module _ {F T : Type 0} (R : F → T → Bool → F → Type 0) (flag : F → Bool)
    (one : (f : F) (x : T) (b : Bool) (g : F) → R f x b g → (b ≡ not (flag f)) × (flag g ≡ b)) where
  -- The results of the closure alternate. The first keeps its item if the flag is false.
  kept : (flags : List Bool) (xs : List T) (f t : F) → length flags ≡ length xs
      → ReturnsInTurn R f flags xs t
      → items_where_true flags xs ≡ alternating (not (flag f)) xs
  kept [] [] f t n a = refl
  kept [] (x ∷ xs) f t n a = absurd (omega (arith, n))
  kept (b ∷ flags) [] f t n a = absurd (omega (arith, n))
  kept (true ∷ flags) (x ∷ xs) f t n a =
      let step = one f x true a.0 a.1 in
      rw (← step.0) (ap (λ l. x ∷ l) (kept flags xs a.0 t (omega (arith, n)) a.2
      ∙ ap (λ (b : Bool). alternating (not b) xs) step.1))
  kept (false ∷ flags) (x ∷ xs) f t n a =
      let step = one f x false a.0 a.1 in
      rw (← step.0) (kept flags xs a.0 t (omega (arith, n)) a.2
      ∙ ap (λ (b : Bool). alternating (not b) xs) step.1)

  -- So the list keeps every second item, beginning with the first if the flag is false.
  keeps : {A : Type 0} (f : F) (v w : ListView T A) → IsRetained R f v w
      → w.items ≡ alternating (not (flag f)) v.items
  keeps f v w r = r.items ∙ kept r.flags v.items f r.last r.count r.calls

pub returns-clause-items : goal.returns-clause-items
returns-clause-items g c = keeps _ (λ f. f.0) (λ f x b t k. (search rules, search rules))
    _ c.args.list.now _ c.retain.ensures.retained
