-- Which items a `Hinted` yields, and how calls to `next` change it.
use Rattle.std.proofs.Common.{◌≡◌, List, [], ◌∷◌, ◌++◌, ap, sym, ◌∙◌}
use Rattle.std.proofs.lemmas.List.{append-nil}
use Rattle.std.specs.Iterator.{Drains, Yields}
use Rattle.thin_runner.specs.Hinted.{HintedSteps, hinted_claim, hinted_items}
use Rattle.thin_runner.specs.declared.hinted.Hinted.{Hinted}

module _ {T A : Type 0} where
  pub yields-items : (s t : Hinted T A) (xs : List T) → Yields (HintedSteps {T = T} {A = A}) s xs t
      → hinted_items s ≡ xs ++ hinted_items t
  yields-items s t [] e = ap hinted_items e
  yields-items s t (x ∷ xs) e = e.1.0 ∙ ap (λ l. x ∷ l) (yields-items e.0 t xs e.2)

  pub yields-claim : (s t : Hinted T A) (xs : List T) → Yields (HintedSteps {T = T} {A = A}) s xs t
      → hinted_claim t ≡ hinted_claim s
  yields-claim s t [] e = ap hinted_claim (sym e)
  yields-claim s t (x ∷ xs) e = yields-claim e.0 t xs e.2 ∙ e.1.1

  pub drains-items : (s : Hinted T A) (xs : List T) → Drains (HintedSteps {T = T} {A = A}) s xs
      → xs ≡ hinted_items s
  drains-items s xs d = sym (yields-items s d.1.0 xs d.1.1
      ∙ (ap (λ l. xs ++ l) d.1.2.0.0 ∙ append-nil xs))
