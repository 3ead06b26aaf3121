-- The results of steps that begin with a call to `next_back`.
use Rattle.std.proofs.Common.{◌≡◌, ◌-◌, List, [], ◌∷◌, ◌++◌, Option, None, Some, ap, arith, length, refl, subst, sym, take, ◌∙◌}
use Rattle.std.proofs.Math.Seq.{take-append_seam}
use Rattle.std.proofs.lemmas.List.{length_push}
use Rattle.std.specs.List.{slice_get}
use Rattle.std.specs.Prelude.{MatchOption}
use Rattle.thin_runner.specs.commands.Ranges.{ends_taken}
use Rattle.thin_runner.specs.declared.command.Step.{Step}
use Rattle.thin_runner.specs.declared.command.Step.TheVariants.{Back}

module _ {T : Type 0} where
  pub last-of : (xs : List T) (x : T) → slice_get (xs ++ x ∷ []) (length xs) ≡ Some x
  last-of [] x = refl
  last-of (y ∷ xs) x = last-of xs x

  ends_taken-last : (xs ys : List T) (item : Option T)
      → MatchOption item ((xs ≡ []) × (ys ≡ [])) (λ x. xs ≡ ys ++ x ∷ [])
      → (steps : List Step) → ends_taken xs (Back ∷ steps) ≡ item ∷ ends_taken ys steps
  ends_taken-last xs ys None e steps =
      ap (λ l. slice_get l (length l - 1) ∷ ends_taken (take (length l - 1) l) steps) e.0
      ∙ sym (ap (λ l. None ∷ ends_taken l steps) e.1)
  ends_taken-last xs ys (Some x) e steps =
      let count : length xs - 1 ≡ length ys = omega (arith, ap length e, length_push ys x) in
      let last : slice_get xs (length xs - 1) ≡ Some x = (λ i. slice_get (e i) (count i))
      ∙ last-of ys x in
      let others : take (length xs - 1) xs ≡ ys = (λ i. take (count i) (e i))
      ∙ take-append_seam ys (x ∷ []) in
      λ i. last i ∷ ends_taken (others i) steps

  pub ends_taken-back : (xs ys : List T) (item : Option T) (step : Step) → step ≡ Back
      → MatchOption item ((xs ≡ []) × (ys ≡ [])) (λ x. xs ≡ ys ++ x ∷ [])
      → (steps : List Step) → ends_taken xs (step ∷ steps) ≡ item ∷ ends_taken ys steps
  ends_taken-back xs ys item step at gave steps =
      subst (λ s. ends_taken xs (s ∷ steps) ≡ item ∷ ends_taken ys steps) (sym at)
      (ends_taken-last xs ys item gave steps)
