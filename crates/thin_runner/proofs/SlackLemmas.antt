-- With the growth rule `Doubling`, pushes and pops leave a capacity of at most 4, the old
-- capacity, or twice the greatest length.
use Rattle.std.proofs.Common.{◌≡◌, ℕ, ◌+◌, ◌*◌, ◌≤◌, max, List, [], ◌∷◌, Some, length, arith, ap, subst, inl, inr, All, ◌∙◌}
use Rattle.std.proofs.lemmas.Bool.{cases_lt}
use Rattle.std.proofs.lemmas.List.{length_push}
use Rattle.std.proofs.lemmas.List.Elements.{All-head, All-tail}
use Rattle.thin_vec.specs.Growth.{IsLawful, GrowthRule, doubling}
use Rattle.thin_vec.specs.ThinVec.{ListView, capacity_after_reserve}
use Rattle.thin_vec.proofs.CallerLemmas.{doubling-most}
use Rattle.thin_vec.proofs.GrowthLemmas.{cap-kept}
use Rattle.thin_runner.specs.Env.{Env}
use Rattle.thin_runner.specs.Steps.{Steps}
use Rattle.thin_runner.specs.Run.{IsPushOrPop, Runs, peak}
use Rattle.thin_runner.specs.declared.command.Command.{Command}
use Rattle.thin_runner.specs.declared.command.Command.TheVariants.{Push, Pop}
use Rattle.thin_runner.specs.declared.command.Reply.{Reply}
use Rattle.thin_runner.specs.declared.command.Reply.TheVariants.{Done, Item, Returned, OutOfRange}

-- The bound of the first step and the bound of the rest give the bound of the run.
slack-join : (before mid after len long rest : ℕ) → mid ≤ max before (max 4 (2 * long))
    → after ≤ max mid (max 4 (2 * rest)) → long ≤ rest
    → after ≤ max before (max 4 (2 * max len rest))
slack-join before mid after len long rest first later less = omega (arith, first, later, less)

module _ {T A G J : Type 0} (here : Env T A J) (law : IsLawful here.rule)
    (doubles : here.rule ≡ doubling) where
  step-slack : (v w : ListView T A) (command : Command T A G) (reply : Reply T A G)
      → IsPushOrPop command → Steps here v command reply w
      → w.capacity ≤ max v.capacity (max 4 (2 * length w.items))
  step-slack v w (Push x) Done only s =
      let want : ℕ = length v.items + 1 in
      let next : capacity_after_reserve doubling here.R v 1 ≡ Some w.capacity =
      subst (λ (r : GrowthRule). capacity_after_reserve r here.R v 1 ≡ Some w.capacity) doubles
      s.1.0 in
      let items : length w.items ≡ want = ap (λ z. length z.items) s.1.1 ∙ length_push v.items x in
      elim (cases_lt v.capacity want) [
        | inl full ↦
            let most = doubling-most _ _ v.capacity want w.capacity full next in
            omega (arith, most, items)
        | inr spare ↦
            let same = cap-kept here.rule here.R law v 1 w.capacity spare s.1.0 in
            omega (arith, same)
      ]
  step-slack v w Pop (Item o) only s = omega (arith, ap (λ z. z.capacity) s.1.2)
  step-slack v w (Push x) (Returned y cause) only s = omega (arith, ap (λ z. z.capacity) s.1.1.2)
  step-slack v w (Push x) (OutOfRange back) only s = omega (arith, ap (λ z. z.capacity) s.2)
  step-slack v w Pop (OutOfRange back) only s = omega (arith, ap (λ z. z.capacity) s.2)
  step-slack v w (Push x) reply only s = absurd s.1
  step-slack v w Pop reply only s = absurd s.1
  step-slack v w command reply only s = absurd only

  peak-first : (v w : ListView T A) (commands : List (Command T A G)) (replies : List (Reply T A G))
      (run : Runs here v commands replies w) → length v.items ≤ peak here v w commands replies run
  peak-first v w (c ∷ commands) (r ∷ replies) run = omega arith
  peak-first v w commands replies run = omega arith

  pub runs-slack : (v w : ListView T A) (commands : List (Command T A G))
      (replies : List (Reply T A G))
      → All IsPushOrPop commands → (run : Runs here v commands replies w)
      → w.capacity ≤ max v.capacity (max 4 (2 * peak here v w commands replies run))
  runs-slack v w [] [] only run = omega (arith, ap (λ z. z.capacity) run)
  runs-slack v w (c ∷ commands) (r ∷ replies) only run =
      slack-join v.capacity run.0.capacity w.capacity (length v.items) (length run.0.items)
      (peak here run.0 w commands replies run.1.1)
      (step-slack v run.0 c r (All-head IsPushOrPop c commands only) run.1.0)
      (runs-slack run.0 w commands replies (All-tail IsPushOrPop c commands only) run.1.1)
      (peak-first run.0 w commands replies run.1.1)
  runs-slack v w commands replies only run = absurd run
