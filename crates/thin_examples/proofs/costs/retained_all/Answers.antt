-- The closure that `retained_all` passes to `retain` always returns true.
use Rattle.std.proofs.Common.{rules}
use Rattle.thin_examples.proofs.MovesLemmas.{keeps-cost, keeps-items}
use Rattle.thin_examples.proofs.costs.retained_all.Goals as goal

pub returns : goal.returns
returns g c =
    let retained = c.retain.ensures.retained in
    record {
      items = keeps-items _ (λ f x b t called. search rules) _ _ _ retained;
      no_move = keeps-cost _ (λ f x b t called. search rules) _ _ _ retained;
    }
