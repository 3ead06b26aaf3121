-- Each call to `next` yields the first of the remaining items.
use Rattle.std.proofs.Common.{length, ap}
use Rattle.std.proofs.iter.runs.Sources.{from_front, as_is}
use Rattle.thin_runner.specs.Hinted.{HintedSteps, hinted_items}
use Rattle.thin_runner.proofs.hinted.Hinted.new.Goals as goal

pub returns-clause-runs : goal.returns-clause-runs
returns-clause-runs g c run seen =
    let steps = HintedSteps {T = g.row.T.Denot} {A = g.row.A.Denot} in
    as_is run _ (from_front steps (λ item. item) hinted_items (λ old new step. ap length step.0.0)
    (λ old item new step. step.0) run seen)
