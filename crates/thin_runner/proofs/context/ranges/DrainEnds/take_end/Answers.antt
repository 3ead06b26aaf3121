-- The step `Back` removes and returns the last of the remaining items.
use Rattle.std.proofs.Common.{rules}
use Rattle.thin_runner.proofs.NextBackLemmas.{ends_taken-back}
use Rattle.thin_runner.proofs.context.ranges.DrainEnds.take_end.Goals as goal

pub returns-in-Back-clause-value : goal.returns-in-Back-clause-value
returns-in-Back-clause-value g c = ends_taken-back _ _ _ _ c.in-Back.is (search rules)
