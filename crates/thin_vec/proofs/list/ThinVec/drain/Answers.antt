-- Calls to `next` and `next_back` do not change the list that remains after the drop.
use Rattle.std.proofs.Common.{arith, ◌∙◌}
use Rattle.thin_vec.proofs.edits.DrainLemmas.{drain_keeps_along, drains_in_order, drains_in_reverse}
use Rattle.thin_vec.proofs.list.ThinVec.drain.Goals as goal

pub returns-clause-runs : goal.returns-clause-runs
returns-clause-runs g c = drains_in_order

pub returns-clause-runs_back : goal.returns-clause-runs_back
returns-clause-runs_back g c = drains_in_reverse

pub returns-clause-next_keeps : goal.returns-clause-next_keeps
returns-clause-next_keeps g c = drain_keeps_along _

pub returns-clause-rest : goal.returns-clause-rest
returns-clause-rest g c = search (arith, ◌∙◌)
