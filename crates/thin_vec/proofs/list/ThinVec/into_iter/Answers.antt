-- The block of a list satisfies the invariant of an `IntoIter` that has not yielded an item yet.
use Rattle.std.proofs.Common.{arith, ◌∙◌}
use Rattle.thin_vec.proofs.convert.IntoIterLemmas.{into-iter-in-order, into-iter-in-reverse}
use Rattle.thin_vec.proofs.list.ThinVec.into_iter.Goals as goal

pub returns-clause-runs : goal.returns-clause-runs
returns-clause-runs g c = into-iter-in-order g.row.T.Denot g.row.A.Denot

pub returns-clause-runs_back : goal.returns-clause-runs_back
returns-clause-runs_back g c = into-iter-in-reverse g.row.T.Denot g.row.A.Denot

pub invariant_of-result : goal.invariant_of-result
invariant_of-result g c = search (arith, ◌∙◌)
