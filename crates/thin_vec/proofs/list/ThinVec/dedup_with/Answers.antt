-- A list of less than two items has no duplicates.
use Rattle.std.proofs.Common.{arith}
use Rattle.thin_vec.specs.OpenBlock.Dedup.{Removes}
use Rattle.thin_vec.proofs.edits.DedupLemmas.{deduped-short}
use Rattle.thin_vec.proofs.list.ThinVec.dedup_with.Goals as goal

pub returns-then-len-lt2-clause-deduped : goal.returns-then-len-lt2-clause-deduped
returns-then-len-lt2-clause-deduped g c =
    deduped-short (Removes g.J.PairTest.tests) c.args.test.now c.args.self.now
    (omega (arith, c.len-len.ensures.value, c.if-len-lt2.true))
