-- An item is kept if `same` returns false.
use Rattle.std.proofs.Common.{rules}
use Rattle.std.proofs.Math.Bool.{not-not}
use Rattle.thin_vec.proofs.edits.dedup.SameByPairTest.test.Goals as goal

pub returns-clause-tested : goal.returns-clause-tested
returns-clause-tested g c = simp not-not (search rules)
