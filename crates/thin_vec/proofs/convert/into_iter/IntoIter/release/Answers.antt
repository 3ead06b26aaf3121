-- No items remain, so all slots of the block are empty, and the block can be released.
use Rattle.std.proofs.Common.{ap, arith, length}
use Rattle.thin_vec.proofs.convert.IntoIterLemmas.{walked-empty}
use Rattle.thin_vec.proofs.convert.into_iter.IntoIter.release.Goals as goal

pub release-requires-clause-empty : goal.release-requires-clause-empty
release-requires-clause-empty g c =
    walked-empty c.self.inside.block c.self.inside.alloc c.self.inside.start
    c.self.inside.end c.self.invariant
    (grind (arith, ap (λ v. length v.items) c.self.view_is, ap length c.requires.is_empty))
