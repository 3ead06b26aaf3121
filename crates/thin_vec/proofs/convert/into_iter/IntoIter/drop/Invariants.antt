-- The loop in `drop` ends because each iteration reduces the number of remaining items.
use Rattle.std.proofs.Common.{length}
use Rattle.thin_vec.proofs.convert.into_iter.IntoIter.drop.Given as goal

abbrev pub decreases-loop-item : goal.decreases-loop-item
decreases-loop-item g l = length l.self.items
