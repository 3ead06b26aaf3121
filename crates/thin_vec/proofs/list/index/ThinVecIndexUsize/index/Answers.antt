-- The slice `self.as_slice()`, which `index` reads, contains exactly the items of the list.
use Rattle.std.proofs.Common.{arith}
use Rattle.std.proofs.lemmas.Grind.{elements}
use Rattle.thin_vec.proofs.list.index.ThinVecIndexUsize.index.Goals as goal

pub returns : goal.returns
returns g c = grind (arith, elements)
