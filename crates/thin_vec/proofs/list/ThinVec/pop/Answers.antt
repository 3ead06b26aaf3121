-- `pop` calls `pop_last` only if the list is not empty.
use Rattle.std.proofs.Common.{arith}
use Rattle.std.proofs.lemmas.Grind.{common_steps}
use Rattle.thin_vec.proofs.list.ThinVec.pop.Goals as goal

pub pop_last-requires : goal.pop_last-requires
pop_last-requires g c = grind (arith, common_steps)

pub returns-clause-variant : goal.returns-clause-variant
returns-clause-variant g c = grind (arith, common_steps)

pub returns-clause-bounds_before : goal.returns-clause-bounds_before
returns-clause-bounds_before g c = grind (arith, common_steps)

pub returns-clause-value : goal.returns-clause-value
returns-clause-value g c = λ d some. grind (arith, common_steps)
