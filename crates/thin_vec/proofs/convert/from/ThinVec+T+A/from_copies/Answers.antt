-- The bound `Copy` on the item type does not change the capacity that `with_capacity` names.
use Rattle.std.proofs.Common.{refl}
use Rattle.thin_vec.proofs.list.ReservesLemmas.{tells-made, tells-same}
use Rattle.thin_vec.proofs.convert.from.ThinVec+T+A.from_copies.Goals as goal

pub returns-in-Ok-clause-overflow : goal.returns-in-Ok-clause-overflow
returns-in-Ok-clause-overflow g c =
    tells-made _ _ _ _ refl c.in-Ok.ensures.overflow

pub returns-in-Err-clause-overflow : goal.returns-in-Err-clause-overflow
returns-in-Err-clause-overflow g c =
    tells-same _ _ _ _ refl c.in-Err.ensures.overflow
