-- If the list has room for `additional` more items, its capacity does not change.
use Rattle.std.proofs.Common.{arith, refl}
use denote.Param.{param}
use Rattle.thin_vec.proofs.list.ReservesLemmas.{capacity-kept, doubles-grown, tells-ok}
use Rattle.thin_vec.proofs.list.ThinVec.reserve.Goals as goal

pub returns-then-additional-capacity-clause-capacity :
    goal.returns-then-additional-capacity-clause-capacity
returns-then-additional-capacity-clause-capacity g c =
    capacity-kept (param 0 g.row.T) c.args.self.now _ c.args.additional c.args.self.now
    (search arith) refl

pub returns-then-additional-capacity-clause-overflow :
    goal.returns-then-additional-capacity-clause-overflow
returns-then-additional-capacity-clause-overflow g c =
    tells-ok _ _ _ (returns-then-additional-capacity-clause-capacity g c)

pub returns-clause-doubles : goal.returns-clause-doubles
returns-clause-doubles g c =
    doubles-grown c.grow_for.result (param 0 g.row.T) c.args.self.now _ _ _ c.grow_for.ensures.valid
