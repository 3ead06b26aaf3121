-- `reserve` does not require items that are `Copy`, but its contract uses only the size and the
-- alignment of the item type.
use Rattle.std.proofs.Common.{Some, ap, sym, ◌∙◌}
use Rattle.thin_vec.proofs.list.ReservesLemmas.{tells-ok}
use Rattle.thin_vec.proofs.list.ThinVec.extend_from_copies.Goals as goal

pub returns-clause-capacity : goal.returns-clause-capacity
returns-clause-capacity g c =
    c.in-Ok.ensures.capacity ∙ ap Some (sym c.extend_from_copies_reserved.ensures.capacity)

pub returns-clause-overflow : goal.returns-clause-overflow
returns-clause-overflow g c = tells-ok _ _ _ (returns-clause-capacity g c)

pub returns-in-Err-clause-overflow : goal.returns-in-Err-clause-overflow
returns-in-Err-clause-overflow g c = record { overflow = c.in-Err.ensures.overflow.overflow }
