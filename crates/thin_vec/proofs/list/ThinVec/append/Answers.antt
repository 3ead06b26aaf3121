-- `append` calls `reserve` with the number of items of `other`, and returns its error.
use Rattle.std.proofs.Common.{Some, arith, ap, sym, ◌∙◌}
use Rattle.thin_vec.proofs.list.ReservesLemmas.{tells-ok}
use Rattle.thin_vec.proofs.list.ThinVec.append.Goals as goal

pub returns-clause-items : goal.returns-clause-items
returns-clause-items g c = search (arith, ◌∙◌)

pub returns-in-Err-clause-err : goal.returns-in-Err-clause-err
returns-in-Err-clause-err g c = search (arith, ◌∙◌)

pub returns-in-Err-clause-overflow : goal.returns-in-Err-clause-overflow
returns-in-Err-clause-overflow g c = rw c.len.ensures.value at c.in-Err.ensures.overflow

pub returns-clause-capacity : goal.returns-clause-capacity
returns-clause-capacity g c =
    let named = rw c.len.ensures.value at c.in-Ok.ensures.capacity in
    named ∙ ap Some (sym c.append_reserved.ensures.capacity)

pub returns-clause-overflow : goal.returns-clause-overflow
returns-clause-overflow g c = tells-ok _ _ _ (returns-clause-capacity g c)
