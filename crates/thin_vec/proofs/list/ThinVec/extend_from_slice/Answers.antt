-- `extend_from_slice` reserves room, and then calls `extend_from_slice_reserved`.
use Rattle.std.proofs.Common.{inl}
use Rattle.std.proofs.lemmas.Bool.{false≢true}
use Rattle.thin_vec.proofs.edits.SpliceLemmas.{any-err}
use Rattle.thin_vec.proofs.list.ClonesLemmas.{grew-after, overflow-unchanged}
use Rattle.thin_vec.proofs.list.ReservesLemmas.{tells-then}
use Rattle.thin_vec.proofs.list.ThinVec.extend_from_slice.Goals as goal

pub returns-clause-err : goal.returns-clause-err
returns-clause-err g c =
    let made = c.extend_from_slice_reserved.ensures in
    grew-after g.T.Clone.is_infallible c.args.items.now c.args.self.now c.reserve.new.self
    c.extend_from_slice_reserved.new.self c.in_ok-reserve.ensures.capacity
    c.reserve.ensures.items c.in_ok-reserve.ensures.cost made.capacity _
    c.extend_from_slice_reserved.result made.err_items made.err

pub returns-clause-overflow : goal.returns-clause-overflow
returns-clause-overflow g c =
    tells-then _ _ c.extend_from_slice_reserved.result c.in_ok-reserve.ensures.capacity
    c.extend_from_slice_reserved.ensures.cause

pub returns-clause-err_overflow : goal.returns-clause-err_overflow
returns-clause-err_overflow g c =
    overflow-unchanged _ _ _ c.extend_from_slice_reserved.result (returns-clause-overflow g c)
    (returns-clause-err g c)

pub returns-in_err-reserve-clause-err : goal.returns-in_err-reserve-clause-err
returns-in_err-reserve-clause-err g c =
    any-err c.from_residual.result (λ _. inl (
      λ room. false≢true (c.in_err-reserve.ensures.succeeds room),
      c.in_err-reserve.ensures.err,
    ))
