-- The slice that is passed to `extend_from_slice` contains all items of the vector that the command
-- holds.
use Rattle.std.proofs.Common.{Err, ap, arith, length}
use denote.Param.{param}
use Rattle.thin_vec.specs.ThinVec.{HasRoomFor}
use Rattle.thin_runner.proofs.CommandLemmas.{refuses-clone, some-items}
use Rattle.thin_runner.proofs.context.Context.extend_from_slice.Goals as goal

pub returns : goal.returns
returns g c =
    let e = c.in-Err.ensures in
    let same = c.as_slice.ensures.value in
    let stopped = refuses-clone g.G.Growth.rule (param 0 g.row.T) _ e.preserved.alloc e.err in
    let overflow = rw same at e.overflow.overflow in
    let succeeds = rw same at e.succeeds in
    record {
      allowed = (
        tt,
        (
          some-items c.args.items.items (λ none.
              let room : HasRoomFor c.args.list.now (length c.args.items.items) =
              omega (arith, ap length none, e.preserved.within.0.room) in
              let wrong = succeeds room
              (λ k d less. absurd (omega (arith, less, ap length none))) in cc),
          (
            (
              λ none. let q = overflow.1 none in cc,
              λ over. overflow.0 (ap Err over),
            ),
            λ room all. let q = succeeds room all in cc,
            rw same at stopped,
          ),
        ),
      );
    }
