-- The contract of `Extend::extend` follows from the contract of the inherent method `extend`.
use Rattle.std.proofs.Common.{arith, ap, length, length-append, ◌∙◌}
use Rattle.thin_vec.proofs.list.ExtendLemmas.{yields-first}
use Rattle.thin_vec.proofs.list.extend.ThinVecExtend.extend.Goals as goal

pub returns-in-Ok : goal.returns-in-Ok
returns-in-Ok g c =
    let e = c.in-Ok.ensures in let xs = e.items.0 in let old = c.args.self.now.items in
    record {
      ran = (
        c.into_iter.result,
        xs,
        c.into_iter.ensures.into_iter_gives,
        (
          e.items.2,
          ap length e.items.2 ∙ length-append old xs,
          (e.capacity.0, e.capacity.2),
          e.preserved,
        ),
        e.items.1,
      );
    }

pub returns-in-Err : goal.returns-in-Err
returns-in-Err g c =
    let e = c.in-Err.ensures in let placed = e.placed in let old = c.args.self.now.items in
    let steps = g.U.IntoIter.Iterator.next_gives in
    let first =
    yields-first steps c.into_iter.result c.in-Err._refused.rest placed.0 _ placed.2.gave in
    record {
      ran = (
        c.into_iter.result,
        placed.0,
        c.into_iter.ensures.into_iter_gives,
        (
          placed.1,
          ap length placed.1 ∙ length-append old placed.0,
          (e.capacity.0, e.capacity.2),
          e.preserved,
        ),
        first,
      );
    }

pub extend-requires-clause-can_next : goal.extend-requires-clause-can_next
extend-requires-clause-can_next g c = search (arith, ◌∙◌)
