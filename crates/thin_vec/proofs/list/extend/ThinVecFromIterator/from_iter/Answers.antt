-- The list contains exactly the items that the iterator yields, in order.
use Rattle.std.proofs.Common.{arith, refl, ◌∙◌}
use Rattle.thin_vec.proofs.list.extend.ThinVecFromIterator.from_iter.Goals as goal

pub from_iter-requires-clause-can_next : goal.from_iter-requires-clause-can_next
from_iter-requires-clause-can_next g c = search (arith, ◌∙◌)

pub returns-in-Ok : goal.returns-in-Ok
returns-in-Ok g c =
    let e = c.in-Ok.ensures in let d = e.items in
    record {
      ran = (
        c.into_iter.result,
        c.in-Ok.list.items,
        c.into_iter.ensures.into_iter_gives,
        (d.1.0, d.1.1, λ _. (d.0, d.1.2)),
        (
          refl,
          refl,
          e.new.made.cheap,
          e.new.made.within,
          (e.new.pushed.0, e.new.pushed.2),
        ),
      );
    }
