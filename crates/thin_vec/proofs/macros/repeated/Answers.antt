-- `repeated` resizes an empty list, so the growth rule chooses the capacity for `count` items.
use Rattle.std.proofs.Common.{arith, ◌∙◌}
use Rattle.thin_vec.proofs.list.ClonesLemmas.{new_lists}
use Rattle.thin_vec.proofs.macros.repeated.Goals as goal

pub returns-in_err-resize-clause-overflow : goal.returns-in_err-resize-clause-overflow
returns-in_err-resize-clause-overflow g c = grind (arith, new_lists)

pub returns-clause-overflow : goal.returns-clause-overflow
returns-clause-overflow g c = grind (arith, new_lists)

pub returns-clause-capacity : goal.returns-clause-capacity
returns-clause-capacity g c = search (arith, ◌∙◌)

pub returns-clause-cost : goal.returns-clause-cost
returns-clause-cost g c = search (arith, ◌∙◌)

pub returns-clause-fresh : goal.returns-clause-fresh
returns-clause-fresh g c =
    let resized = c.in_ok-resize.ensures in
    record {
      alloc = resized.preserved.alloc ∙ c.new-list.ensures.new.alloc;
      cheap = resized.preserved.cheap (search (arith, ◌∙◌));
      within = resized.preserved.within.1;
    }
