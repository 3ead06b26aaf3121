-- The list of the new row has clones of the entries, so their columns rise as those of the row do.
use Rattle.std.proofs.Common.{arith}
use Rattle.std.proofs.lemmas.List.Elements.{length_all_zip}
use Rattle.thin_rows.proofs.ClonesLemmas.{cloned_row, clones_rise}
use Rattle.thin_rows.proofs.row.Row.clone.Goals as goal

pub invariant_of-result : goal.invariant_of-result
invariant_of-result g c =
    let told = c.in_ok-entries.ensures in
    let same = length_all_zip _ _ _ told.items in
    record {
      sorted = clones_rise g.V.Clone.is_clone c.self.inside.entries.items
          c.in_ok-entries.entries.items told.items c.self.invariant.sorted;
      block = (
        λ some. omega (arith, some, same, told.capacity),
        λ some. omega (arith, some, same, told.capacity),
      );
    }

pub returns-clause-entries : goal.returns-clause-entries
returns-clause-entries g c =
    cloned_row g.V.Clone.is_clone c.self.inside.entries.items c.in_ok-entries.entries.items
    c.args.self.now c.in_ok-entries.ensures.items c.self.invariant.sorted c.self.view_is
