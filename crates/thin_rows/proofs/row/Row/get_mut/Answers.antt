-- An entry has the same index in the list of the row and in the map.
use Rattle.std.proofs.Common.{nat_cmp, refl, sym}
use Rattle.std.specs.FinMap.{entries-from_sorted}
use Rattle.thin_rows.proofs.RowLemmas.{get_gap}
use Rattle.thin_rows.proofs.row.Row.get_mut.Goals as goal

pub value_mut-requires : goal.value_mut-requires
value_mut-requires g c =
    record {
      found = rw (
        ← c.self.view_is,
        entries-from_sorted nat_cmp c.self.inside.entries.items c.self.invariant.sorted,
        ← c.as_slice.ensures.value,
      ) c.in-Ok.ensures.ok;
    }

pub returns-in-Err : goal.returns-in-Err
returns-in-Err g c =
    let row = c.self.inside.entries in
    let gap = rw c.as_slice.ensures.value at c.in-Err.ensures.err in (
      refl,
      record {
        writes_back = tt;
        value =
            rw (← c.self.view_is)
            (sym (get_gap row.items c.self.invariant.sorted c.args.column c.in-Err._gap gap));
      },
    )
