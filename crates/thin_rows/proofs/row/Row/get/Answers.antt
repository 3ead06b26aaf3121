-- The entry at the index that the search found has the value of the map at the column.
use Rattle.std.proofs.Common.{sym}
use Rattle.thin_rows.proofs.RowLemmas.{get_at, get_gap}
use Rattle.thin_rows.proofs.row.Row.get.Goals as goal

pub returns-in-Ok : goal.returns-in-Ok
returns-in-Ok g c =
    let row = c.self.inside.entries in
    let place = rw c.as_slice-entries.ensures.value at c.in-Ok.ensures.ok in
    record {
      value = rw (← c.self.view_is, c.as_slice-entries.ensures.value)
          (sym (get_at row.items c.self.invariant.sorted c.args.column c.in-Ok.at place
          c.index-entries-at.result));
    }

pub returns-in-Err : goal.returns-in-Err
returns-in-Err g c =
    let row = c.self.inside.entries in
    let gap = rw c.as_slice-entries.ensures.value at c.in-Err.ensures.err in
    record {
      value = rw (← c.self.view_is) (sym
          (get_gap row.items c.self.invariant.sorted c.args.column c.in-Err._gap gap));
    }
