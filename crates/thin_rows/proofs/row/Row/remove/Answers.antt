-- The row loses the given column, or does not change if it has no entry of this column.
use Rattle.std.proofs.Common.{Some, sym, ap, ◌∙◌}
use Rattle.std.proofs.lemmas.Option.{get_or_from_slice_get}
use Rattle.thin_rows.proofs.RowLemmas.{get_at, get_gap, remove_is, remove_rises, unchanged}
use Rattle.thin_rows.proofs.row.Row.remove.Goals as goal

pub returns-in-Err-clause-value : goal.returns-in-Err-clause-value
returns-in-Err-clause-value g c =
    let row = c.self.inside.entries in
    let gap = rw c.as_slice.ensures.value at c.in-Err.ensures.err in
    rw (← c.self.view_is)
    (sym (get_gap row.items c.self.invariant.sorted c.args.column c.in-Err._gap gap))

pub returns-in-Err-clause-entries : goal.returns-in-Err-clause-entries
returns-in-Err-clause-entries g c =
    let row = c.self.inside.entries in
    let gap = rw c.as_slice.ensures.value at c.in-Err.ensures.err in
    rw (← c.self.view_is)
    (unchanged row.items c.self.invariant.sorted c.args.column c.in-Err._gap gap)

pub invariant_of-self : goal.invariant_of-self
invariant_of-self g c =
    let row = c.self.inside.entries in
    let place = rw c.as_slice.ensures.value at c.in-Ok.ensures.ok in
    record {
      sorted = rw (c.free_if_empty.ensures.items, c.remove-column.ensures.items)
          (remove_rises row.items c.self.invariant.sorted c.args.column c.in-Ok.at place);
      block = c.free_if_empty.ensures.capacity;
    }

pub returns-clause-value : goal.returns-clause-value
returns-clause-value g c =
    let row = c.self.inside.entries in
    let place = rw c.as_slice.ensures.value at c.in-Ok.ensures.ok in
    let read = get_or_from_slice_get row.items c.in-Ok.at _ c.remove-column.result
    c.remove-column.ensures.found in
    let found = get_at row.items c.self.invariant.sorted c.args.column c.in-Ok.at place
    c.remove-column.result in
    rw (← c.self.view_is) (sym (found ∙ ap (λ entry. Some entry.1) read))

pub returns-clause-entries : goal.returns-clause-entries
returns-clause-entries g c =
    let row = c.self.inside.entries in
    let place = rw c.as_slice.ensures.value at c.in-Ok.ensures.ok in
    rw (c.free_if_empty.ensures.items, c.remove-column.ensures.items, ← c.self.view_is)
    (remove_is row.items c.self.invariant.sorted c.args.column c.in-Ok.at place)
