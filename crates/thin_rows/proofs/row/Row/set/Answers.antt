-- `set` overwrites the entry of the column, or inserts one at the index that the search returned.
use Rattle.std.proofs.Common.{inl, inr, ◌≡◌, ◌+◌, sym, ap, ◌∙◌, length, length-set, arith, Some}
use Rattle.std.proofs.lemmas.Bool.{cases_lt, false≢true}
use Rattle.std.specs.FinMap.{len}
use Rattle.thin_vec.specs.Growth.{doubling}
use Rattle.std.proofs.lemmas.Option.{get_or_from_slice_get}
use Rattle.std.proofs.lemmas.List.Edits.{length-insert}
use Rattle.thin_rows.proofs.RowLemmas.{get_at, get_gap, insert_is, insert_rises, len_is, set_is, set_rises}
use Rattle.thin_rows.proofs.RowTypeLemmas.{failure_tells, ruled_of_same}
use Rattle.thin_rows.proofs.row.Row.set.Goals as goal

pub invariant_of-self : goal.invariant_of-self
invariant_of-self g c =
    let row = c.self.inside.entries in
    let place = rw c.as_slice.ensures.value at c.in-Ok.ensures.ok in
    let same = length-set row.items c.in-Ok.at c.replace-column.new.dest in
    record {
      sorted = rw c.replace-column.ensures.after
          (set_rises row.items c.self.invariant.sorted c.args.column c.in-Ok.at place c.args.value);
      block = rw same c.self.invariant.block;
    }

pub returns-in-Ok-clause-value : goal.returns-in-Ok-clause-value
returns-in-Ok-clause-value g c =
    let row = c.self.inside.entries in
    let place = rw c.as_slice.ensures.value at c.in-Ok.ensures.ok in
    let read = get_or_from_slice_get row.items c.in-Ok.at _ c.index_mut.result.now
    c.index_mut.ensures.found in
    let found = get_at row.items c.self.invariant.sorted c.args.column c.in-Ok.at place
    c.index_mut.result.now in
    rw (← c.self.view_is, c.replace-column.ensures.value)
    (sym (found ∙ ap (λ entry. Some entry.1) read))

pub returns-in-Ok-clause-entries : goal.returns-in-Ok-clause-entries
returns-in-Ok-clause-entries g c =
    let row = c.self.inside.entries in
    let place = rw c.as_slice.ensures.value at c.in-Ok.ensures.ok in
    rw (c.replace-column.ensures.after, ← c.self.view_is)
    (set_is row.items c.self.invariant.sorted c.args.column c.in-Ok.at place c.args.value)

pub invariant_of-self-in-Err : goal.invariant_of-self-in-Err
invariant_of-self-in-Err g c =
    let row = c.self.inside.entries in
    let gap = rw c.as_slice.ensures.value at c.in-Err.ensures.err in
    let items = c.in_default.ensures.items in
    let longer = length-insert row.items c.in-Err.at (c.args.column, c.args.value) gap.in_bounds in
    record {
      sorted = rw items (insert_rises row.items c.self.invariant.sorted c.args.column c.in-Err.at
          gap c.args.value);
      block = (
        λ _. rw (items, longer) (omega arith),
        λ some. omega (arith, c.in_default.ensures.preserved.within.1.room),
      );
    }

pub returns-in-Err-insert-clause-succeeds : goal.returns-in-Err-insert-clause-succeeds
returns-in-Err-insert-clause-succeeds g c some =
    let row = c.self.inside.entries in
    let gap = rw c.as_slice.ensures.value at c.in-Err.ensures.err in
    rw (← c.self.view_is, get_gap row.items c.self.invariant.sorted c.args.column c.in-Err.at gap)
    at some

pub returns-in-Err-insert-clause-overflow : goal.returns-in-Err-insert-clause-overflow
returns-in-Err-insert-clause-overflow g c =
    let row = c.self.inside.entries in
    let many : len c.args.self.now ≡ length row.items =
    sym (sym (len_is row.items c.self.invariant.sorted) ∙ ap len c.self.view_is) in
    let full : len c.args.self.now ≡ row.capacity =
    elim (cases_lt row.capacity (length row.items + 1)) [
      | inl few ↦ omega (arith, few, many, c.insert.ensures.preserved.within.0.room)
      | inr spare ↦ absurd (false≢true (c.in-Err-insert.ensures.succeeds spare))
    ] in
    failure_tells (ruled_of_same doubling _ _ full (ap (λ k. k + 1) many))
    c.in-Err-insert.ensures.cause.1

pub returns-in_default-clause-value : goal.returns-in_default-clause-value
returns-in_default-clause-value g c =
    let row = c.self.inside.entries in
    let gap = rw c.as_slice.ensures.value at c.in-Err.ensures.err in
    rw (← c.self.view_is)
    (sym (get_gap row.items c.self.invariant.sorted c.args.column c.in-Err.at gap))

pub returns-in_default-clause-entries : goal.returns-in_default-clause-entries
returns-in_default-clause-entries g c =
    let row = c.self.inside.entries in
    let gap = rw c.as_slice.ensures.value at c.in-Err.ensures.err in
    rw (c.in_default.ensures.items, ← c.self.view_is)
    (insert_is row.items c.self.invariant.sorted c.args.column c.in-Err.at gap c.args.value)
