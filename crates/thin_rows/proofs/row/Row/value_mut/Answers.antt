-- A write through the returned reference changes the value of one entry, but not its column.
use Rattle.std.proofs.Common.{◌≡◌, Some, nat_cmp, length-set, refl, sym, ap, ◌∙◌}
use Rattle.std.proofs.lemmas.Option.{get_or_from_slice_get}
use Rattle.std.specs.FinMap.{entries-from_sorted}
use Rattle.thin_rows.proofs.RowLemmas.{get_at, set_is, set_rises}
use Rattle.thin_rows.proofs.row.Row.value_mut.Goals as goal

pub index_mut-requires : goal.index_mut-requires
index_mut-requires g c =
    (rw (
      ← c.self.view_is,
      entries-from_sorted nat_cmp c.self.inside.entries.items c.self.invariant.sorted,
    ) at
    c.requires.found).in_bounds

pub invariant_of-self-lent : goal.invariant_of-self-lent
invariant_of-self-lent g c w =
    let row = c.self.inside.entries in
    let place = rw (
      ← c.self.view_is,
      entries-from_sorted nat_cmp row.items c.self.invariant.sorted,
    ) at c.requires.found in
    let read = get_or_from_slice_get row.items c.args.at _ c.index_mut.result.now
    c.index_mut.ensures.found in
    let column : c.index_mut.result.now.0 ≡ c.args.column = sym (ap (λ entry. entry.0) read)
    ∙ place.same c.index_mut.result.now in
    record {
      sorted = rw column
          (set_rises row.items c.self.invariant.sorted c.args.column c.args.at place w);
      block = rw (length-set row.items c.args.at
          (c.index_mut.result.now.0, w)) c.self.invariant.block;
    }

pub returns : goal.returns
returns g c =
    let row = c.self.inside.entries in
    let place = rw (
      ← c.self.view_is,
      entries-from_sorted nat_cmp row.items c.self.invariant.sorted,
    ) at c.requires.found in
    let read = get_or_from_slice_get row.items c.args.at _ c.index_mut.result.now
    c.index_mut.ensures.found in
    let column : c.index_mut.result.now.0 ≡ c.args.column = sym (ap (λ entry. entry.0) read)
    ∙ place.same c.index_mut.result.now in
    let found = get_at row.items c.self.invariant.sorted c.args.column c.args.at place
    c.index_mut.result.now in (
      (
        refl,
        λ w. rw (column, ← c.self.view_is)
            (set_is row.items c.self.invariant.sorted c.args.column c.args.at place w),
      ),
      record {
        writes_back = tt;
        value = rw (← c.self.view_is) (found
            ∙ ap (λ entry. Some entry.1) read);
      },
    )
