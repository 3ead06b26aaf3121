-- A write to the borrowed row changes this row alone.
use Rattle.std.proofs.Common.{◌≡◌, ap, slice_index_or, slice_set, sym, ◌∙◌}
use Rattle.std.proofs.lemmas.List.{set-get_or}
use Rattle.std.proofs.lemmas.Option.{get_or_from_slice_get}
use Rattle.std.specs.FinMap as map
use Rattle.std.specs.Option.{ghost_name_of}
use borrow.Follows.Closed.{read_of}
use Rattle.thin_rows.specs.Table.{value_at}
use Rattle.thin_rows.proofs.table.Rows.get_mut.Goals as goal

pub returns : goal.returns
returns g c =
    let rows = c.self.inside.rows.items in
    let row = c.index_mut.result.now in
    let same : slice_index_or rows c.args.row map.empty ≡ row =
    get_or_from_slice_get rows c.args.row row map.empty c.index_mut.ensures.found in
    let stays : slice_set rows c.args.row row ≡ rows = ap (slice_set rows c.args.row) (sym same)
    ∙ set-get_or rows c.args.row map.empty in (
      rw (← c.self.view_is) (λ i. read_of (ghost_name_of c.get_mut.result)
          (λ w. slice_set rows c.args.row (map.insert (sym same i) c.args.column w)) (stays i)),
      record {
        writes_back = tt;
        value = c.get_mut.ensures.value
            ∙ (ap (λ r. map.get r c.args.column) (sym same)
            ∙ ap (λ t. value_at t c.args.row c.args.column) c.self.view_is);
      },
    )
