-- The stored list has as many entries as the map.
use Rattle.std.proofs.Common.{sym, ap, ◌∙◌}
use Rattle.std.specs.FinMap.{len}
use Rattle.thin_rows.proofs.RowLemmas.{len_is}
use Rattle.thin_rows.proofs.row.Row.len.Goals as goal

pub returns : goal.returns
returns g c =
    let row = c.self.inside.entries in
    record {
      value = c.len.ensures.value ∙ (sym (len_is row.items c.self.invariant.sorted)
          ∙ ap len c.self.view_is);
    }
