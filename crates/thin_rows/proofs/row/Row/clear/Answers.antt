-- After `clear`, the row is the empty map.
use Rattle.std.proofs.Common.{ap, ◌∙◌}
use Rattle.std.specs.FinMap.{from_sorted}
use Rattle.thin_rows.proofs.RowLemmas.{none_stored}
use Rattle.thin_rows.proofs.row.Row.clear.Goals as goal

pub returns : goal.returns
returns g c = record {
  entries = ap from_sorted (c.free_if_empty.ensures.items ∙ c.clear.ensures.items) ∙ none_stored;
}
