-- A list without entries represents the empty map.
use Rattle.std.proofs.Common.{ap, ◌∙◌}
use Rattle.std.specs.FinMap.{from_sorted}
use Rattle.thin_rows.proofs.RowLemmas.{none_stored}
use Rattle.thin_rows.proofs.row.Row.new.Goals as goal

pub returns : goal.returns
returns g c = record { value = ap from_sorted c.new.ensures.new.items ∙ none_stored }
