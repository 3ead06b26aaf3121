-- The stored list contains the entries of the map, in the same order.
use Rattle.std.proofs.Common.{nat_cmp, ap, sym, ◌∙◌}
use Rattle.std.specs.FinMap.{entries, entries-from_sorted}
use Rattle.thin_rows.proofs.row.Row.entries.Goals as goal

pub returns-clause-value : goal.returns-clause-value
returns-clause-value g c =
    c.as_slice.ensures.value ∙ (sym (entries-from_sorted nat_cmp _ c.self.invariant.sorted)
    ∙ ap entries c.self.view_is)
