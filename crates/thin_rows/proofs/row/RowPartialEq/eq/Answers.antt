-- The lists of two rows are compared, which contain the entries of the maps, in the same order.
use Rattle.std.proofs.Common.{nat_cmp}
use Rattle.std.specs.FinMap.{entries-from_sorted}
use Rattle.thin_rows.proofs.row.RowPartialEq.eq.Goals as goal

pub returns : goal.returns
returns g c =
    rw (
      ← c.self.view_is,
      ← c.other.view_is,
      entries-from_sorted nat_cmp c.self.inside.entries.items c.self.invariant.sorted,
      entries-from_sorted nat_cmp c.other.inside.entries.items c.other.invariant.sorted,
    )
    c.eq.ensures
