-- The new rows are clones of the rows that the loop has visited. There is room for all others.
use Rattle.std.proofs.Common.{◌≡◌, length, take}
use Rattle.thin_rows.specs.Table.{IsClonedTable}
use Rattle.thin_rows.proofs.table.Rows.clone.Given as goal

abbrev pub invariant-loop-source : goal.invariant-loop-source
invariant-loop-source g l =
    IsClonedTable g.V.Clone.is_clone (take l.source-index l.sources) l.rows.items
    × (length l.rows.items ≡ l.source-index) × (l.rows.capacity ≡ length l.sources)
