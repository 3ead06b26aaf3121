-- Each iteration adds one empty row. The capacity is the number of rows of the finished table.
use Rattle.std.proofs.Common.{◌≡◌, replicate}
use Rattle.std.specs.FinMap as map
use Rattle.thin_rows.proofs.table.Rows.with_rows.Given as goal

abbrev pub invariant-loop : goal.invariant-loop
invariant-loop g l = (l.empty_rows.items ≡ replicate l.counter map.empty)
    × (l.empty_rows.capacity ≡ l.rows)
