-- The count is the number of entries in the visited rows, but at most `usize::MAX`.
use Rattle.std.proofs.Common.{◌≡◌, ◌+◌, ◌-◌, ◌^◌, ◌<◌, map, min, sum}
use Rattle.std.specs.FinMap.{len}
use Rattle.thin_rows.proofs.table.Rows.len.Given as goal

abbrev pub invariant-loop-row : goal.invariant-loop-row
invariant-loop-row g l =
    (min (l.count + sum (map (λ row. len row) l.row-iterator.rest.now)) (2 ^ 64 - 1)
    ≡ min (sum (map (λ row. len row) l.self)) (2 ^ 64 - 1)) × (l.count < 2 ^ 64)
