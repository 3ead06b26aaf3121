-- The total is the sum of the counts that the loop has visited, but at most `u64::MAX`.
use Rattle.std.proofs.Common.{◌≡◌, ◌+◌, ◌-◌, ◌^◌, ◌<◌, map, min, sum}
use Rattle.thin_rows.specs.Table.{entries_of}
use Rattle.thin_examples.proofs.tables.total.Given as goal

abbrev pub invariant-loop-entry : goal.invariant-loop-entry
invariant-loop-entry g l =
    (min (l.total + sum (map (λ entry. entry.2) l.entry-iterator)) (2 ^ 64 - 1)
    ≡ min (sum (map (λ entry. entry.2) (entries_of l.counts))) (2 ^ 64 - 1)) × (l.total < 2 ^ 64)
