-- In the loop of `row_product`, `total` is the sum of `number * vector[column]` over the visited
-- entries `(column, number)`, capped at `u64::MAX`.
use Rattle.std.proofs.Common.{◌≡◌, ◌*◌, ◌-◌, ◌^◌, map, min, slice_index, sum, take}
use Rattle.thin_examples.proofs.row_product.row_product.Given as goal

abbrev pub invariant-loop-column : goal.invariant-loop-column
invariant-loop-column l =
    l.total ≡ min (sum (map (λ entry. entry.1 * slice_index l.vector entry.0)
    (take l.column-index l.entries))) (2 ^ 64 - 1)
