-- For each visited row, the loop in `product` has pushed the product of this row and the vector,
-- capped at `u64::MAX`.
use Rattle.std.proofs.Common.{◌≡◌, ℕ, ◌<◌, ◌-◌, ◌^◌, length, min, slice_index}
use Rattle.thin_examples.specs.Numbers.{dot}
use Rattle.thin_examples.proofs.matrix.Matrix.product.Given as goal

abbrev pub invariant-loop-row : goal.invariant-loop-row
invariant-loop-row g l = record {
  numbers : (i : ℕ) → i < l.row
      → slice_index l.product.items i ≡ min (dot l.self.numbers i l.vector) (2 ^ 64 - 1);
  count : length l.product.items ≡ l.row;
  capacity : l.product.capacity ≡ length l.self.numbers;
}
