-- Each row that the loop in `sum` has computed is the sum of the corresponding rows of the two
-- matrices. All other rows of the result contain only zeros.
use Rattle.std.proofs.Common.{◌≡◌, ℕ, ◌<◌, ◌≤◌, length}
use Rattle.thin_examples.specs.Numbers.{added, number_at}
use Rattle.thin_examples.proofs.matrix.Matrix.sum.Given as goal

abbrev pub invariant-loop-row : goal.invariant-loop-row
invariant-loop-row g l = record {
  done : (i j : ℕ) → i < l.row → number_at l.matrix.numbers i j
      ≡ added (number_at l.left.numbers i j) (number_at l.right.numbers i j);
  rest : (i j : ℕ) → l.row ≤ i → number_at l.matrix.numbers i j ≡ 0;
  rows : length l.matrix.numbers ≡ length l.left.numbers;
  columns : l.matrix.columns ≡ l.left.columns;
}
