-- Each column that the loop in `transposed` has written equals the row of `self` with the same
-- index. All other columns of the result contain only zeros.
use Rattle.std.proofs.Common.{◌≡◌, ℕ, ◌<◌, ◌≤◌, length}
use Rattle.thin_examples.specs.Numbers.{number_at}
use Rattle.thin_examples.proofs.matrix.Matrix.transposed.Given as goal

abbrev pub invariant-loop-row : goal.invariant-loop-row
invariant-loop-row g l = record {
  done : (i j : ℕ) → j < l.row → number_at l.matrix.numbers i j ≡ number_at l.self.numbers j i;
  rest : (i j : ℕ) → l.row ≤ j → number_at l.matrix.numbers i j ≡ 0;
  rows : length l.matrix.numbers ≡ l.self.columns;
  columns : l.matrix.columns ≡ length l.self.numbers;
}
