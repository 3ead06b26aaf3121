-- The loop in `set_column` writes the entries of a row of `other` to a column of the matrix. All
-- entries that the loop has visited so far have been written, and nothing else in the matrix has
-- changed.
use Rattle.std.proofs.Common.{◌≡◌, ◌≢◌, ℕ, length}
use Rattle.thin_rows.specs.Table.{row_at}
use Rattle.thin_examples.specs.Numbers.{number_at}
use Rattle.thin_examples.proofs.WritesLemmas.{IsWritten}
use Rattle.thin_examples.proofs.matrix.Matrix.set_column.Given as goal

abbrev pub invariant-loop-row : goal.invariant-loop-row
invariant-loop-row g l = record {
  written : IsWritten (λ old number. number) (row_at l.other.numbers l.column)
      (λ i. number_at l.fn.self.numbers i l.column) l.row-index
      (λ i. number_at l.self.numbers i l.column);
  others : (i j : ℕ) → j ≢ l.column
      → number_at l.self.numbers i j ≡ number_at l.fn.self.numbers i j;
  rows : length l.self.numbers ≡ length l.fn.self.numbers;
  columns : l.self.columns ≡ l.fn.self.columns;
}
