-- The loop in `add_row` adds the entries of a row of `other` to the matrix. All entries that the
-- loop has visited so far have been added, and nothing else in the matrix has changed.
use Rattle.std.proofs.Common.{◌≡◌, ◌≢◌, ℕ, length}
use Rattle.thin_rows.specs.Table.{row_at}
use Rattle.thin_examples.specs.Numbers.{added, number_at}
use Rattle.thin_examples.proofs.WritesLemmas.{IsWritten}
use Rattle.thin_examples.proofs.matrix.Matrix.add_row.Given as goal

abbrev pub invariant-loop-column : goal.invariant-loop-column
invariant-loop-column g l = record {
  written : IsWritten added (row_at l.other.numbers l.row) (number_at l.fn.self.numbers l.row)
      l.column-index (number_at l.self.numbers l.row);
  others : (i j : ℕ) → i ≢ l.row
      → number_at l.self.numbers i j ≡ number_at l.fn.self.numbers i j;
  rows : length l.self.numbers ≡ length l.fn.self.numbers;
  columns : l.self.columns ≡ l.fn.self.columns;
}
