-- After its loop, `set_column` has written all numbers of a row of `other` into a column of `self`.
use Rattle.std.proofs.Common.{◌≡◌, ap, arith, length, sym, ◌∙◌}
use Rattle.thin_rows.specs.Table.{row_at}
use Rattle.thin_examples.specs.Numbers.{number_at}
use Rattle.thin_examples.proofs.NumberLemmas.{at_row, here, other_columns, other_rows}
use Rattle.thin_examples.proofs.WritesLemmas.{all_written, columns_below, next_written}
use Rattle.thin_examples.proofs.matrix.Matrix.set_column.Goals as goal

pub set-requires-clause-row_in_bounds : goal.set-requires-clause-row_in_bounds
set-requires-clause-row_in_bounds g c =
    let other = c.args.other.now in
    omega (
      arith,
      columns_below other.numbers other.columns other.in_range c.args.column _
          c.row-row-items.ensures.value c.loop-row.row-index c.loop-row-test.true,
      c.requires.rows_in_bounds,
      c.loop-row.invariant.rows,
    )

pub loop-row-preserved : goal.loop-row-preserved
loop-row-preserved g c =
    let now = c.loop-row.self.numbers in
    let column = c.args.column in
    let told = c.in_ok-set.ensures.numbers in
    record {
      written = next_written (λ old number. number) (row_at c.args.other.now.numbers column)
          (λ i. number_at c.args.self.now.numbers i column) _ c.row-row-items.ensures.value
          c.loop-row.row-index (λ i. number_at now i column)
          (λ i. number_at c.set.new.self.numbers i column)
          c.loop-row-test.true c.loop-row.invariant.written
          (here (number_at c.set.new.self.numbers) (number_at now) _ column _ told)
          (λ i other. other_rows (number_at c.set.new.self.numbers) (number_at now) _ column _ told
          i column other);
      others = λ i j other.
          other_columns (number_at c.set.new.self.numbers) (number_at now) _ column _ told i j other
          ∙ c.loop-row.invariant.others i j other;
      rows = c.in_ok-set.ensures.rows ∙ c.loop-row.invariant.rows;
      columns = c.in_ok-set.ensures.columns ∙ c.loop-row.invariant.columns;
    }

pub returns-clause-numbers : goal.returns-clause-numbers
returns-clause-numbers g c =
    let other = c.args.other.now.numbers in
    let old = c.args.self.now.numbers in
    let column = c.args.column in
    let all : c.loop-row.row-index ≡ length c.row-row-items.result.now =
    omega (arith, c.loop-row-test.false, c.loop-row.auto.row-index-end) in
    λ i j. at_row (λ b a. number_at c.loop-row.self.numbers a b) (λ b a. number_at old a b)
    (λ b a. number_at other column a) column
    (λ a. all_written (λ old number. number) (row_at other column) (λ a. number_at old a column)
    c.loop-row.row-index (λ a. number_at c.loop-row.self.numbers a column)
    (all ∙ ap length c.row-row-items.ensures.value) c.loop-row.invariant.written a
    (sym (c.requires.zeros a)))
    (λ b a apart. c.loop-row.invariant.others a b apart) j i
