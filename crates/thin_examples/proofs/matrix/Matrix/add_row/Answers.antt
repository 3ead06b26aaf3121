-- After its loop, `add_row` has added all numbers of a row of `other` to the same row of `self`.
use Rattle.std.proofs.Common.{◌≡◌, ap, arith, length, ◌∙◌}
use Rattle.std.specs.Prelude.{slice_index_or}
use Rattle.thin_rows.specs.Table.{row_at}
use Rattle.thin_examples.specs.Numbers.{added, number_at}
use Rattle.thin_examples.proofs.NumberLemmas.{at_row, here, other_columns, other_rows}
use Rattle.thin_examples.proofs.WritesLemmas.{all_written, columns_below, next_written}
use Rattle.thin_examples.proofs.matrix.Matrix.add_row.Goals as goal

pub set-requires-clause-column_in_bounds : goal.set-requires-clause-column_in_bounds
set-requires-clause-column_in_bounds g c =
    let other = c.args.other.now in
    omega (
      arith,
      columns_below other.numbers other.columns other.in_range c.args.row _
          c.row-column-items.ensures.value c.loop-column.column-index c.loop-column-test.true,
      c.requires.columns_in_bounds,
      c.loop-column.invariant.columns,
    )

pub loop-column-preserved : goal.loop-column-preserved
loop-column-preserved g c =
    let now = c.loop-column.self.numbers in
    let row = c.args.row in
    let entries = c.row-column-items.result.now in
    let number = (slice_index_or entries c.loop-column.column-index (0, 0)).1 in
    let told = c.in_ok-set.ensures.numbers in
    record {
      written = next_written added (row_at c.args.other.now.numbers row)
          (number_at c.args.self.now.numbers row) _ c.row-column-items.ensures.value
          c.loop-column.column-index (number_at now row) (number_at c.set.new.self.numbers row)
          c.loop-column-test.true c.loop-column.invariant.written
          (here (number_at c.set.new.self.numbers) (number_at now) row _ _ told
          ∙ (c.saturating_add.ensures ∙ ap (λ u. added u number) c.get.ensures.value))
          (λ j other. other_columns (number_at c.set.new.self.numbers) (number_at now) row _ _ told
          row j other);
      others = λ i j other.
          other_rows (number_at c.set.new.self.numbers) (number_at now) row _ _ told i j other
          ∙ c.loop-column.invariant.others i j other;
      rows = c.in_ok-set.ensures.rows ∙ c.loop-column.invariant.rows;
      columns = c.in_ok-set.ensures.columns ∙ c.loop-column.invariant.columns;
    }

pub returns-clause-numbers : goal.returns-clause-numbers
returns-clause-numbers g c =
    let other = c.args.other.now.numbers in
    let old = c.args.self.now.numbers in
    let row = c.args.row in
    let all : c.loop-column.column-index ≡ length c.row-column-items.result.now =
    omega (arith, c.loop-column-test.false, c.loop-column.auto.column-index-end) in
    at_row (number_at c.loop-column.self.numbers) (number_at old)
    (λ i j. added (number_at old i j) (number_at other i j)) row
    (λ j. all_written added (row_at other row) (number_at old row) c.loop-column.column-index
    (number_at c.loop-column.self.numbers row)
    (all ∙ ap length c.row-column-items.ensures.value) c.loop-column.invariant.written j
    (omega (arith, c.args.self.now.small row j)))
    c.loop-column.invariant.others
