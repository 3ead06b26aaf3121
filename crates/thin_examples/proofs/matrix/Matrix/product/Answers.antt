-- `row_product` sums over the entries of a row, and `dot` sums over all columns. The two sums are
-- equal, because a column without an entry contributes 0.
use Rattle.std.proofs.Common.{◌≡◌, ℕ, ◌<◌, ◌-◌, ◌^◌, ap, arith, length, min, slice_index, slice_index_or, ◌∙◌}
use Rattle.std.proofs.lemmas.Grind.{common_steps, elements}
use Rattle.thin_rows.specs.Table.{row_at}
use Rattle.thin_examples.specs.Numbers.{dot}
use Rattle.thin_examples.proofs.WritesLemmas.{columns_below}
use Rattle.thin_examples.proofs.SumLemmas.{row_sum}
use Rattle.thin_examples.proofs.matrix.Matrix.product.Goals as goal

pub row_product-requires : goal.row_product-requires
row_product-requires g c =
    let matrix = c.args.self.now in
    record {
      in_bounds = rw c.requires.size
          (columns_below matrix.numbers matrix.columns matrix.in_range c.loop-row.row _
          c.row.ensures.value);
    }

pub loop-row-preserved : goal.loop-row-preserved
loop-row-preserved g c =
    let matrix = c.args.self.now in
    let vector = c.args.vector.now in
    let below : (k : ℕ) → k < length c.row.result.now
    → (slice_index_or c.row.result.now k (0, 0)).0 < length vector =
    rw c.requires.size (columns_below matrix.numbers matrix.columns matrix.in_range c.loop-row.row _
    c.row.ensures.value) in
    let row = c.loop-row.row in
    let pushed : c.row_product.result ≡ min (dot matrix.numbers row vector) (2 ^ 64 - 1) =
    c.row_product.ensures.value ∙ ap (λ s. min s (2 ^ 64 - 1))
    (row_sum (slice_index vector) (row_at matrix.numbers row) (length vector) _
    c.row.ensures.value below) in
    record {
      numbers = λ i less. grind (
        arith,
        elements,
        pushed,
        c.loop-row.invariant.numbers i,
        c.loop-row.invariant.count,
        c.push_reserved.ensures.items,
      );
      count = grind (
        arith,
        common_steps,
        c.loop-row.invariant.count,
        c.push_reserved.ensures.items,
      );
      capacity = rw c.push_reserved.ensures.capacity c.loop-row.invariant.capacity;
    }
