-- After the loop in `transposed`, column `j` of the result equals row `j` of `self`, or contains
-- only zeros if this row does not exist.
use Rattle.std.proofs.Common.{◌≡◌, arith, inl, inr, length, sym, ◌∙◌}
use Rattle.std.proofs.lemmas.Bool.{cases_lt}
use Rattle.thin_examples.proofs.NumberLemmas.{no_row}
use Rattle.thin_examples.proofs.matrix.Matrix.transposed.Goals as goal

pub returns-clause-numbers : goal.returns-clause-numbers
returns-clause-numbers g c =
    let numbers = c.args.self.now.numbers in
    let all : c.loop-row.row ≡ length numbers = omega (
      arith,
      c.loop-row-test.false,
      c.loop-row.auto.row-end,
      c.rows-row-end.ensures.value,
    ) in
    λ i j. elim (cases_lt j (length numbers)) [
      | inl less ↦ c.loop-row.invariant.done i j (omega (arith, less, all))
      | inr past ↦ c.loop-row.invariant.rest i j (omega (arith, past, all))
          ∙ sym (no_row numbers j i past)
    ]
