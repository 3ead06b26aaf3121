-- If `set` succeeds, then the matrix contains `number` at `row` and `column`, and all its other
-- numbers are unchanged.
use Rattle.std.proofs.Common.{arith}
use Rattle.thin_examples.proofs.NumberLemmas.{number-with_value, number-without_value, small_if_written, still_small}
use Rattle.thin_examples.proofs.matrix.Matrix.set.Goals as goal

pub invariant_of-self-clause-small : goal.invariant_of-self-clause-small
invariant_of-self-clause-small g c =
    let t = c.args.self.now.numbers in
    rw c.remove.ensures.table
    (still_small t _ c.args.row c.args.column c.args.number (omega arith) c.args.self.now.small
    (number-without_value t c.args.row c.args.column c.args.number c.if-number-eq0.true))

pub invariant_of-self-else-number-eq0-clause-small :
    goal.invariant_of-self-else-number-eq0-clause-small
invariant_of-self-else-number-eq0-clause-small g c =
    small_if_written c.set.result c.args.self.now.numbers _ c.args.row c.args.column c.args.number
    c.requires.row_in_bounds (omega arith) c.args.self.now.small c.set.ensures.table
    c.set.ensures.err

pub returns-then-number-eq0-clause-numbers : goal.returns-then-number-eq0-clause-numbers
returns-then-number-eq0-clause-numbers g c = rw c.remove.ensures.table
    (number-without_value c.args.self.now.numbers c.args.row c.args.column c.args.number
    c.if-number-eq0.true)

pub returns-in_ok-set-clause-numbers : goal.returns-in_ok-set-clause-numbers
returns-in_ok-set-clause-numbers g c = rw c.in_ok-set.ensures.table
    (number-with_value c.args.self.now.numbers c.args.row c.args.column c.args.number
    c.requires.row_in_bounds)
