-- The first item is tested alone. If it is kept, then so are the items after it, up to the next one
-- that is to be removed.
use Rattle.std.proofs.Common.{◌∙◌, arith, sym}
use Rattle.std.proofs.lemmas.List.{append-nil}
use Rattle.thin_vec.proofs.RetainLemmas.{moving-zero}
use Rattle.thin_vec.proofs.open_block.RetainMiddleLemmas.{sought}
use Rattle.thin_vec.proofs.open_block.TestLemmas.{stays-start, stays-stops}
use Rattle.thin_vec.proofs.open_block.OpenBlock.seek.Goals as goal

pub returns-then-not-test-clause-tested : goal.returns-then-not-test-clause-tested
returns-then-not-test-clause-tested g c =
    let R = g.J.Test.tests in
    let w = c.test.new.self in
    sought R w 0
    (stays-stops R (stays-start R c.args.test.now c.args.self.now.middle)
    (rw c.if-not-test.true at c.test.ensures.tested))
    c.test.ensures.changes (omega arith) c.requires.in_place
    (λ i. record w
    { front = sym (append-nil w.front) i; cost = sym (moving-zero c.args.in_place w.cost) i })

pub returns-then-in_place-clause-tested : goal.returns-then-in_place-clause-tested
returns-then-in_place-clause-tested g c =
    let rest = c.test_rest-count in
    sought g.J.Test.tests rest.new.self rest.result
    (rest.ensures.tested c.args.test.now c.args.self.now.middle
    (rw c.if-not-test.false at c.test.ensures.tested))
    (rest.ensures.changes
    ∙ (λ i. record (c.test.ensures.changes i) { middle = rest.new.self.middle }))
    rest.ensures.in_bounds (sym c.if-in_place.true ∙ c.requires.in_place)
    c.keep_in_place.ensures

pub returns-clause-tested : goal.returns-clause-tested
returns-clause-tested g c =
    let rest = c.test_rest-count-2 in
    sought g.J.Test.tests rest.new.self rest.result
    (rest.ensures.tested c.args.test.now c.args.self.now.middle
    (rw c.if-not-test.false at c.test.ensures.tested))
    (rest.ensures.changes
    ∙ (λ i. record (c.test.ensures.changes i) { middle = rest.new.self.middle }))
    rest.ensures.in_bounds (sym c.if-in_place.false ∙ c.requires.in_place)
    c.move_down.ensures
