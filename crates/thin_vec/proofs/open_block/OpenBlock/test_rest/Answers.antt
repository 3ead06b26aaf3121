-- The search ends at the second item, if there is one, or at the item that ends the loop.
use Rattle.std.proofs.Common.{◌≡◌, ◌+◌, ◌-◌, ◌∙◌, ap, arith, refl, rules}
use Rattle.thin_vec.proofs.OpenBlockLemmas.{middle_at, middle_end-is, middle_start-is}
use Rattle.thin_vec.proofs.open_block.TestLemmas.{none-at, stays-first, stays-more, stays-stops}
use Rattle.thin_vec.proofs.open_block.OpenBlock.test_rest.Goals as goal

pub returns-then-start-self-clause-tested : goal.returns-then-start-self-clause-tested
returns-then-start-self-clause-tested g c = λ s xs a.
    let R = g.J.Test.tests in
    let t = c.args.test.now in
    let ys = c.args.self.now.middle in
    stays-stops R (stays-first R t ys s xs a) (none-at R t ys (omega (
      arith,
      c.requires.nonempty,
      middle_start-is c.self.inside c.self.invariant c.self.view_is,
      middle_end-is c.self.inside c.self.invariant c.self.view_is,
    )))

pub returns-then-not-test-clause-tested : goal.returns-then-not-test-clause-tested
returns-then-not-test-clause-tested g c = λ s xs a.
    stays-stops g.J.Test.tests
    (stays-first g.J.Test.tests c.args.test.now c.args.self.now.middle s xs a)
    (rw c.if-not-test.true at c.test.ensures.tested)

pub loop-at-init : goal.loop-at-init
loop-at-init g c =
    let R = g.J.Test.tests in
    let o = c.self in
    record {
      k = 2;
      here = refl;
      begins = middle_start-is c.self.inside c.self.invariant c.self.view_is;
      stays = λ s xs a.
          stays-more R (stays-first R c.args.test.now c.args.self.now.middle s xs a)
          (rw c.if-not-test.false at c.test.ensures.tested);
      high = omega (
        arith,
        middle_start-is c.self.inside c.self.invariant c.self.view_is,
        middle_end-is o.inside o.invariant o.view_is,
        c.test.ensures.count,
      );
      count = c.test.ensures.count;
      ready = c.test.ensures.callable;
      same = c.test.ensures.changes;
    }

pub loop-at-preserved : goal.loop-at-preserved
loop-at-preserved g c =
    let l = c.loop-at.invariant in
    let next = c.test-in-loop-at in
    let place : c.loop-at.at - c.self.inside.middle_start ≡ l.k = omega (arith, l.here) in
    let o = c.self-in-loop-at in
    record {
      k = l.k + 1;
      here = omega (arith, l.here);
      begins = l.begins;
      stays = λ s xs a. stays-more g.J.Test.tests (l.stays s xs a)
          (rw (place, c.if-not-test-2.false) at next.ensures.tested);
      high = omega (
        arith,
        middle_end-is o.inside o.invariant o.view_is,
        ap middle_at l.same,
        l.here,
        l.begins,
        next.ensures.count,
      );
      count = next.ensures.count ∙ l.count;
      ready = next.ensures.callable;
      same = search rules;
    }

pub returns-then-not-test-2-clause-tested : goal.returns-then-not-test-2-clause-tested
returns-then-not-test-2-clause-tested g c = λ s xs a.
    let l = c.loop-at.invariant in
    let place : c.loop-at.at - c.self.inside.middle_start ≡ l.k = omega (arith, l.here) in
    rw place (stays-stops g.J.Test.tests (l.stays s xs a)
    (rw (place, c.if-not-test-2.true) at c.test-in-loop-at.ensures.tested))

pub returns-clause-tested : goal.returns-clause-tested
returns-clause-tested g c = λ s xs a.
    let R = g.J.Test.tests in
    let l = c.loop-at.invariant in
    let place : c.loop-at.at - c.self.inside.middle_start ≡ l.k = omega (arith, l.here) in
    let o = c.self-in-loop-at in
    rw place (stays-stops R (l.stays s xs a) (none-at R c.loop-at.test c.loop-at.self.middle
    (omega (
      arith,
      middle_end-is o.inside o.invariant o.view_is,
      ap middle_at l.same,
      l.here,
      l.begins,
      l.high,
    ))))
