-- The first middle item is kept without a test. The others are tested until one is to be removed.
use Rattle.std.proofs.Common.{◌≡◌, ◌+◌, ◌-◌, ◌∙◌, ap, arith, refl, rules}
use Rattle.thin_vec.proofs.OpenBlockLemmas.{middle_at, middle_end-is, middle_start-is}
use Rattle.thin_vec.proofs.open_block.PairTestLemmas.{pair-more, pair-none, pair-start, pair-stops}
use Rattle.thin_vec.proofs.open_block.OpenBlock.test_pairs.Goals as goal

pub loop-at-init : goal.loop-at-init
loop-at-init g c = record {
  k = 1;
  here = refl;
  begins = middle_start-is c.self.inside c.self.invariant c.self.view_is;
  stays = pair-start g.J.PairTest.tests c.args.test.now c.args.self.now.middle c.requires.nonempty;
  low = omega arith;
  high = omega arith;
  count = refl;
  ready = c.requires.callable;
  same = refl;
}

pub loop-at-preserved : goal.loop-at-preserved
loop-at-preserved g c =
    let l = c.loop-at.invariant in
    let next = c.test_pair in
    let o = c.self-in-loop-at in
    let place : c.loop-at.at - c.self.inside.middle_start ≡ l.k = omega (arith, l.here) in
    record {
      k = l.k + 1;
      here = omega (arith, l.here);
      begins = l.begins;
      stays = pair-more g.J.PairTest.tests l.stays
          (rw (place, c.if-not-test_pair.false) at next.ensures.tested);
      low = omega arith;
      high = omega (
        arith,
        middle_end-is o.inside o.invariant o.view_is,
        ap middle_at l.same,
        l.here,
        l.begins,
        next.ensures.count,
      );
      count = next.ensures.count ∙ l.count;
      ready = next.ensures.callable;
      same = search rules;
    }

pub returns-then-not-test_pair-clause-tested : goal.returns-then-not-test_pair-clause-tested
returns-then-not-test_pair-clause-tested g c =
    let l = c.loop-at.invariant in
    let place : c.loop-at.at - c.self.inside.middle_start ≡ l.k = omega (arith, l.here) in
    rw place (pair-stops g.J.PairTest.tests l.stays
    (rw (place, c.if-not-test_pair.true) at c.test_pair.ensures.tested))

pub returns-clause-tested : goal.returns-clause-tested
returns-clause-tested g c =
    let R = g.J.PairTest.tests in
    let l = c.loop-at.invariant in
    let o = c.self-in-loop-at in
    let place : c.loop-at.at - c.self.inside.middle_start ≡ l.k = omega (arith, l.here) in
    rw place (pair-stops R l.stays (pair-none R c.loop-at.test c.loop-at.self.middle l.low
    (omega (
      arith,
      middle_end-is o.inside o.invariant o.view_is,
      ap middle_at l.same,
      l.here,
      l.begins,
      l.high,
    ))))
