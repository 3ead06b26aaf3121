-- Each iteration searches for the next item to be removed, and drops it if another one follows.
use Rattle.std.proofs.Common.{arith, sym}
use Rattle.std.proofs.lemmas.Bool.{ne_eqb}
use Rattle.thin_vec.proofs.open_block.RetainMiddleLemmas.{retains-start, rounds-next, walks-end}
use Rattle.thin_vec.proofs.open_block.OpenBlock.retain_middle.Goals as goal

pub loop-more-init : goal.loop-more-init
loop-more-init g c =
    let R = g.J.Test.tests in
    let next = c.drop_before_next-more in
    record {
      rounds = rounds-next R (record {
        state = c.args.test.now;
        between = c.args.self.now;
        retains = retains-start R c.args.test.now c.args.self.now c.requires.gap_before;
        seeks = c.seek_removed.ensures.tested;
      }) next.result next.new.self next.ensures.value.0 next.ensures.value.1 next.ensures.changes;
      ready = c.seek_removed.ensures.callable;
    }

pub seek-requires-clause-in_place : goal.seek-requires-clause-in_place
seek-requires-clause-in_place g c =
    let on = c.loop-more.invariant.rounds.on c.loop-more-test.true in
    sym (ne_eqb c.loop-more.self.gap_before 0 (λ e. omega (arith, e, on.1)))

pub seek-requires-clause-nonempty : goal.seek-requires-clause-nonempty
seek-requires-clause-nonempty g c =
    (c.loop-more.invariant.rounds.on c.loop-more-test.true).2

pub loop-more-preserved : goal.loop-more-preserved
loop-more-preserved g c =
    let l = c.loop-more in
    let next = c.drop_before_next-more-in-loop-more in
    record {
      rounds = rounds-next g.J.Test.tests (record {
        state = l.test;
        between = l.self;
        retains = (l.invariant.rounds.on c.loop-more-test.true).0;
        seeks = c.seek.ensures.tested;
      }) next.result next.new.self next.ensures.value.0 next.ensures.value.1 next.ensures.changes;
      ready = c.seek.ensures.callable;
    }

pub returns-clause-retained : goal.returns-clause-retained
returns-clause-retained g c =
    let end = c.loop-more.invariant.rounds.off c.loop-more-test.false in
    walks-end g.J.Test.tests end.0 c.requires.gap_after end.1 c.drop_middle.new.self
    c.drop_middle.ensures
