-- `Rounds` describes all tests so far. Each iteration reduces the number of untested items, or ends
-- the loop.
use Rattle.std.proofs.Common.{◌+◌, length}
use Rattle.std.specs.Prelude.{if◌then◌else◌}
use Rattle.thin_vec.proofs.open_block.RetainMiddleLemmas.{Rounds}
use Rattle.thin_vec.proofs.open_block.OpenBlock.retain_middle.Given as goal

abbrev pub invariant-loop-more : goal.invariant-loop-more
invariant-loop-more g l = record {
  rounds : Rounds g.J.Test.tests l.fn.test l.fn.self l.more l.test l.self;
  ready : g.J.Test.ready l.test;
}

abbrev pub decreases-loop-more : goal.decreases-loop-more
decreases-loop-more g l = length l.self.middle + (if l.more then 1 else 0)
