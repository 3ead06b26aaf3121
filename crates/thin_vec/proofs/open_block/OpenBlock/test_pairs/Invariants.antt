-- The first `k` middle items, up to slot `at`, have been kept. Each iteration reduces the number of
-- untested items.
use Rattle.std.proofs.Common.{◌≡◌, ℕ, ◌+◌, ◌-◌, ◌<◌, ◌≤◌, length}
use Rattle.thin_vec.proofs.OpenBlockLemmas.{middle_at}
use Rattle.thin_vec.proofs.open_block.PairTestLemmas.{PairStays}
use Rattle.thin_vec.proofs.open_block.OpenBlock.test_pairs.Given as goal

abbrev pub invariant-loop-at : goal.invariant-loop-at
invariant-loop-at g l = record {
  k : ℕ;
  here : l.at ≡ l.start + k;
  begins : l.start ≡ middle_at l.fn.self;
  stays : PairStays g.J.PairTest.tests k l.fn.test l.fn.self.middle l.test l.self.middle;
  low : 0 < k;
  high : k ≤ length l.self.middle;
  count : length l.self.middle ≡ length l.fn.self.middle;
  ready : g.J.PairTest.ready l.test;
  same : l.self ≡ record l.fn.self { middle = l.self.middle };
}

abbrev pub decreases-loop-at : goal.decreases-loop-at
decreases-loop-at g l = middle_at l.fn.self + length l.self.middle - l.at
