-- Each iteration drops the first remaining item of the range. Its slot becomes part of the gap.
use Rattle.std.proofs.Common.{◌≡◌, ◌+◌, length}
use Rattle.thin_vec.proofs.open_block.OpenBlock.drop_middle.Given as goal

abbrev pub invariant-loop-self : goal.invariant-loop-self
invariant-loop-self g l = record {
  gap_before : l.self.gap_before + length l.self.middle
      ≡ l.fn.self.gap_before + length l.fn.self.middle;
  same : l.self ≡ record l.fn.self { gap_before = l.self.gap_before; middle = l.self.middle };
}

abbrev pub decreases-loop-self : goal.decreases-loop-self
decreases-loop-self g l = length l.self.middle
