-- The variable `least` is the minimum of `start` and the numbers that the loop has seen.
use Rattle.std.proofs.Common.{◌≡◌, min}
use Rattle.std.specs.List.{fold}
use Rattle.thin_examples.proofs.remove.least.Given as goal

abbrev pub invariant-loop-number : goal.invariant-loop-number
invariant-loop-number g l = l.least ≡ fold min l.start l.yielded
