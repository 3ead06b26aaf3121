-- The function `build` makes a tree of `ThinVec`s. It calls itself in a loop, and only with a
-- smaller depth, so it terminates. The loop invariant states that the depth is greater than 0. So
-- subtracting 1 from the depth does not overflow.
use Rattle.std.proofs.Common.{◌<◌}
use Rattle.thin_speed.proofs.lists.thin.+build.Given as goal

abbrev pub decreases-build : goal.decreases-build
decreases-build l = l.depth

abbrev pub invariant-loop : goal.invariant-loop
invariant-loop l = 0 < l.depth
