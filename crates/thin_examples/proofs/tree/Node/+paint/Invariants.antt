-- The loop invariant of `Node::paint`: the children before the index `i` are painted, and the
-- others are as they were. The recursion ends because the children that it still has to visit are
-- unchanged (`unvisited`).
use Rattle.std.proofs.Common.{◌≡◌, ◌++◌, drop, map, take}
use Rattle.thin_examples.specs.Tree.{painted}
use Rattle.thin_examples.proofs.tree.Node.+paint.Given as goal

abbrev pub invariant-loop-i : goal.invariant-loop-i
invariant-loop-i l = record {
  unvisited : goal.unvisited-loop-i l;
  items : l.children
      ≡ map (painted l.kind) (take l.i l.initial.children) ++ drop l.i l.initial.children;
}
