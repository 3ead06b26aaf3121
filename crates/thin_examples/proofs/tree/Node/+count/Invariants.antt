-- This file contains the loop invariant of `Node::count`, which counts the nodes of a tree.
use Rattle.std.proofs.Common.{◌≡◌, ◌+◌, ◌-◌, ◌^◌, ◌<◌, map, min, sum}
use Rattle.thin_examples.specs.Tree.{node_count}
use Rattle.thin_examples.proofs.tree.Node.+count.Given as goal

-- The loop invariant of `Node::count`: the count so far plus the node counts of the unvisited
-- children equals the node count of this node, if the sum and the node count are both capped at
-- `u64::MAX`.
abbrev pub invariant-loop-child : goal.invariant-loop-child
invariant-loop-child l =
    (min (l.count + sum (map node_count l.child-iterator.rest.now)) (2 ^ 64 - 1) ≡ min
    (node_count l.self) (2 ^ 64 - 1)) × (l.count < 2 ^ 64)
