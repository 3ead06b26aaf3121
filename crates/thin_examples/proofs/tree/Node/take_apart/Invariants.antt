-- The nodes of the trees that wait become fewer: each iteration drops one.
use Rattle.std.specs.List.{sum_by}
use Rattle.thin_examples.specs.Tree.{node_count}
use Rattle.thin_examples.proofs.tree.Node.take_apart.Given as goal

abbrev pub decreases-loop-node : goal.decreases-loop-node
decreases-loop-node l = sum_by node_count l.waiting.items
