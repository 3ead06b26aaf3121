-- The kind, the children and the node count of a node of a tree, and the tree with a new kind in
-- each node. The node count is the number of nodes of the tree whose root is the node. For a value,
-- how many numbers it has.
use Rattle.std.specs.Prelude.{ℕ, ◌+◌, sum}
use Rattle.std.specs.declared.alloc.Global.{Global}
use Rattle.thin_vec.specs.ThinVec.{ListView}
use Rattle.thin_examples.specs.declared.tree.Node.{Node, out-Node, roll-Node}
use Rattle.thin_examples.specs.declared.tree.Node.TheFolds.{fold-Node}
use Rattle.thin_examples.specs.declared.tree.Node.TheOpen.{Node-F}
use Rattle.thin_examples.specs.declared.tree.Value.{Value}
use Rattle.thin_examples.specs.declared.tree.Value.TheFolds.{fold-Value}
use Rattle.thin_examples.specs.declared.tree.Value.TheOpen.{Value-F, Number, Array}

-- `kind_of node` is the number that represents the kind of the node.
abbrev pub kind_of : Node → ℕ
kind_of node = (out-Node node).kind

-- `children_of node` is the list of the children of the node.
abbrev pub children_of : Node → ListView Node Global
children_of node = (out-Node node).children

-- `count_step node` is 1 plus the sum of the children's node counts. In `node`, each child has been
-- replaced with its node count.
abbrev pub count_step : Node-F ℕ → ℕ
count_step node = 1 + sum node.children.items

-- `node_count node` is the number of nodes in the tree whose root is `node`, including the root.
abbrev pub node_count : Node → ℕ
node_count = fold-Node ℕ count_step

-- `paint_step k node` is the node `node` with the kind `k`.
abbrev pub paint_step : ℕ → Node-F Node → Node
paint_step k node = roll-Node (record node { kind = k })

-- `painted k node` is the tree `node` with the kind `k` in each node.
abbrev pub painted : ℕ → Node → Node
painted k = fold-Node Node (paint_step k)

-- `number_step value` is the number of numbers in a value, in which each value of an array has been
-- replaced with its number of numbers.
abbrev pub number_step : Value-F ℕ → ℕ
number_step (Number n) = 1
number_step (Array values) = sum values.items

-- `number_count value` is how many numbers the value has.
abbrev pub number_count : Value → ℕ
number_count = fold-Value ℕ number_step
