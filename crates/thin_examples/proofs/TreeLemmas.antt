-- These lemmas say what a function of a tree is at a node: the number of its nodes, and the tree
-- with a new kind in each node. The lemma `rolled` is about a node whose fields were written.
use Rattle.std.proofs.Common.{◌≡◌, ◌+◌, ◌<◌, ◌++◌, ◌∙◌, List, [], ◌∷◌, ap, arith, length, map, sum, ℕ}
use Rattle.std.proofs.lemmas.List.Sums.{sum-map, sum_by-append, sum_by_push}
use Rattle.std.specs.List.{sum_by}
use Rattle.thin_examples.specs.Tree.{children_of, count_step, node_count, paint_step, painted}
use Rattle.thin_examples.specs.declared.tree.Node.{Node}
use Rattle.thin_examples.specs.declared.tree.Node.TheViews.{out-Node, out-roll-Node, roll-Node}
use Rattle.thin_examples.specs.declared.tree.Node.TheFolds.{fold_out-Node}
use Rattle.thin_examples.specs.declared.tree.Node.TheOpen.{Node-F}
use Rattle.thin_vec.proofs.CallerLemmas.{refill_all}
use Rattle.thin_vec.specs.Lends.{with_items}

-- `node_count node` is 1 plus the sum of the node counts of the children of `node`.
pub node_count_is : (node : Node) → node_count node ≡ 1 + sum
    (map node_count (children_of node).items)
node_count_is = fold_out-Node _ count_step

-- A node in a list has more nodes than its children in its place.
pub fewer_nodes : (before : List Node) (node : Node) (after : List Node)
    → after ≡ before ++ (children_of node).items
    → sum_by node_count after < sum_by node_count (before ++ node ∷ [])
fewer_nodes before node after is = omega (
  arith,
  ap (sum_by node_count) is,
  sum_by-append node_count before (children_of node).items,
  sum_by_push node_count before node,
  node_count_is node,
  sum-map node_count (children_of node).items,
)

-- A painted tree is a node with the new kind, whose children are painted.
pub painted_is : (k : ℕ) (node : Node) → painted k node ≡ roll-Node (record (out-Node node) {
  kind = k;
  children = record (children_of node) { items = map (painted k) (children_of node).items };
})
painted_is k = fold_out-Node _ (paint_step k)

-- The node with the kind `k`, in which the children `ws` are then written over the old ones.
pub rolled : (node : Node) (k : ℕ) (ws : List Node) → length ws ≡ length (children_of node).items
    → (λ (layer : Node-F Node). roll-Node (record layer {
      children = with_items layer.children ws;
    })) (out-Node (roll-Node (record (out-Node node) { kind = k })))
    ≡ roll-Node (record (out-Node node) {
      kind = k;
      children = record (children_of node) { items = ws };
    })
rolled node k ws same =
    ap (λ (layer : Node-F Node). roll-Node (record layer {
      children = with_items layer.children ws;
    })) (out-roll-Node (record (out-Node node) { kind = k }))
    ∙ ap (λ (items : List Node). roll-Node (record (out-Node node) {
      kind = k;
      children = record (children_of node) { items = items };
    })) (refill_all (children_of node).items ws same)
