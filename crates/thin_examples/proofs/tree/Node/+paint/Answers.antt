-- At the end of the loop, each child is painted, and the borrow of the slice ends.
use Rattle.std.proofs.Common.{◌≡◌, ◌++◌, ◌∙◌, ◌≤◌, List, ap, drop, length, map, rules, sym, take_all}
use Rattle.std.proofs.lemmas.List.{append-nil, drop_all, length-map}
use Rattle.std.proofs.lemmas.List.Edits.{map_over_more}
use Rattle.thin_examples.proofs.TreeLemmas.{painted_is, rolled}
use Rattle.thin_examples.specs.Tree.{children_of, painted}
use Rattle.thin_examples.specs.declared.tree.Node.{Node}
use Rattle.thin_examples.specs.declared.tree.Node.TheViews.{out-Node, out-roll-Node, roll-Node}
use Rattle.thin_examples.proofs.tree.Node.+paint.Goals as goal

pub loop-i-preserved : goal.loop-i-preserved
loop-i-preserved t c = record {
  unvisited = search rules;
  items = search (rules, map_over_more (painted c.args.kind));
}

pub returns : goal.returns
returns t c =
    let node = c.args.self.now in
    let k = c.args.kind in
    let xs = (children_of node).items in
    let ws = c.loop-i.children in
    let lent : c.as_mut_slice-children.result.now ≡ xs =
    c.as_mut_slice-children.ensures.value
    ∙ ap (λ layer. layer.children.items) (out-roll-Node (record (out-Node node) { kind = k })) in
    let was = c.as_mut_slice-children.result.now in
    let end : length was ≤ c.loop-i.i = c.loop-i-test.false in
    let all : ws ≡ map (painted k) was =
    c.loop-i.invariant.items
    ∙ (ap (λ (l : List Node). map (painted k) l ++ drop c.loop-i.i was) (take_all c.loop-i.i was end)
    ∙ (ap (λ (l : List Node). map (painted k) was ++ l) (drop_all c.loop-i.i was end)
    ∙ append-nil (map (painted k) was))) in
    let done : ws ≡ map (painted k) xs = all ∙ ap (λ (l : List Node). map (painted k) l) lent in
    let long : length ws ≡ length xs = ap length done ∙ length-map xs (painted k) in
    record {
      tree = rolled node k ws long
          ∙ (ap (λ (items : List Node). roll-Node (record (out-Node node) {
            kind = k;
            children = record (children_of node) { items = items };
          })) done
          ∙ sym (painted_is k node));
    }
