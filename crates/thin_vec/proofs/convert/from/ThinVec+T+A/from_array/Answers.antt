-- The new list has no items, so it has exactly the items that `put_array` puts into it.
use Rattle.std.proofs.lemmas.Grind.{common_steps}
use Rattle.std.proofs.Common.{◌++◌, ap, arith, length, sym, ◌∙◌}
use Rattle.thin_block.proofs.BlockLemmas.{then-len}
use Rattle.thin_block.specs.Slots.{items_in}
use Rattle.thin_vec.proofs.list.AppendSplitLemmas.{restores-more}
use Rattle.thin_vec.proofs.ListBlockLemmas.{RestoresInvariant}
use Rattle.thin_vec.proofs.BoundsLemmas.{bounds-stays}
use Rattle.thin_vec.proofs.convert.from.ThinVec+T+A.from_array.Goals as goal

facts : (g : _) (c : goal.After-set_len g)
    → RestoresInvariant c.set_len.new.self c.list.inside.alloc
    (items_in c.list.inside.block.slots ++ c.args.items) (length c.list.inside.block.slots)
facts g c =
    let none = ap length (ap (λ v. v.items) c.list.view_is ∙ c.in-Ok.ensures.items) in
    restores-more c.list.invariant c.set_len.new.self c.args.items 0
    (sym (c.list.invariant.packed.len ∙ none))
    (omega (arith, c.in-Ok.ensures.capacity, ap (λ v. v.capacity) c.list.view_is))
    (omega (arith, c.count-len.ensures.len))
    (then-len c.set_len.ensures.changes c.put_array.ensures.changes)

pub invariant_of-list : goal.invariant_of-list
invariant_of-list g c = (facts g c).thin

pub returns-in-Ok-clause-items : goal.returns-in-Ok-clause-items
returns-in-Ok-clause-items g c = (facts g c).items ∙ ap (λ xs. xs ++ c.args.items)
    (ap (λ v. v.items) c.list.view_is ∙ c.in-Ok.ensures.items)

pub returns-in-Ok-clause-capacity : goal.returns-in-Ok-clause-capacity
returns-in-Ok-clause-capacity g c = grind (arith, common_steps)

pub returns-in-Ok-clause-fresh : goal.returns-in-Ok-clause-fresh
returns-in-Ok-clause-fresh g c = record {
  alloc = search (arith, ◌∙◌);
  cheap = search (arith, ◌∙◌);
  within = bounds-stays _ c.list.inside.block c.list.inside.alloc
      c.set_len.new.self _ _ c.in-Ok.ensures.fresh.within c.list.view_is (facts g c);
}
