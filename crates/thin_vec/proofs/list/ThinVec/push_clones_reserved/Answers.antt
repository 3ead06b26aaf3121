-- `put_clones` writes the clones into the slots directly after the last item.
use Rattle.std.proofs.Common.{◌++◌, ap, arith, length, ◌∙◌, refl, rules}
use Rattle.thin_block.proofs.BlockLemmas.{slots-are, then-len}
use Rattle.thin_block.specs.Slots.{items_in}
use Rattle.thin_vec.proofs.list.ClonesLemmas.{length-copies}
use Rattle.thin_vec.proofs.list.AppendSplitLemmas.{restores-more}
use Rattle.thin_vec.proofs.ListBlockLemmas.{RestoresInvariant, list_view-keeps}
use Rattle.thin_vec.proofs.BoundsLemmas.{bounds-kept}
use Rattle.thin_vec.proofs.list.ThinVec.push_clones_reserved.Goals as goal

facts : (g : _) (c : goal.After-set_len g)
    → RestoresInvariant c.set_len.new.self c.self.inside.alloc
    (items_in c.self.inside.block.slots ++ c.put_clones-placed.ensures.slots.copies)
    (length c.self.inside.block.slots)
facts g c =
    let put = c.put_clones-placed.ensures in
    let len = c.len-len in
    let many = length-copies put.slots put.in_bounds in
    restores-more c.self.invariant c.set_len.new.self put.slots.copies len.result len.ensures.value
    (omega (arith, ap (λ v. length v.items) c.self.view_is, ap (λ v. v.capacity) c.self.view_is))
    (omega (arith, many))
    (then-len c.set_len.ensures.changes
    (slots-are put.changes put.slots.slots))

pub invariant_of-self : goal.invariant_of-self
invariant_of-self g c = (facts g c).thin

pub returns-clause-items : goal.returns-clause-items
returns-clause-items g c =
    let lays = c.put_clones-placed.ensures.slots in
    (lays.copies, (facts g c).items ∙ ap (λ v. v.items ++ lays.copies) c.self.view_is, lays.cloned)

pub returns-clause-bounds : goal.returns-clause-bounds
returns-clause-bounds g c =
    bounds-kept _ _ _ _ _ _ c.self.invariant c.self.view_is c.len-len.ensures.bounds (facts g c)

pub returns-clause-changes : goal.returns-clause-changes
returns-clause-changes g c =
    list_view-keeps c.self.view_is c.set_len.new.self (facts g c).cap refl (search rules)
