-- `copy_in` writes the copies into the slots directly after the last item.
use Rattle.std.proofs.lemmas.Grind.{common_steps}
use Rattle.std.proofs.Common.{◌++◌, ◌∙◌, ap, arith, length, refl}
use Rattle.thin_block.proofs.BlockLemmas.{then-len}
use Rattle.thin_block.specs.Slots.{items_in}
use Rattle.thin_vec.proofs.list.AppendSplitLemmas.{restores-more}
use Rattle.thin_vec.proofs.ListBlockLemmas.{RestoresInvariant}
use Rattle.thin_vec.proofs.BoundsLemmas.{bounds-of}
use Rattle.thin_vec.proofs.list.ReservesLemmas.{keeps-settled}
use Rattle.thin_vec.proofs.list.ThinVec.extend_from_copies_reserved.Goals as goal

facts : (g : _) (c : goal.After-store_len g)
    → RestoresInvariant c.store_len.new.self c.self.inside.alloc
    (items_in c.self.inside.block.slots ++ c.args.items.now) (length c.self.inside.block.slots)
facts g c =
    restores-more c.self.invariant c.store_len.new.self c.args.items.now _ c.len-len.ensures.value
    (omega (arith, ap (λ v. length v.items) c.self.view_is, ap (λ v. v.capacity) c.self.view_is))
    refl (then-len c.store_len.ensures.changes c.copy_in.ensures.changes)

pub invariant_of-self : goal.invariant_of-self
invariant_of-self g c = (facts g c).thin

pub returns-clause-items : goal.returns-clause-items
returns-clause-items g c = (facts g c).items ∙ ap (λ v. v.items ++ c.args.items.now) c.self.view_is

pub returns-clause-capacity : goal.returns-clause-capacity
returns-clause-capacity g c = grind (arith, common_steps)

pub returns-then-is_empty-clause-items : goal.returns-then-is_empty-clause-items
returns-then-is_empty-clause-items g c = grind (arith, common_steps)

pub returns-clause-preserved : goal.returns-clause-preserved
returns-clause-preserved g c =
    keeps-settled _ _ c.self.invariant c.self.view_is c.len-len.ensures.bounds (facts g c)
    (ap (λ v. v.cost) c.store_len.ensures.changes
    ∙ ap (λ v. v.cost) c.copy_in.ensures.changes) (refl, refl)

pub returns-then-is_empty-clause-preserved : goal.returns-then-is_empty-clause-preserved
returns-then-is_empty-clause-preserved g c =
    let same = bounds-of _ _ _ _ c.self.invariant c.self.view_is c.len-len.ensures.bounds in
    record {
      alloc = refl;
      never_less = omega arith;
      cheap = λ cheap. cheap;
      within = (same, same);
    }
