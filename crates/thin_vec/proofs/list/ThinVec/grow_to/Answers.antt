-- If the allocator fails, the old block still holds the items.
use Rattle.std.proofs.Common.{◌≤◌, ap, ◌∙◌, arith, length, refl}
use denote.Param.{param}
use Rattle.thin_block.specs.Slots.{items_in}
use Rattle.thin_block.proofs.CapacityLemmas.{fits-less}
use Rattle.thin_vec.proofs.list.CapacityChangeLemmas.{restores-tried}
use Rattle.thin_vec.proofs.ListBlockLemmas.{RestoresInvariant, list_view-becomes}
use Rattle.thin_vec.proofs.BoundsLemmas.{bounds-settled}
use Rattle.thin_vec.proofs.list.ThinVec.grow_to.Goals as goal

tried : (g : _) (c : goal.After-grow g)
    → RestoresInvariant c.grow.new.self c.self.inside.alloc
    (items_in c.self.inside.block.slots) (length c.grow.new.self.slots)
    × (length c.grow.new.self.slots ≤ c.args.cap)
tried g c =
    restores-tried c.self.invariant c.grow.result c.grow.new.self c.args.cap
    (omega (arith, c.requires.cap_grows, ap (λ v. v.capacity) c.self.view_is))
    c.grow.ensures.ok c.grow.ensures.err

facts : (g : _) (c : goal.After-grow g) → RestoresInvariant c.grow.new.self c.self.inside.alloc
    (items_in c.self.inside.block.slots) (length c.grow.new.self.slots)
facts g c = (tried g c).0

pub invariant_of-self : goal.invariant_of-self
invariant_of-self g c = (facts g c).thin

pub returns-clause-bounds : goal.returns-clause-bounds
returns-clause-bounds g c =
    bounds-settled _ _ _ _ _ (fits-less (param 0 g.row.T) _ _ c.requires.fits (tried g c).1)
    (facts g c)

pub returns-clause-changes : goal.returns-clause-changes
returns-clause-changes g c =
    list_view-becomes c.self.view_is c.grow.new.self refl
    ((facts g c).items ∙ ap (λ v. v.items) c.self.view_is) refl
