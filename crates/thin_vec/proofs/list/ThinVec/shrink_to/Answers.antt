-- If `shrink` succeeds, the items are in the first slots of a block with `wanted` slots.
use Rattle.std.proofs.Common.{ap, ◌∙◌, arith, length}
use denote.Param.{param}
use Rattle.thin_block.proofs.CapacityLemmas.{fits-less}
use Rattle.thin_block.specs.Slots.{items_in}
use Rattle.thin_vec.proofs.ListBlockLemmas.{RestoresInvariant}
use Rattle.thin_vec.proofs.BoundsLemmas.{bounds-none, bounds-settled}
use Rattle.thin_vec.proofs.list.CapacityChangeLemmas.{restores-shrink}
use Rattle.thin_vec.proofs.list.ThinVec.shrink_to.Goals as goal

facts : (g : _) (c : goal.In_ok-shrink g) → RestoresInvariant c.shrink.new.self c.self.inside.alloc
    (items_in c.self.inside.block.slots) c.max-wanted.result
facts g c =
    restores-shrink c.self.invariant c.shrink.new.self c.max-wanted.result
    (omega (arith, ap (λ v. length v.items) c.self.view_is))
    (omega (arith, ap (λ v. v.capacity) c.self.view_is))
    c.in_ok-shrink.ensures.ok

pub invariant_of-self-2 : goal.invariant_of-self-2
invariant_of-self-2 g c = (facts g c).thin

pub returns-clause-items : goal.returns-clause-items
returns-clause-items g c = (facts g c).items ∙ ap (λ v. v.items) c.self.view_is

pub returns-then-wanted-eq0-clause-bounds : goal.returns-then-wanted-eq0-clause-bounds
returns-then-wanted-eq0-clause-bounds g c =
    (c.len.ensures.bounds, bounds-none _ _ (search (arith, ◌∙◌)) (search (arith, ◌∙◌)))

pub returns-clause-bounds : goal.returns-clause-bounds
returns-clause-bounds g c =
    let before = c.len.ensures.bounds in (
      before,
      bounds-settled _ _ _ _ _
          (fits-less (param 0 g.row.T) _ _ before.fits
          (omega (arith, c.if-wanted-capacity.false, c.capacity.ensures.value))) (facts g c),
    )
