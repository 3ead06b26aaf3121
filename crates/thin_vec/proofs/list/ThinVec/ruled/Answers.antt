-- The block `Block::none()` has no slots, so the length and the capacity of the list are 0.
use Rattle.std.proofs.Common.{ap, length, arith, ◌∙◌}
use Rattle.thin_block.specs.Slots.{items_in}
use Rattle.thin_vec.proofs.BoundsLemmas.{bounds-none}
use Rattle.thin_vec.proofs.list.ThinVec.ruled.Goals as goal

pub returns-clause-bounds : goal.returns-clause-bounds
returns-clause-bounds g c =
    bounds-none _ _ (ap (λ v. items_in v.slots) c.none.ensures.new)
    (ap (λ v. length v.slots) c.none.ensures.new)

pub returns-clause-new : goal.returns-clause-new
returns-clause-new g c = search (arith, ◌∙◌)
