-- A newly allocated block holds no items.
use Rattle.std.proofs.Common.{[], ap, arith, length, refl}
use Rattle.std.proofs.lemmas.Grind.{common_steps}
use Rattle.thin_vec.proofs.ListBlockLemmas.{RestoresInvariant}
use Rattle.thin_vec.proofs.BoundsLemmas.{bounds-settled}
use Rattle.thin_vec.proofs.list.ThinVec.with_fitting_capacity.Goals.{In_ok-block}
use Rattle.thin_vec.proofs.list.CapacityChangeLemmas.{restores-new}
use Rattle.thin_vec.proofs.list.ThinVec.with_fitting_capacity.Goals as goal

facts : (g : _) (c : In_ok-block g)
    → RestoresInvariant c.in_ok-block.block c.args.alloc [] c.args.capacity
facts g c =
    restores-new c.in_ok-block.block c.args.alloc c.args.capacity c.in_ok-block.ensures.ok

pub invariant_of-result : goal.invariant_of-result
invariant_of-result g c = (facts g c).thin

pub returns-clause-items : goal.returns-clause-items
returns-clause-items g c = (facts g c).items

pub returns-clause-len : goal.returns-clause-len
returns-clause-len g c = ap length (facts g c).items

pub returns-clause-fresh : goal.returns-clause-fresh
returns-clause-fresh g c = record {
  alloc = refl;
  cheap = grind (arith, common_steps);
  within = bounds-settled _ _ _ _ _ c.requires.fits (facts g c);
}
