-- The block of a list is small enough to be allocated.
use Rattle.std.proofs.Common.{subst}
use denote.Param.{param}
use Rattle.thin_block.specs.Capacity.{Fits}
use Rattle.thin_vec.proofs.BoundsLemmas.{bounds-of}
use Rattle.thin_vec.proofs.list.ThinVec.capacity.Goals as goal

pub returns-clause-bounds : goal.returns-clause-bounds
returns-clause-bounds g c =
    bounds-of _ _ _ _ c.self.invariant c.self.view_is
    (subst (Fits (param 0 g.row.T)) c.cap.ensures.value c.cap.ensures.fits)
