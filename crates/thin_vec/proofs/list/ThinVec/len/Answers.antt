-- The block of a list is small enough to be allocated.
use Rattle.thin_vec.proofs.BoundsLemmas.{bounds-of}
use Rattle.thin_vec.proofs.list.ThinVec.len.Goals as goal

pub returns-clause-bounds : goal.returns-clause-bounds
returns-clause-bounds g c =
    bounds-of _ _ _ _ c.self.invariant c.self.view_is c.len.ensures.bounds
