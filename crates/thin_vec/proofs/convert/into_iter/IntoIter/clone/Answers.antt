-- The items fit in a block, because there are no more than the capacity of the iterator's block.
use Rattle.std.proofs.Common.{ap, arith, length}
use denote.Param.{param}
use Rattle.thin_block.proofs.CapacityLemmas.{fits-less}
use Rattle.thin_vec.proofs.convert.IntoIterLemmas.{walked-room}
use Rattle.thin_vec.proofs.convert.into_iter.IntoIter.clone.Goals as goal

pub from_fitting_slice-requires : goal.from_fitting_slice-requires
from_fitting_slice-requires g c =
    let it = c.self.inside in
    let room = walked-room it.block it.alloc it.start it.end c.self.invariant in
    record {
      fits = fits-less (param 0 g.row.T) (length c.as_slice.result.now) c.cap-cap.result
          c.cap-cap.ensures.fits
          (omega (
            arith,
            ap length c.as_slice.ensures.value,
            ap (λ v. length v.items) c.self.view_is,
          ));
    }
