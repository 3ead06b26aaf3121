-- The items fit in a block, because the block of the original list has a slot for each of them.
use Rattle.std.proofs.Common.{ap, arith, length}
use denote.Param.{param}
use Rattle.thin_block.proofs.CapacityLemmas.{fits-less}
use Rattle.thin_vec.proofs.list.ThinVec.clone.Goals as goal

pub from_fitting_slice-requires : goal.from_fitting_slice-requires
from_fitting_slice-requires g c =
    let within = c.as_slice.ensures.bounds in
    record {
      fits = fits-less (param 0 g.row.T) (length c.as_slice.result.now) c.args.self.now.capacity
          within.fits (omega (arith, within.room, ap length c.as_slice.ensures.value));
    }
