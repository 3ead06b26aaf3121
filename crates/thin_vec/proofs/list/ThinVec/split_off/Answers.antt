-- A block of capacity `len - at` can be allocated, because the old block has at least `len` slots.
use Rattle.std.proofs.Common.{◌-◌, arith, ◌∙◌}
use denote.Param.{param}
use Rattle.thin_block.proofs.CapacityLemmas.{fits-less}
use Rattle.thin_vec.proofs.list.ThinVec.split_off.Goals as goal

pub with_fitting_capacity-requires : goal.with_fitting_capacity-requires
with_fitting_capacity-requires g c =
    record {
      fits = fits-less (param 0 g.row.T) (c.len-len.result - c.args.at)
          c.len-len.result c.len-len.ensures.fits (omega arith);
    }

pub returns-in_err-tail-clause-tail_capacity : goal.returns-in_err-tail-clause-tail_capacity
returns-in_err-tail-clause-tail_capacity g c = search (arith, ◌∙◌)

pub returns-clause-tail_capacity : goal.returns-clause-tail_capacity
returns-clause-tail_capacity g c = search (arith, ◌∙◌)
