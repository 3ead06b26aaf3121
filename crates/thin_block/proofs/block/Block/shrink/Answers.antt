-- This file proves that `shrink`, if it succeeds, keeps the first `cap` slots of the block, and
-- removes all other slots.
use Rattle.std.proofs.Common.{length, arith}
use denote.Param.{param}
use Rattle.thin_block.proofs.BlockLemmas.{slots-are}
use Rattle.thin_block.proofs.CapacityLemmas.{fits-less}
use Rattle.thin_block.proofs.SlotsLemmas.{packed-shrunk}
use Rattle.thin_block.proofs.ResultLemmas.{on-ok}
use Rattle.thin_block.proofs.block.Block.shrink.Goals as goal

-- A block of the new capacity fits, because the new capacity is less than the old capacity.
pub resize-requires-clause-fits : goal.resize-requires-clause-fits
resize-requires-clause-fits g c =
    fits-less (param 0 g.row.T) c.args.cap (length c.args.self.now.slots)
    c.len-len.ensures.bounds (omega arith)

pub returns-clause-ok : goal.returns-clause-ok
returns-clause-ok g c =
    on-ok c.resize.result
    (λ e. slots-are e (packed-shrunk c.args.self.now.slots c.args.self.now.len c.requires.packed
    c.args.cap c.requires.len_le_cap (omega arith))) c.resize.ensures.changes.ok
