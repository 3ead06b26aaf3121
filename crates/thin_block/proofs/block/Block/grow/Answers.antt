-- This file proves that `grow`, if it succeeds, adds empty slots after the old slots.
use Rattle.std.proofs.Common.{arith}
use Rattle.thin_block.proofs.BlockLemmas.{slots-are}
use Rattle.thin_block.proofs.SlotsLemmas.{packed-grown}
use Rattle.thin_block.proofs.ResultLemmas.{on-ok}
use Rattle.thin_block.proofs.block.Block.grow.Goals as goal

pub returns-clause-ok : goal.returns-clause-ok
returns-clause-ok g c =
    on-ok c.resize.result
    (λ e. slots-are e (packed-grown c.args.self.now.slots c.args.self.now.len c.requires.packed
    c.args.cap (omega arith))) c.resize.ensures.changes.ok
