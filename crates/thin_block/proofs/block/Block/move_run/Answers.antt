-- This file proves that moving items within a block does not change the number of slots.
use Rattle.std.proofs.Common.{length, ap, ◌∙◌}
use Rattle.thin_block.proofs.SlotsLemmas.{length-moved}
use Rattle.thin_block.proofs.block.Block.move_run.Goals as goal

pub returns-else-abs_diff-k-clause-capacity : goal.returns-else-abs_diff-k-clause-capacity
returns-else-abs_diff-k-clause-capacity g c =
    ap (λ v. length v.slots) c.move_disjoint.ensures.changes
    ∙ length-moved c.args.from c.args.to c.args.k
    c.args.self.now.slots c.requires.in_bounds c.requires.target
