-- When the loop variable is `i`, the slots before index `i` are empty, and the others unchanged.
use Rattle.std.proofs.Common.{◌≡◌, length}
use Rattle.thin_block.specs.Block.{block_view}
use Rattle.thin_block.specs.Slots.{items_in}
use Rattle.thin_vec.proofs.list.InsertRemoveLemmas.{emptying}
use Rattle.thin_vec.proofs.list.drop_block.Given as goal

abbrev pub invariant-loop-i : goal.invariant-loop-i
invariant-loop-i g l = block_view l.block ≡ record (block_view l.fn.block)
    { slots = emptying (items_in l.fn.block.slots) 0 l.i (length l.fn.block.slots) }
