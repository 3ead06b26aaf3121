-- The loop puts clones of the items, in order, into the slots from index `start` onward.
use Rattle.std.proofs.Common.{◌≡◌}
use Rattle.thin_block.specs.Block.{block_view}
use Rattle.thin_block.specs.Cost.{add_moves}
use Rattle.thin_vec.specs.List.Clones.{WritesClones}
use Rattle.thin_vec.proofs.put.put_clones.Given as goal

abbrev pub invariant-loop-i : goal.invariant-loop-i
invariant-loop-i g l =
    record {
      slots : WritesClones g.T.Clone.is_clone l.items l.i l.start l.fn.block.slots l.block.slots;
      same : block_view l.block ≡ record (block_view l.fn.block)
          { slots = l.block.slots; cost = add_moves l.i l.fn.block.cost };
    }
