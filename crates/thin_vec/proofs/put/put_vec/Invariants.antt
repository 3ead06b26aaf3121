-- Each item that was removed from the vector is in its final slot.
use Rattle.std.proofs.Common.{◌≡◌, ◌-◌, length}
use Rattle.thin_block.specs.Block.{block_view}
use Rattle.thin_block.specs.Cost.{add_moves}
use Rattle.thin_vec.proofs.PutLemmas.{IsMoving}
use Rattle.thin_vec.proofs.put.put_vec.Given as goal

abbrev pub invariant-loop-item : goal.invariant-loop-item
invariant-loop-item g l = record {
  slots : IsMoving l.fn.items.items l.items.items l.start l.fn.block.slots l.block.slots;
  same : block_view l.block ≡ record (block_view l.fn.block) {
    slots = l.block.slots;
    cost = add_moves (length l.fn.items.items - length l.items.items) l.fn.block.cost;
  };
}

abbrev pub decreases-loop-item : goal.decreases-loop-item
decreases-loop-item g l = length l.items.items
