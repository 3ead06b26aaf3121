-- The loop puts the results of `count` calls to `make` into the slots from index `start` onward.
use Rattle.std.proofs.Common.{◌≡◌, List, length}
use Rattle.std.specs.Fn.{Called}
use Rattle.std.specs.List.{FoldsTo}
use Rattle.thin_block.specs.Block.{block_view}
use Rattle.thin_block.specs.Cost.{add_moves}
use Rattle.thin_block.specs.Slots.{filled_slots, write_slots}
use Rattle.thin_vec.proofs.put.put_results.Given as goal

abbrev pub invariant-loop-i : goal.invariant-loop-i
invariant-loop-i g l = record {
  placed : (xs : List g.row.T.Denot)
      × (l.block.slots ≡ write_slots l.start (filled_slots xs) l.fn.block.slots)
      × (l.i ≡ length xs) × FoldsTo (λ f y f'. Called g.F.FnMut f tt y f') l.fn.make xs l.make;
  same : block_view l.block ≡ record (block_view l.fn.block)
      { slots = l.block.slots; cost = add_moves l.i l.fn.block.cost };
  callable : goal.F-IsAlwaysCallable g l.make;
}
