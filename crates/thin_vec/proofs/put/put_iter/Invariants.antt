-- The slots `start..i` hold the items that the iterator has yielded, at the cost of one move each.
use Rattle.std.proofs.Common.{◌≡◌, ◌+◌, ◌-◌, ◌≤◌, List, length}
use Rattle.std.specs.Iterator.{IsFinite, Yields, size}
use Rattle.thin_block.specs.Block.{block_view}
use Rattle.thin_block.specs.Cost.{add_moves}
use Rattle.thin_block.specs.Slots.{filled_slots, write_slots}
use Rattle.thin_vec.proofs.put.put_iter.Given as goal

abbrev pub invariant-loop-i : goal.invariant-loop-i
invariant-loop-i g l = record {
  can : g.I.Iterator.can_next l.rest;
  finite : IsFinite (g.I.Iterator.remaining l.rest);
  placed : (xs : List g.row.T.Denot)
      × (l.block.slots ≡ write_slots l.start (filled_slots xs) l.fn.block.slots)
      × (l.i ≡ l.start + length xs) × Yields g.I.Iterator.next_gives l.fn.iter xs l.rest;
  within : l.i ≤ l.end;
  same : block_view l.block ≡ record (block_view l.fn.block)
      { slots = l.block.slots; cost = add_moves (l.i - l.start) l.fn.block.cost };
  nearer : l.i + size (g.I.Iterator.remaining l.rest) ≤ l.start + size
      (g.I.Iterator.remaining l.fn.iter);
}
