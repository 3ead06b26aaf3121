-- This file contains the loop invariant of `fill_from`: after `i` iterations, the first `i`
-- places of `row` contain copies of the first `i` items.
use Rattle.std.proofs.Common.{◌≡◌, take}
use Rattle.core.specs.Mem.Slots.{SamePlaces, slots_filled, slots_items}
use Rattle.core.specs.Mem.Slots.Ownership.{Filled}
use Rattle.thin_block.proofs.slots.fill_from.Given as goal

abbrev pub invariant-loop-i : goal.invariant-loop-i
invariant-loop-i g l = record {
  cap : SamePlaces l.fn.row l.row;
  items : take l.i (slots_items l.row) ≡ take l.i l.items;
  filled : Filled (slots_filled l.row) 0 l.i;
}
