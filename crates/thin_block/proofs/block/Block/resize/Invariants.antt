-- `resize` relocates the items: they count as copies.
use Rattle.std.specs.Prelude.{true}
use Rattle.thin_block.proofs.block.Block.resize.Given as goal

abbrev pub ghost-move_items_to : goal.ghost-move_items_to
ghost-move_items_to g a = true
