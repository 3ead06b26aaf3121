-- `move_run_to` counts the items as moves.
use Rattle.std.specs.Prelude.{false}
use Rattle.thin_block.proofs.block.Block.move_run_to.Given as goal

abbrev pub ghost-move_items_to : goal.ghost-move_items_to
ghost-move_items_to g a = false
