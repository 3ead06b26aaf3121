use denote.Param.Send.{IsSync}
use denote.RattleType.{RattleType}
use Rattle.core.specs.declared.alloc.Allocator.{Ghosts}
use Rattle.thin_block.specs.contracts.block.Block.{the_row}
use Rattle.thin_block.proofs.block.SendLemmas.{block_sync}

pub sync : (R Z : RattleType) (g : Ghosts Z.Denot) → IsSync R → IsSync Z → IsSync (the_row R Z g)
sync = block_sync
