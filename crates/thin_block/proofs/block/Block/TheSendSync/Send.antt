use denote.Param.Send.{IsSend, Frees}
use denote.RattleType.{RattleType}
use Rattle.core.specs.declared.alloc.Allocator.{Ghosts}
use Rattle.thin_block.specs.contracts.block.Block.{the_row}
use Rattle.thin_block.proofs.block.SendLemmas.{block_send}

pub send : (R Z : RattleType) (g : Ghosts Z.Denot) → IsSend R → IsSend Z → Frees g g.dealloc_token
    → IsSend (the_row R Z g)
send = block_send
