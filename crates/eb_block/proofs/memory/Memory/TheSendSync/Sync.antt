use denote.RattleType.{RattleType}
use denote.Param.Send.{IsSync}
use Rattle.core.specs.declared.alloc.Allocator.{Ghosts}
use Rattle.eb_block.proofs.Sharing.{memory_sync}
use Rattle.eb_block.specs.contracts.memory.Memory.{the_row}

pub sync : (A : RattleType) (g : Ghosts A.Denot) → IsSync (the_row A g)
sync = memory_sync
