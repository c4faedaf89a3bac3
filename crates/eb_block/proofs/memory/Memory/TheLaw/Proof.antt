-- A `&` to a block's memory reaches each byte.
use denote.RattleType.{RattleType}
use denote.RawPtr.{RawPtr}
use denote.Param.Laws.{Laws}
use denote.Param.Shared.{copy_shared}
use denote.Struct.Laws.{field_copy}
use denote.Struct.Lending.{of_Lends}
use Rattle.core.specs.declared.alloc.Allocator.{Ghosts}
use Rattle.core.specs.contracts.marker.PhantomData as marker
use Rattle.eb_block.specs.contracts.memory.Memory as C
use Rattle.eb_block.proofs.memory.Memory.TheLaw.Statement.{statement}
use Rattle.eb_block.proofs.Sharing.{memory_lent_laws, Lends-memory}

pub shares : (A : RattleType) (g : Ghosts A.Denot) (P : Laws A) → statement A g P
shares A g P = of_Lends (C.struct A g) (C.the_codes A.Denot A.coded (marker.the_row RawPtr).coded) (C.the_heap A g) (C.the_lent A g)
    (λ d p. memory_lent_laws d.at d.bytes) (copy_shared (marker.the_field RawPtr) (field_copy (marker.the_type RawPtr) tt), tt)
    (λ M 𝓤 𝓛 d p. Lends-memory 𝓛 (C.the_row A g).lives (g.dealloc_token d.alloc) d.at d.bytes d.room)
