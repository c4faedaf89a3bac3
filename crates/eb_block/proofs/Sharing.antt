-- A `&` to a block's memory is made where one to each byte is; and both the owner and the `&` may cross threads.
use Rattle.std.specs.Prelude.{◌≡◌, ℕ, ◌+◌, List, [], ◌∷◌}
use mathlib.Core.Path.{refl, ap}
use mathlib.Core.Path.{subst}
use seplogic.Ra.Ura.{Ura}
use base.Fraction.{full_share}
use base.Fml.{Lft, Fml, ffalse, fsep}
use base.Shift.{Keyless}
use contract.BorrowLft.{⊑_static}
use types.Logic.{Logic}
use types.SemTy.{cells}
use types.Share.{parts}
use denote.Builtin.{u8}
use denote.Memory.{mem, shares, shared_of, part_at}
use denote.Plain.{uint_row_laws}
use denote.RawPtr.{Ptr, block_ptr, null_ptr}
use denote.Sharing.{ShrLaws, said}
use denote.SharingLaws.{said_shr_laws}
use denote.Slice.{elements_shared, elements_shr_laws}
use denote.Shares.{shares_each, Shares-less}
use denote.Param.Shared.{copy_shared}
use denote.Struct.Field.{u8-field}
use denote.Struct.Laws.{u8-copy}
use denote.Struct.Lending.{Lends, Lends-first, Lends-false}
use denote.Struct.Struct.{exits_of}
use denote.Struct.Owning.{shape, fields, to}
use denote.Param.Send.{IsSend, IsSync, Common, AllSend, part_keyless, owning_send, struct_send, struct_sync, sendable}
use mir.Syntax.{Ty, w8}
use denote.RattleType.{RattleType}
use Rattle.core.specs.declared.alloc.Allocator.{Ghosts}
use Rattle.std_alloc.proofs.SendSync.{FreesAnywhere, quiet}
use Rattle.eb_block.specs.Memory.{bytes_type, memory_owned, memory_lent}
use Rattle.eb_block.specs.contracts.memory.Memory as M-type

pub memory_lent_laws : (p : Ptr) (bytes : List ℕ) → ShrLaws (memory_lent p bytes)
memory_lent_laws (block_ptr b o) bytes = elements_shr_laws u8 (uint_row_laws w8) bytes b o
memory_lent_laws null_ptr bytes = said_shr_laws ffalse tt

whole_cells : (xs : List ℕ) (b o : ℕ) → parts (mem u8) (shares u8) full_share xs b o ≡ cells (mem u8) xs b o
whole_cells [] b o = refl
whole_cells (x ∷ xs) b o = ap (fsep (part_at u8 full_share x b o)) (whole_cells xs b (o + (mem u8).size))

module _ {M : Type 1} {𝓤 : Ura M} (𝓛 : Logic 𝓤) (l : Lft) where
  Lends-bytes : (b o : ℕ) (xs : List ℕ) → Lends 𝓛 (cells (mem u8) xs b o) (elements_shared u8 xs b o) l
  Lends-bytes b o xs = subst (λ (F : Fml). Lends 𝓛 F (elements_shared u8 xs b o) l) (whole_cells xs b o)
      (λ κ ts inc sp. shares_each 𝓛 u8 (shared_of u8) l (Shares-less 𝓛 u8 [] l (⊑_static l) ((copy_shared u8-field u8-copy).shares M 𝓤 𝓛)) xs κ ts b o inc sp)

  pub Lends-memory : (token : Ty → Ptr → Fml) (p : Ptr) (bytes : List ℕ) (room : ℕ) → Lends 𝓛 (memory_owned token p bytes room) (memory_lent p bytes) l
  Lends-memory token (block_ptr b o) bytes room = Lends-first 𝓛 (cells (mem u8) bytes b o) _ (elements_shared u8 bytes b o) l (Lends-bytes b o bytes)
  Lends-memory token null_ptr bytes room = Lends-false 𝓛 (said ffalse) l

byte_send : IsSend u8
byte_send = search sendable

byte_sync : IsSync u8
byte_sync = search sendable

bytes-Keyless : (b o : ℕ) (xs : List ℕ) → Keyless (cells (mem u8) xs b o)
bytes-Keyless b o [] = tt
bytes-Keyless b o (x ∷ xs) = (part_keyless u8 byte_send full_share x b o, bytes-Keyless b (o + (mem u8).size) xs)

bytes-Common : (b o : ℕ) (xs : List ℕ) → Common (elements_shared u8 xs b o)
bytes-Common b o [] κ = tt
bytes-Common b o (x ∷ xs) κ = (byte_sync.shared x b o κ, bytes-Common b (o + (mem u8).size) xs κ)

owned-Keyless : (token : Ty → Ptr → Fml) (p : Ptr) (bytes : List ℕ) (room : ℕ) → Keyless (token (bytes_type 16384) p) → Keyless (memory_owned token p bytes room)
owned-Keyless token (block_ptr b o) bytes room frees = (bytes-Keyless b o bytes, (tt, frees))
owned-Keyless token null_ptr bytes room frees = tt

lent-Common : (p : Ptr) (bytes : List ℕ) → Common (memory_lent p bytes)
lent-Common (block_ptr b o) bytes κ = bytes-Common b o bytes κ
lent-Common null_ptr bytes κ = tt

module _ (A : RattleType) (g : Ghosts A.Denot) where
  pub memory_send : FreesAnywhere A.Denot g → IsSend (M-type.the_row A g)
  memory_send f =
      let O = M-type.the_type A g in let all : AllSend (fields O) = (search sendable, tt) in
      owning_send O all (λ d. owned-Keyless (g.dealloc_token d.alloc) d.at d.bytes d.room (f.frees d.alloc (bytes_type 16384) d.at)) (λ k. quiet (to O) (exits_of k (fields O)) ((struct_send (shape O) all).leaving k))

  pub memory_sync : IsSync (M-type.the_row A g)
  memory_sync = let O = M-type.the_type A g in record { shared = λ d b o κ. ((struct_sync (shape O) (search sendable, tt)).shared (to O d) b o κ, lent-Common d.at d.bytes κ) }
