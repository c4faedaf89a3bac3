-- What the owner of a block's memory owns, and what a `&` to it shows.
use Rattle.std.specs.Prelude.{ℕ, ◌+◌, List, length}
use base.Fml.{Lft, Fml, ffalse, fsep, froom}
use mir.Syntax.{Ty, ty_int, ty_array, w8}
use denote.Memory.{mem}
use types.SemTy.{cells}
use denote.Builtin.{u8}
use denote.Sharing.{said}
use denote.Slice.{elements_shared}
use denote.RawPtr.{Ptr, block_ptr, null_ptr}

-- the type of n bytes
abbrev pub bytes_type : ℕ → Ty
bytes_type n = ty_array (ty_int w8) n

-- the bytes from p on, room for so many behind them, and the allocator's right to free the block of 16,384
abbrev pub memory_owned : (Ty → Ptr → Fml) → Ptr → List ℕ → ℕ → Fml
memory_owned token (block_ptr b o) bytes room = fsep (cells (mem u8) bytes b o) (fsep (froom (bytes_type room) b (length bytes + o)) (token (bytes_type 16384) (block_ptr b o)))
memory_owned token null_ptr bytes room = ffalse

-- the bytes, to read
abbrev pub memory_lent : Ptr → List ℕ → Lft → Fml
memory_lent (block_ptr b o) bytes = elements_shared u8 bytes b o
memory_lent null_ptr bytes = said ffalse
