-- Values of fields as bytes, the lowest byte first.
use Rattle.std.specs.Prelude.{◌≡◌, ◌<◌, ◌^◌, ℕ, List, [], ◌++◌, take, drop, slice_index, pos, FitsSigned}
use Rattle.std.specs.Int.{w8, w16, w32, w64, to_le_bytes, from_le_bytes, cast_unsigned, cast_signed}
use Rattle.eb_base.specs.declared.names.Entity.{Entity}
use Rattle.eb_base.specs.declared.names.Name.{Name}
use Rattle.eb_schema.specs.declared.kinds.Kind.{Kind}
use Rattle.eb_schema.specs.declared.kinds.Kind.TheVariants.{I8, I16, I32, I64, Fix, Ref, Asset}
use Rattle.eb_schema.specs.declared.slots.Slot.{Slot}
use Rattle.eb_schema.specs.declared.slots.Slot.TheVariants.{Num, Link}

-- how many bytes a value takes
abbrev pub width : Kind → ℕ
width I8 = 1
width I16 = 2
width I32 = 4
width I64 = 8
width Fix = 8
width Ref = 12
width Asset = 0

-- the numbers of a handle of the program
pub record IsEntity (e : Entity) : Type 0 where
  pub index : e.index < 2 ^ 32
  pub serial : e.serial < 2 ^ 64

-- a value of this kind, in the kind's range; an asset takes no bytes, and reads as 0
abbrev pub Fits : Kind → Slot → Type 0
Fits I8 (Num n) = FitsSigned w8 n
Fits I16 (Num n) = FitsSigned w16 n
Fits I32 (Num n) = FitsSigned w32 n
Fits I64 (Num n) = FitsSigned w64 n
Fits Fix (Num n) = FitsSigned w64 n
Fits Ref (Num n) = ⊥
Fits Asset (Num n) = n ≡ pos 0
Fits I8 (Link e) = ⊥
Fits I16 (Link e) = ⊥
Fits I32 (Link e) = ⊥
Fits I64 (Link e) = ⊥
Fits Fix (Link e) = ⊥
Fits Ref (Link e) = IsEntity e
Fits Asset (Link e) = ⊥

-- the index in four bytes, and the serial in eight
unfoldable pub entity_bytes : Entity → List ℕ
entity_bytes e = to_le_bytes w32 e.index ++ to_le_bytes w64 e.serial

unfoldable pub entity_in : List ℕ → Entity
entity_in bs = record { index = from_le_bytes w32 (take 4 bs); serial = from_le_bytes w64 (drop 4 bs) }

-- four numbers of four bytes
unfoldable pub name_bytes : Name → List ℕ
name_bytes n = (to_le_bytes w32 n.play ++ to_le_bytes w32 n.scene) ++ (to_le_bytes w32 n.object ++ to_le_bytes w32 n.extra)

unfoldable pub name_in : List ℕ → Name
name_in bs = record { play = from_le_bytes w32 (take 4 bs); scene = from_le_bytes w32 (take 4 (drop 4 bs)); object = from_le_bytes w32 (take 4 (drop 4 (drop 4 bs))); extra = from_le_bytes w32 (drop 4 (drop 4 (drop 4 bs))) }

-- a value as bytes; of one that doesn't fit nothing is said
unfoldable pub slot_bytes : Kind → Slot → List ℕ
slot_bytes I8 (Num n) = to_le_bytes w8 (cast_unsigned w8 n)
slot_bytes I16 (Num n) = to_le_bytes w16 (cast_unsigned w16 n)
slot_bytes I32 (Num n) = to_le_bytes w32 (cast_unsigned w32 n)
slot_bytes I64 (Num n) = to_le_bytes w64 (cast_unsigned w64 n)
slot_bytes Fix (Num n) = to_le_bytes w64 (cast_unsigned w64 n)
slot_bytes Ref (Link e) = entity_bytes e
slot_bytes Ref (Num n) = []
slot_bytes Asset s = []
slot_bytes I8 (Link e) = []
slot_bytes I16 (Link e) = []
slot_bytes I32 (Link e) = []
slot_bytes I64 (Link e) = []
slot_bytes Fix (Link e) = []

-- the value that bytes hold
unfoldable pub slot_of : Kind → List ℕ → Slot
slot_of I8 bs = Num (cast_signed w8 (slice_index bs 0))
slot_of I16 bs = Num (cast_signed w16 (from_le_bytes w16 bs))
slot_of I32 bs = Num (cast_signed w32 (from_le_bytes w32 bs))
slot_of I64 bs = Num (cast_signed w64 (from_le_bytes w64 bs))
slot_of Fix bs = Num (cast_signed w64 (from_le_bytes w64 bs))
slot_of Ref bs = Link (entity_in bs)
slot_of Asset bs = Num (pos 0)
