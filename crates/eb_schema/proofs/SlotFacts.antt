-- What is written of a value reads back.
use Rattle.std.proofs.Common.{◌≡◌, ◌<◌, ◌^◌, ℕ, length, refl, sym, ap, ◌∙◌, arith}
use Rattle.std.specs.Int.{w8, w16, w32, w64, to_le_bytes, cast_unsigned, cast_signed}
use Rattle.std.specs.Prelude.{slice_index}
use Rattle.std.proofs.Math.Facts.{to_z-of_z, Fits-of_z}
use Rattle.std.proofs.lemmas.Nat.{from_le_bytes-to_le_bytes_2, from_le_bytes-to_le_bytes_4, from_le_bytes-to_le_bytes_8}
use Rattle.eb_base.specs.declared.names.Entity.{Entity}
use Rattle.eb_schema.specs.declared.kinds.Kind.{Kind}
use Rattle.eb_schema.specs.declared.kinds.Kind.TheVariants.{I8, I16, I32, I64, Fix, Ref, Asset}
use Rattle.eb_schema.specs.declared.slots.Slot.{Slot}
use Rattle.eb_schema.specs.declared.slots.Slot.TheVariants.{Num, Link}
use Rattle.eb_schema.specs.Slots.{width, IsEntity, Fits, slot_bytes, slot_of, entity_bytes, entity_in, name_bytes, name_in}
use Rattle.eb_base.specs.Names.{IsName}
use Rattle.eb_base.specs.declared.names.Name.{Name}

pub entity_back : (e : Entity) → IsEntity e → entity_in (entity_bytes e) ≡ e
unfolding entity_in entity_bytes
entity_back e h = λ i. record { index = from_le_bytes-to_le_bytes_4 e.index h.index i; serial = from_le_bytes-to_le_bytes_8 e.serial h.serial i }

pub name_back : (n : Name) → IsName n → name_in (name_bytes n) ≡ n
unfolding name_in name_bytes
name_back n h = λ i. record {
  play = from_le_bytes-to_le_bytes_4 n.play h.play i;
  scene = from_le_bytes-to_le_bytes_4 n.scene h.scene i;
  object = from_le_bytes-to_le_bytes_4 n.object h.object i;
  extra = from_le_bytes-to_le_bytes_4 n.extra h.extra i;
}

pub entity_length : (e : Entity) → length (entity_bytes e) ≡ 12
unfolding entity_bytes
entity_length e = refl

pub name_length : (n : Name) → length (name_bytes n) ≡ 16
unfolding name_bytes
name_length n = refl

one_byte : (n : ℕ) → n < 2 ^ 8 → slice_index (to_le_bytes w8 n) 0 ≡ n
one_byte n small = omega arith

pub slot_length : (k : Kind) (s : Slot) → Fits k s → length (slot_bytes k s) ≡ width k
unfolding slot_bytes
slot_length I8 (Num n) h = refl
slot_length I16 (Num n) h = refl
slot_length I32 (Num n) h = refl
slot_length I64 (Num n) h = refl
slot_length Fix (Num n) h = refl
slot_length Ref (Num n) h = absurd h
slot_length Asset (Num n) h = refl
slot_length I8 (Link e) h = absurd h
slot_length I16 (Link e) h = absurd h
slot_length I32 (Link e) h = absurd h
slot_length I64 (Link e) h = absurd h
slot_length Fix (Link e) h = absurd h
slot_length Ref (Link e) h = entity_length e
slot_length Asset (Link e) h = absurd h

pub slot_back : (k : Kind) (s : Slot) → Fits k s → slot_of k (slot_bytes k s) ≡ s
unfolding slot_bytes slot_of
slot_back I8 (Num n) h = ap Num (ap (cast_signed w8) (one_byte (cast_unsigned w8 n) (Fits-of_z h).fits) ∙ to_z-of_z h)
slot_back I16 (Num n) h = ap Num (ap (cast_signed w16) (from_le_bytes-to_le_bytes_2 (cast_unsigned w16 n) (Fits-of_z h).fits) ∙ to_z-of_z h)
slot_back I32 (Num n) h = ap Num (ap (cast_signed w32) (from_le_bytes-to_le_bytes_4 (cast_unsigned w32 n) (Fits-of_z h).fits) ∙ to_z-of_z h)
slot_back I64 (Num n) h = ap Num (ap (cast_signed w64) (from_le_bytes-to_le_bytes_8 (cast_unsigned w64 n) (Fits-of_z h).fits) ∙ to_z-of_z h)
slot_back Fix (Num n) h = ap Num (ap (cast_signed w64) (from_le_bytes-to_le_bytes_8 (cast_unsigned w64 n) (Fits-of_z h).fits) ∙ to_z-of_z h)
slot_back Ref (Num n) h = absurd h
slot_back Asset (Num n) h = ap Num (sym h)
slot_back I8 (Link e) h = absurd h
slot_back I16 (Link e) h = absurd h
slot_back I32 (Link e) h = absurd h
slot_back I64 (Link e) h = absurd h
slot_back Fix (Link e) h = absurd h
slot_back Ref (Link e) h = ap Link (entity_back e h)
slot_back Asset (Link e) h = absurd h
