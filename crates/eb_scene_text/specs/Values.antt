-- The forms of what edits and projects write: numbers, values and fields.
use Rattle.std.specs.Prelude.{ℕ, List, [], ◌∷◌, Option, Some, None, option_map, Result, Ok}
use Rattle.serde_json.specs.Data.{Data, null, boolean, number, string, array, object, Members, no_members, member}
use Rattle.serde_json.specs.Find.{as_i64, as_object}
use Rattle.eb_base.specs.FixedPoint.{fixed_of}
use Rattle.eb_json.specs.declared.faults.FormFault.{FormFault}
use Rattle.eb_json.specs.Places.{further, after}
use Rattle.eb_json.specs.Forms.{◌>>=◌, or_wrong, natural_at, null_or_at, member_at}
use Rattle.eb_scene.specs.declared.edits.Raw.{Raw}
use Rattle.eb_scene.specs.declared.edits.Raw.TheVariants as raw
use Rattle.eb_scene.specs.declared.edits.RawField.{RawField}

-- ---- numbers

-- a scene
abbrev pub scene_at : ℕ → Data → Result ℕ FormFault
scene_at = natural_at 1 16

-- the number of an object or of an asset
abbrev pub number_at : ℕ → Data → Result ℕ FormFault
number_at = natural_at 1 4294967295

-- a parent, or null where there is none
abbrev pub above_at : ℕ → Data → Result (Option ℕ) FormFault
above_at = null_or_at number_at

-- a mark, or null where there is none. Whether it is that of a section is not a question of form
abbrev pub mark_at : ℕ → Data → Result (Option ℕ) FormFault
mark_at = null_or_at (natural_at 0 4294967295)

-- ---- values

-- a whole number, fixed text in range, or null
abbrev pub raw_of : Data → Option Raw
raw_of null = Some raw.Null
raw_of (boolean b) = None
raw_of (number n) = option_map raw.Int (as_i64 n)
raw_of (string text) = option_map raw.Units (fixed_of text)
raw_of (array ds) = None
raw_of (object ms) = None

abbrev pub raw_at : ℕ → Data → Result Raw FormFault
raw_at place d = or_wrong place (raw_of d)

-- ---- members

-- each member what the form says of its key and its value, the first value at this place
unfoldable pub members_at : {X : Type 0} → (List ℕ → ℕ → Data → Result X FormFault) → ℕ → Members → Result (List X) FormFault
members_at form place no_members = Ok []
members_at form place (member key d ms) = do
  x ← form key place d
  xs ← members_at form (after place d) ms
  Ok (x ∷ xs)

-- an object of any keys, each member what the form says
abbrev pub each_member_at : {X : Type 0} → (List ℕ → ℕ → Data → Result X FormFault) → ℕ → Data → Result (List X) FormFault
each_member_at form place d = do
  ms ← or_wrong place (as_object d)
  members_at form (further place 1) ms

-- a value under the name of its field
abbrev pub raw_field_at : List ℕ → ℕ → Data → Result RawField FormFault
raw_field_at name place d = do
  value ← raw_at place d
  Ok (record { name = name; value = value })

-- an object whose members are values
abbrev pub fields_at : ℕ → Data → Result (List RawField) FormFault
fields_at = each_member_at raw_field_at

-- ---- members of known keys, one after the other

-- what the member of a key reads as, whose value stands at this place, and the place behind it
abbrev pub taken : {X : Type 0} → (ℕ → Data → Result X FormFault) → List ℕ → Data → ℕ → Result (X × ℕ) FormFault
taken form key d place = do
  value ← member_at key place d
  x ← form place value
  Ok (x, after place value)

-- the place behind the member of a key
abbrev pub skipped : List ℕ → Data → ℕ → Result ℕ FormFault
skipped key d place = do
  value ← member_at key place d
  Ok (after place value)
