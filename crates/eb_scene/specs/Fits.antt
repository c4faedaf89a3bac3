-- Which values fit which fields.
use Rattle.std.specs.Prelude.{◌≡◌, ℕ, ◌+◌, ◌++◌, Bool, cond, not, ◌&&◌, int_le, ℤ, pos, negsuc, ◌*ℤ◌, List, [], ◌∷◌, Option, Some, None, option_map, Result, Ok, Err, bytes_eq, find, if◌then◌else◌}
use Rattle.std.specs.List.{list_any}
use Rattle.eb_base.specs.Arithmetic.{fits_i64}
use Rattle.eb_schema.specs.declared.kinds.Kind.{Kind}
use Rattle.eb_schema.specs.declared.kinds.Kind.TheVariants.{I8, I16, I32, I64, Fix, Ref, Asset}
use Rattle.eb_schema.specs.declared.kinds.Field.{Field}
use Rattle.eb_scene.specs.declared.objects.Given.{Given}
use Rattle.eb_scene.specs.declared.objects.Given.TheVariants as given
use Rattle.eb_scene.specs.declared.edits.Raw.{Raw}
use Rattle.eb_scene.specs.declared.edits.Raw.TheVariants.{Int, Units, Null}
use Rattle.eb_scene.specs.declared.edits.RawField.{RawField}
use Rattle.eb_scene.specs.declared.edits.EditFault.{EditFault}
use Rattle.eb_scene.specs.declared.edits.EditFault.TheVariants.{Memory, NoField, BadValue}

-- from least to most
abbrev pub lies : ℤ → ℤ → ℤ → Bool
lies least most z = int_le least z && int_le z most

-- whether a whole number may be that of an object or an asset
abbrev pub is_number : ℤ → Bool
is_number z = lies (pos 1) (pos 4294967295) z

-- the whole number that is no less than 0
abbrev pub size : ℤ → ℕ
size (pos n) = n
size (negsuc n) = 0

-- a whole number in a field
abbrev pub whole : Kind → ℤ → Option Given
whole I8 z = cond (lies (negsuc 127) (pos 127) z) (Some (given.Num z)) None
whole I16 z = cond (lies (negsuc 32767) (pos 32767) z) (Some (given.Num z)) None
whole I32 z = cond (lies (negsuc 2147483647) (pos 2147483647) z) (Some (given.Num z)) None
whole I64 z = cond (fits_i64 z) (Some (given.Num z)) None
whole Fix z = cond (fits_i64 (z *ℤ pos 65536)) (Some (given.Num (z *ℤ pos 65536))) None
whole Ref z = cond (is_number z) (Some (given.Object (size z))) None
whole Asset z = cond (is_number z) (Some (given.Asset (size z))) None

-- fixed units in a field
abbrev pub units : Kind → ℤ → Option Given
units Fix z = cond (fits_i64 z) (Some (given.Num z)) None
units I8 z = None
units I16 z = None
units I32 z = None
units I64 z = None
units Ref z = None
units Asset z = None

-- null in a field
abbrev pub nothing : Kind → Option Given
nothing Ref = Some given.Null
nothing Asset = Some given.Null
nothing I8 = None
nothing I16 = None
nothing I32 = None
nothing I64 = None
nothing Fix = None

-- a value in a field, none where it doesn't fit
abbrev pub fitting : Kind → Raw → Option Given
fitting kind (Int z) = whole kind z
fitting kind (Units z) = units kind z
fitting kind Null = nothing kind

-- the value of a field that isn't named
abbrev pub blank : Kind → Given
blank I8 = given.Num (pos 0)
blank I16 = given.Num (pos 0)
blank I32 = given.Num (pos 0)
blank I64 = given.Num (pos 0)
blank Fix = given.Num (pos 0)
blank Ref = given.Null
blank Asset = given.Null

-- the value that is written for a name, the first one
abbrev pub written : List RawField → List ℕ → Option Raw
written raws name = option_map (λ r. r.value) (find (λ r. bytes_eq name r.name) raws)

abbrev pub value_of : Kind → Option Raw → Option Given
value_of kind None = Some (blank kind)
value_of kind (Some raw) = fitting kind raw

-- a value before others, or the refusal of the field at this place
abbrev pub before : ℕ → Option Given → Result (List Given) EditFault → Result (List Given) EditFault
before index None rest = Err (BadValue index)
before index (Some value) (Ok values) = Ok (value ∷ values)
before index (Some value) (Err e) = Err e

-- the values of fields from this place on, or the refusal of the first one that its value doesn't fit
abbrev pub values_from : ℕ → List Field → List RawField → Result (List Given) EditFault
values_from index [] raws = Ok []
values_from index (f ∷ fs) raws = before index (value_of f.kind (written raws f.name)) (values_from (index + 1) fs raws)

-- whether a field has the name
abbrev pub has_field : List Field → List ℕ → Bool
has_field fields name = list_any (λ f. bytes_eq name f.name) fields

-- the values of all fields: each written name is that of a field, and each value fits
abbrev pub fitted : List Field → List RawField → Result (List Given) EditFault
fitted fields raws = if list_any (λ r. not (has_field fields r.name)) raws then Err NoField else values_from 0 fields raws

-- ---- one field

-- the place and the kind of the field of a name, counted from this place on
abbrev pub place_from : ℕ → List Field → List ℕ → Option (ℕ × Kind)
place_from index [] name = None
place_from index (f ∷ fs) name = cond (bytes_eq name f.name) (Some (index, f.kind)) (place_from (index + 1) fs name)

abbrev pub placed : ℕ → Option Given → Result (ℕ × Given) EditFault
placed index None = Err (BadValue index)
placed index (Some value) = Ok (index, value)

abbrev pub fitted_at : Option (ℕ × Kind) → Raw → Result (ℕ × Given) EditFault
fitted_at None raw = Err NoField
fitted_at (Some p) raw = placed p.0 (fitting p.1 raw)

-- the place of the field of a name, and its value
abbrev pub field_fitted : List Field → List ℕ → Raw → Result (ℕ × Given) EditFault
field_fitted fields name raw = fitted_at (place_from 0 fields name) raw

-- ---- what a call gives

-- want of memory says nothing, and any other refusal is the one that is wanted
abbrev pub Refuses : {S : Type 0} → EditFault → Result S EditFault → Type 0
Refuses Memory want = Unit {0}
Refuses e want = want ≡ Err e

-- the value or the refusal that is wanted
abbrev pub Gives : {S : Type 0} → Result S EditFault → Result S EditFault → Type 0
Gives (Ok value) want = want ≡ Ok value
Gives (Err e) want = Refuses e want

-- these values and then those, or the refusal
abbrev pub after : List Given → Result (List Given) EditFault → Result (List Given) EditFault
after first (Ok values) = Ok (first ++ values)
after first (Err e) = Err e
