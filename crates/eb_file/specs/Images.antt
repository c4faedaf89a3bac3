-- Images of sections: what they say of names, types and references, and which of them are valid.
use Rattle.std.specs.Prelude.{◌≡◌, ℕ, ◌<◌, ◌≤◌, ◌^◌, ◌⊎◌, List, [], ◌∷◌, length, map, All, Contains, flat_map, FitsSigned, IsSomeAnd, ⊤}
use Rattle.std.specs.Int.{w8, w16, w32, w64}
use Rattle.std.specs.List.{AllZip}
use Rattle.std.specs.List.Sorted.{IsStrictlySortedBy}
use Rattle.std.specs.Ordering.{nat_cmp, ordering_then}
use Rattle.std.specs.declared.cmp.Ordering.{Ordering}
use Rattle.eb_base.specs.declared.names.Name.{Name}
use Rattle.eb_schema.specs.declared.kinds.Kind.{Kind}
use Rattle.eb_schema.specs.declared.kinds.Kind.TheVariants.{I8, I16, I32, I64, Fix, Ref, Asset}
use Rattle.eb_schema.specs.declared.kinds.Mode.TheVariants as modes
use Rattle.eb_schema.specs.Schemas.{Types, component_of}
use Rattle.eb_file.specs.declared.images.Link.{Link}
use Rattle.eb_file.specs.declared.images.Link.TheVariants.{Local, Zero, Null}
use Rattle.eb_file.specs.declared.images.Stored.{Stored}
use Rattle.eb_file.specs.declared.images.Stored.TheVariants as stored
use Rattle.eb_file.specs.declared.images.StoredCell.{StoredCell}
use Rattle.eb_file.specs.declared.images.ImageRow.{ImageRow}
use Rattle.eb_file.specs.declared.images.Image.{Image}
use Rattle.eb_file.specs.Ascending.{each_once}

-- the order of names: by play, then scene, then object, then extra
abbrev pub name_cmp : Name → Name → Ordering
name_cmp a b =
    ordering_then (nat_cmp a.play b.play)
    (ordering_then (nat_cmp a.scene b.scene)
    (ordering_then (nat_cmp a.object b.object) (nat_cmp a.extra b.extra)))

-- the names of the rows, in order
abbrev pub names_of : List ImageRow → List Name
names_of rows = map (λ row. row.name) rows

-- the numbers of a row's types, in order
abbrev pub types_of : ImageRow → List ℕ
types_of row = map (λ cell. cell.kind) row.cells

-- the name in section 0 that a value leads to, if it does
abbrev pub zero_name : Stored → List Name
zero_name (stored.Num n) = []
zero_name (stored.Link (Local name)) = []
zero_name (stored.Link (Zero name)) = name ∷ []
zero_name (stored.Link Null) = []

-- the names in section 0 that the rows lead to, once for each reference
abbrev pub zero_names : List ImageRow → List Name
zero_names rows = flat_map (λ row. flat_map (λ cell. flat_map zero_name cell.values) row.cells) rows

-- the same names, ascending, each once
abbrev pub externals_of : List ImageRow → List Name
externals_of rows = each_once name_cmp (zero_names rows)

-- the name of a baked entity of the scene of this number
pub record IsName (number : ℕ) (name : Name) : Type 0 where
  pub play : name.play ≡ 0
  pub scene : name.scene ≡ number
  pub object : (0 < name.object) × (name.object < 2 ^ 32)
  pub extra : (name.extra ≡ 0) ⊎ ((17 ≤ name.extra) × (name.extra ≤ 1040))

-- a reference leads to a row, or from a section above 0 to an entity of section 0, or nowhere
abbrev pub LinkFits : Image → Link → Type 0
LinkFits image (Local name) = Contains (names_of image.rows) name
LinkFits image (Zero name) =
    (0 < image.place.section) × IsName image.place.scene name × ¬ Contains (names_of image.rows) name
LinkFits image Null = ⊤

-- a value is one of its field's kind, and in its range
abbrev pub ValueFits : Image → Kind → Stored → Type 0
ValueFits image I8 (stored.Num n) = FitsSigned w8 n
ValueFits image I16 (stored.Num n) = FitsSigned w16 n
ValueFits image I32 (stored.Num n) = FitsSigned w32 n
ValueFits image I64 (stored.Num n) = FitsSigned w64 n
ValueFits image Fix (stored.Num n) = FitsSigned w64 n
ValueFits image Ref (stored.Link link) = LinkFits image link
ValueFits image Ref (stored.Num n) = ⊥
ValueFits image Asset value = ⊥
ValueFits image kind (stored.Link link) = ⊥

-- a cell has a stored type of the schema, and one value for each of its fields
abbrev pub CellFits : Types → Image → StoredCell → Type 0
CellFits types image cell =
    IsSomeAnd (component_of types cell.kind) (λ c.
    (c.mode ≡ modes.Stored) × AllZip (λ field value. ValueFits image field.kind value) c.fields cell.values)

pub record IsRow (types : Types) (image : Image) (row : ImageRow) : Type 0 where
  pub name : IsName image.place.scene row.name
  pub few : length row.cells ≤ 32
  pub order : IsStrictlySortedBy nat_cmp (types_of row)
  pub cells : All (CellFits types image) row.cells

-- An image that a section file can hold.
pub record IsValid (types : Types) (image : Image) : Type 0 where
  pub scene : (0 < image.place.scene) × (image.place.scene ≤ 16)
  pub section : image.place.section ≤ 63
  pub count : length image.rows ≤ 65536
  pub order : IsStrictlySortedBy name_cmp (names_of image.rows)
  pub rows : All (IsRow types image) image.rows
  pub externals : length (externals_of image.rows) ≤ 65536

-- Each row has type 1 alone, and where there is a row, all fields of that type are whole numbers of 64 bits.
pub record IsPlain (types : Types) (image : Image) : Type 0 where
  pub fields : 0 < length image.rows → IsSomeAnd (component_of types 1) (λ c. All (λ field. field.kind ≡ I64) c.fields)
  pub rows : All (λ row. types_of row ≡ 1 ∷ []) image.rows
