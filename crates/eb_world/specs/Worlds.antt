-- The running world as plain data: which entities live, what each of them has, and how many were ever made.
use Rattle.std.specs.Prelude.{◌≡◌, ℕ, ◌<◌, ◌≤◌, Bool, true, false, cond, not, ◌&&◌, ◌==◌, List, [], map, find, Option, Some, None, option_map, option_and_then, slice_get, All, FitsSigned, IsSomeAnd, ⊤, refl}
use Rattle.std.specs.Int.{w8, w16, w32, w64}
use Rattle.std.specs.Coded.{Coded, code_by, coded×, coded_list, coded_option, coded_ℕ}
use Rattle.std.specs.List.{AllZip, list_any}
use Rattle.std.specs.List.Sorted.{IsPermutation}
use Rattle.std.specs.Ordering.{eq_by_cmp}
use Rattle.std.specs.FinMap.{FinMap, code, empty, get, insert, retain_keys, contains_key, entries, keys, len}
use Rattle.eb_base.specs.declared.names.Name.{Name}
use Rattle.eb_base.specs.declared.names.Place.{Place}
use Rattle.eb_base.specs.declared.names.Entity.{Entity}
use Rattle.eb_base.specs.Maps.{map_values, kept_values}
use Rattle.eb_base.specs.Names.{name_cmp, coded_name}
use Rattle.eb_base.specs.Places.{place_cmp, coded_place}
use Rattle.eb_schema.specs.declared.kinds.Kind.{Kind}
use Rattle.eb_schema.specs.declared.kinds.Kind.TheVariants.{I8, I16, I32, I64, Fix, Ref}
use Rattle.eb_schema.specs.declared.rows.Val.{Val}
use Rattle.eb_schema.specs.declared.rows.Val.TheVariants.{Num, To, Null, Gone}
use Rattle.eb_schema.specs.declared.rows.Cell.{Cell}
use Rattle.eb_schema.specs.Rows.{cell_of}
use Rattle.eb_schema.specs.Schemas.{Types, component_of}

-- ---- what there is

-- what a live entity has: the section that it was loaded from, if it was, and its cells
pub record Living : Type 0 where
  pub tag : Option Place
  pub row : List Cell

-- the live entities, and the handle of each
abbrev pub Live : Type 0
Live = FinMap name_cmp Living

abbrev pub Handles : Type 0
Handles = FinMap name_cmp Entity

-- what was reserved: the tag of the entities to come, and the types of each of them, in order
pub record Spare : Type 0 where
  pub tag : Option Place
  pub kinds : List (List ℕ)

-- `made` is how many entities were ever created, and `order` lists the live names in an order of the world's own
pub record World : Type 0 where
  pub types : Types
  pub live : Live
  pub handles : Handles
  pub made : ℕ
  pub spare : Spare
  pub order : List Name

abbrev pub no_spare : Spare
no_spare = record { tag = None; kinds = [] }

-- the world of a schema, with no entities
abbrev pub empty_world : Types → World
empty_world types = record { types = types; live = empty; handles = empty; made = 0; spare = no_spare; order = [] }

-- the same world with this reserved
abbrev pub with_spare : World → Spare → World
with_spare w spare = record { types = w.types; live = w.live; handles = w.handles; made = w.made; spare = spare; order = w.order }

-- ---- references

-- f at each value of a row
abbrev pub in_row : (Val → Val) → List Cell → List Cell
in_row f row = map (λ (c : Cell). record { kind = c.kind; values = map f c.values }) row

-- a reference to a name that isn't there is none
abbrev pub kept_value : (Name → Bool) → Val → Val
kept_value there (Num n) = Num n
kept_value there (To name) = cond (there name) (To name) Null
kept_value there Null = Null
kept_value there Gone = Gone

-- a reference to a name that is removed is gone
abbrev pub gone_value : (Name → Bool) → Val → Val
gone_value removed (Num n) = Num n
gone_value removed (To name) = cond (removed name) Gone (To name)
gone_value removed Null = Null
gone_value removed Gone = Gone

-- the row, with each reference to a name that isn't in the map turned into none
abbrev pub kept : Live → List Cell → List Cell
kept live row = in_row (kept_value (contains_key live)) row

-- ---- changes

abbrev pub living : Option Place → List Cell → Living
living tag row = record { tag = tag; row = row }

-- one more entity. A reference of its row to itself stays
abbrev pub created : Live → Name → Option Place → List Cell → Live
created live name tag row = insert live name (living tag (kept (insert live name (living tag row)) row))

abbrev pub is_among : List Name → Name → Bool
is_among names name = list_any (eq_by_cmp name_cmp name) names

-- the map without these entities. Each reference to one of them is gone
abbrev pub without : Live → List Name → Live
without live names = map_values (λ (l : Living). living l.tag (in_row (gone_value (is_among names)) l.row)) (retain_keys live (λ name. not (is_among names name)))

abbrev pub handles_without : Handles → List Name → Handles
handles_without handles names = retain_keys handles (λ name. not (is_among names name))

abbrev pub is_place : Place → Option Place → Bool
is_place place None = false
is_place place (Some p) = eq_by_cmp place_cmp place p

-- the names of the entities that came from a section, ascending
abbrev pub tagged : Live → Place → List Name
tagged live place = keys (kept_values (λ (l : Living). is_place place l.tag) live)

-- ---- what is asked

abbrev pub is_entity : Entity → Entity → Bool
is_entity a b = (a.index == b.index) && (a.serial == b.serial)

-- the name of the live entity with this handle
abbrev pub named : Handles → Entity → Option Name
named handles entity = option_map (λ (e : Name × Entity). e.0) (find (λ (e : Name × Entity). is_entity entity e.1) (entries handles))

-- what the entity with this handle has, if it lives
abbrev pub living_of : World → Entity → Option Living
living_of w entity = option_and_then (get w.live) (named w.handles entity)

-- the value of a field of a type, where the row has both
abbrev pub value_of : List Cell → ℕ → ℕ → Option Val
value_of row kind field = option_and_then (λ (c : Cell). slice_get c.values field) (cell_of row kind)

-- ---- what rows may be handed in

-- a value is of a field's kind and in its range
abbrev pub ValueFits : Kind → Val → Type 0
ValueFits I8 (Num n) = FitsSigned w8 n
ValueFits I16 (Num n) = FitsSigned w16 n
ValueFits I32 (Num n) = FitsSigned w32 n
ValueFits I64 (Num n) = FitsSigned w64 n
ValueFits Fix (Num n) = FitsSigned w64 n
ValueFits Ref (To name) = ⊤
ValueFits Ref Null = ⊤
ValueFits kind value = ⊥

-- a cell has a type of the schema, and one value for each of its fields. No value is gone
abbrev pub CellFits : Types → Cell → Type 0
CellFits types cell = IsSomeAnd (component_of types cell.kind) (λ c. AllZip (λ field value. ValueFits field.kind value) c.fields cell.values)

abbrev pub RowFits : Types → List Cell → Type 0
RowFits types row = All (CellFits types) row

-- ---- what holds of every world

-- each reference of the row leads to a name of the map
abbrev pub LeadsInto : Live → Val → Type 0
LeadsInto live (To name) = contains_key live name ≡ true
LeadsInto live value = ⊤

abbrev pub most_live : ℕ
most_live = 262144

pub record IsWorld (w : World) : Type 0 where
  -- the live entities have handles, and no other names have
  pub handled : (name : Name) → contains_key w.handles name ≡ contains_key w.live name
  -- different entities have different handles
  pub apart : (a b : Name) (entity : Entity) → get w.handles a ≡ Some entity → get w.handles b ≡ Some entity → a ≡ b
  -- serials run from 1 to the number of entities that were ever made
  pub serials : (name : Name) (entity : Entity) → get w.handles name ≡ Some entity → (0 < entity.serial) × (entity.serial ≤ w.made)
  -- each reference leads to a live entity, or says that it is gone or none
  pub closed : (name : Name) (l : Living) → get w.live name ≡ Some l → All (λ (c : Cell). All (LeadsInto w.live) c.values) l.row
  pub few : len w.live ≤ most_live
  -- each live name is listed once
  pub order : IsPermutation (keys w.live) w.order

-- ---- codes

abbrev pub living_code : Coded (List Cell) → Coded Living
living_code row = code_by (Option Place × List Cell) (coded× (coded_option coded_place) row) (λ l. (l.tag, l.row)) (λ p. record { tag = p.0; row = p.1 }) (λ _. refl)

abbrev pub spare_code : Coded Spare
spare_code = code_by (Option Place × List (List ℕ)) (coded× (coded_option coded_place) (coded_list (coded_list coded_ℕ))) (λ s. (s.tag, s.kinds)) (λ p. record { tag = p.0; kinds = p.1 }) (λ _. refl)

abbrev pub coded_entity : Coded Entity
coded_entity = code_by (ℕ × ℕ) (coded× coded_ℕ coded_ℕ) (λ e. (e.index, e.serial)) (λ p. record { index = p.0; serial = p.1 }) (λ _. refl)

abbrev pub world_code : Coded Types → Coded (List Cell) → Coded World
world_code types row =
    code_by (Types × (Live × (Handles × (ℕ × (Spare × List Name)))))
    (coded× types (coded× (code coded_name (living_code row)) (coded× (code coded_name coded_entity) (coded× coded_ℕ (coded× spare_code (coded_list coded_name))))))
    (λ w. (w.types, (w.live, (w.handles, (w.made, (w.spare, w.order))))))
    (λ p. record { types = p.0; live = p.1.0; handles = p.1.1.0; made = p.1.1.1.0; spare = p.1.1.1.1.0; order = p.1.1.1.1.1 }) (λ _. refl)
