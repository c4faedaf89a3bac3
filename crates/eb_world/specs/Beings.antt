-- How the world keeps its entities, and what they are as plain data. A reference keeps the serial of the entity that
-- it leads to, so that it is gone as soon as that entity is.
use Rattle.std.specs.Prelude.{◌≡◌, ℕ, ◌+◌, ◌<◌, ◌≤◌, ◌^◌, Bool, true, false, cond, not, ◌==◌, List, [], ◌∷◌, ◌++◌, map, length, take, drop, Option, Some, None, option_and_then, slice_get, ◌-◌, All, flat_map, ⊤}
use Rattle.std.specs.List.{AllByRecursion}
use Rattle.std.specs.Ordering.{eq_by_cmp}
use Rattle.std.specs.FinMap.{FinMap, get, insert, remove, len}
use Rattle.slab.specs.Slab.{Slab, HasRoomFor}
use Rattle.slab.specs.Slab as slab
use Rattle.eb_base.specs.declared.names.Name.{Name}
use Rattle.eb_base.specs.declared.names.Place.{Place}
use Rattle.eb_base.specs.declared.names.Entity.{Entity}
use Rattle.eb_base.specs.Maps.{map_values, kept_values}
use Rattle.eb_base.specs.Names.{name_cmp}
use Rattle.eb_schema.specs.declared.kinds.Component.{Component}
use Rattle.eb_schema.specs.declared.rows.Val.{Val}
use Rattle.eb_schema.specs.declared.rows.Val.TheVariants as val
use Rattle.eb_schema.specs.declared.rows.Cell.{Cell}
use Rattle.eb_schema.specs.Schemas.{Types, component_of}
use Rattle.eb_world.specs.Tables.{NameTable, Sections, names_at, room_at}
use Rattle.eb_world.specs.Worlds.{Living, Live, Handles, is_among, is_place, most_live, named}
use Rattle.eb_world.specs.declared.beings.Held.{Held}
use Rattle.eb_world.specs.declared.beings.Held.TheVariants.{Num, Link, Null}
use Rattle.eb_world.specs.declared.beings.Being.{Being}
use Rattle.eb_world.specs.declared.beings.Blank.{Blank}

abbrev pub Beings : Type 0
Beings = FinMap name_cmp Being

-- ---- the values of a row, one after another

abbrev pub fields_in : Option Component → ℕ
fields_in None = 0
fields_in (Some c) = length c.fields

-- how many fields a type has
abbrev pub width : Types → ℕ → ℕ
width types kind = fields_in (component_of types kind)

-- the values of a row end to end
abbrev pub flat : List Cell → List Val
flat row = flat_map (λ (c : Cell). c.values) row

-- the cells of these types with these values end to end
abbrev pub cells_of : Types → List ℕ → List Val → List Cell
cells_of types [] values = []
cells_of types (k ∷ ks) values = record { kind = k; values = take (width types k) values } ∷ cells_of types ks (drop (width types k) values)

-- how many values these types have
abbrev pub total : Types → List ℕ → ℕ
total types [] = 0
total types (k ∷ ks) = width types k + total types ks

-- ---- what is kept of a value, and what it means

abbrev pub has_serial : ℕ → Option Being → Bool
has_serial serial None = false
has_serial serial (Some b) = b.entity.serial == serial

-- a reference by name and serial leads to the entity of that name, as long as it is the same one
abbrev pub meaning : Beings → Held → Val
meaning beings (Num n) = val.Num n
meaning beings (Link to serial) = cond (has_serial serial (get beings to)) (val.To to) val.Gone
meaning beings Null = val.Null

abbrev pub link_to : Name → Option Being → Held
link_to name None = Null
link_to name (Some b) = Link name b.entity.serial

-- what is kept of a value of a new entity of this name and serial
abbrev pub hold : Beings → Name → ℕ → Val → Held
hold beings name serial (val.Num n) = Num n
hold beings name serial (val.To to) = cond (eq_by_cmp name_cmp to name) (Link to serial) (link_to to (get beings to))
hold beings name serial val.Null = Null
hold beings name serial val.Gone = Null

-- ---- the world of the entities that are kept

abbrev pub shown : Types → Beings → Being → Living
shown types beings b = record { tag = b.tag; row = cells_of types b.kinds (map (meaning beings) b.values) }

abbrev pub live_of : Types → Beings → Live
live_of types beings = map_values (shown types beings) beings

abbrev pub handles_of : Beings → Handles
handles_of beings = map_values (λ (b : Being). b.entity) beings

-- the value of a field of a type, among the values of these types end to end
abbrev pub value_in : {X : Type 0} → Types → List ℕ → List X → ℕ → ℕ → Option X
value_in types [] values kind field = None
value_in types (k ∷ ks) values kind field = cond (k == kind) (slice_get (take (width types k) values) field) (value_in types ks (drop (width types k) values) kind field)

-- the entity with this handle, as it is kept
abbrev pub being_at : Beings → Entity → Option Being
being_at beings entity = option_and_then (get beings) (named (handles_of beings) entity)

-- ---- changes

-- one more name in the list of its section, if it has one
abbrev pub enlisted : Sections → Option Place → Name → Sections
enlisted sections None name = sections
enlisted sections (Some place) name = insert sections place (record { items = names_at sections place ++ name ∷ []; room = room_at sections place - 1 })

abbrev pub is_of : Place → Being → Bool
is_of place b = is_place place b.tag

-- the entities that are not of the section
abbrev pub not_of : Place → Beings → Beings
not_of place beings = kept_values (λ (b : Being). not (is_of place b)) beings

abbrev pub of_place : Place → Option Being → Bool
of_place place None = false
of_place place (Some b) = is_of place b

-- without the entity of this name, where it is of the section
abbrev pub drop_one : Place → Beings → Name → Beings
drop_one place beings name = cond (of_place place (get beings name)) (remove beings name) beings

-- without those of these names that are of the section
abbrev pub drop_all : Place → List Name → Beings → Beings
drop_all place [] beings = beings
drop_all place (name ∷ names) beings = drop_all place names (drop_one place beings name)

-- ---- what is kept in order

-- each entity has its seat
abbrev pub Seated : Slab Name → Beings → Type 0
Seated seats beings = (name : Name) (b : Being) → get beings name ≡ Some b → slab.get seats b.entity.index ≡ Some name

-- a reference was made no later than the last entity
abbrev pub IsUpTo : ℕ → Held → Type 0
IsUpTo made (Link to serial) = serial ≤ made
IsUpTo made value = ⊤

-- room for the values of the types, and none of them there
pub record IsBlank (types : Types) (blank : Blank) : Type 0 where
  pub empty : blank.values.items ≡ []
  pub room : total types blank.kinds ≤ blank.values.room

-- an entity of this name is kept where its handle and its section say
pub record IsBeing (types : Types) (seats : Slab Name) (sections : Sections) (made : ℕ) (name : Name) (b : Being) : Type 0 where
  pub seated : slab.get seats b.entity.index ≡ Some name
  pub serial : (0 < b.entity.serial) × (b.entity.serial ≤ made)
  pub listed : (place : Place) → is_of place b ≡ true → is_among (names_at sections place) name ≡ true
  pub links : AllByRecursion (IsUpTo made) b.values
  pub values : length b.values ≡ total types b.kinds

-- room in a section's list for so many names
abbrev pub IsRoomy : Sections → Option Place → ℕ → Type 0
IsRoomy sections None count = ⊤
IsRoomy sections (Some place) count = count ≤ room_at sections place

-- room for so many more entities of the tag
pub record HasRoom (beings : NameTable Being) (seats : Slab Name) (sections : Sections) (tag : Option Place) (count : ℕ) : Type 0 where
  pub names : count ≤ beings.room
  pub handles : HasRoomFor seats count
  pub small : 0 < count → seats.capacity ≤ 2 ^ 32
  pub section : IsRoomy sections tag count

pub record IsSound (types : Types) (beings : NameTable Being) (seats : Slab Name) (sections : Sections) (tag : Option Place) (blanks : List Blank) (made : ℕ) : Type 0 where
  pub each : (name : Name) (b : Being) → get beings.map name ≡ Some b → IsBeing types seats sections made name b
  pub few : len beings.map ≤ most_live
  pub room : HasRoom beings seats sections tag (length blanks)
  pub ready : All (IsBlank types) blanks
