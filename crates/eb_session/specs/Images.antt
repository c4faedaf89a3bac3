-- The image of section 0 of scene 1, and which projects are published.
use Rattle.std.specs.Prelude.{ℕ, Bool, true, false, ◌&&◌, ◌||◌, ◌==◌, nat_le, not, is_some, option_map, Option, None, Some, List, [], ◌∷◌, length, map}
use Rattle.std.specs.List.{list_all, list_any}
use Rattle.std.specs.FinMap.{entries, len}
use Rattle.eb_base.specs.Arithmetic.{fits_i64}
use Rattle.eb_base.specs.declared.names.Name.{Name}
use Rattle.eb_base.specs.declared.names.Place.{Place}
use Rattle.eb_schema.specs.BakedEntities.{Entities}
use Rattle.eb_schema.specs.declared.baked.BakedEntity.{BakedEntity}
use Rattle.eb_schema.specs.declared.kinds.Kind.{Kind}
use Rattle.eb_schema.specs.declared.kinds.Kind.TheVariants as kind
use Rattle.eb_schema.specs.declared.kinds.Mode.{Mode}
use Rattle.eb_schema.specs.declared.kinds.Mode.TheVariants as mode
use Rattle.eb_schema.specs.declared.kinds.Component.{Component}
use Rattle.eb_schema.specs.declared.rows.Cell.{Cell}
use Rattle.eb_schema.specs.declared.rows.Val.{Val}
use Rattle.eb_schema.specs.declared.rows.Val.TheVariants as val
use Rattle.eb_schema.specs.Schemas.{Types, component_of}
use Rattle.eb_scene.specs.Projects.{Content, numbered}
use Rattle.eb_rules.specs.Kept.{Kept}
use Rattle.eb_bake.specs.Baking.{staged_of}
use Rattle.eb_file.specs.declared.images.Link.TheVariants as link
use Rattle.eb_file.specs.declared.images.Stored.{Stored}
use Rattle.eb_file.specs.declared.images.Stored.TheVariants as stored
use Rattle.eb_file.specs.declared.images.StoredCell.{StoredCell}
use Rattle.eb_file.specs.declared.images.ImageRow.{ImageRow}
use Rattle.eb_file.specs.declared.images.Image.{Image}

-- the section that is published: section 0 of scene 1
abbrev pub the_place : Place
the_place = record { scene = 1; section = 0 }

-- ---- the image

-- a value as it is stored; what is published has no references
abbrev pub stored_of : Val → Stored
stored_of (val.Num n) = stored.Num n
stored_of (val.To name) = stored.Link link.Null
stored_of val.Null = stored.Link link.Null
stored_of val.Gone = stored.Link link.Null

abbrev pub stored_cell : Cell → StoredCell
stored_cell c = record { kind = c.kind; values = map stored_of c.values }

-- an entity, as it is stored
abbrev pub stored_row : Name × BakedEntity → ImageRow
stored_row e = record { name = e.0; cells = map stored_cell e.1.row }

-- the image of the section: all entities, ascending by name
abbrev pub image_of : Entities → Image
image_of all = record { place = the_place; rows = map stored_row (entries all) }

-- ---- which projects are published

abbrev pub is_stored : Mode → Bool
is_stored mode.Stored = true
is_stored mode.Baking = false
is_stored mode.Only = false

abbrev pub is_whole_number : Kind → Bool
is_whole_number kind.I64 = true
is_whole_number kind.I8 = false
is_whole_number kind.I16 = false
is_whole_number kind.I32 = false
is_whole_number kind.Fix = false
is_whole_number kind.Ref = false
is_whole_number kind.Asset = false

-- a type that is stored, all of whose fields are whole numbers of 64 bits
abbrev pub is_plain_type : Component → Bool
is_plain_type t = is_stored t.mode && list_all (λ f. is_whole_number f.kind) t.fields

abbrev pub is_whole : Val → Bool
is_whole (val.Num z) = fits_i64 z
is_whole (val.To name) = false
is_whole val.Null = false
is_whole val.Gone = false

-- one whole number for each field of such a type
abbrev pub is_plain_cell : Option Component → List Val → Bool
is_plain_cell None values = false
is_plain_cell (Some t) values = is_plain_type t && ((length values == length t.fields) && list_all is_whole values)

-- a row of one cell, of type 1, which is such a type
abbrev pub is_plain_row : Types → List Cell → Bool
is_plain_row types [] = false
is_plain_row types (c ∷ []) = (c.kind == 1) && is_plain_cell (component_of types 1) c.values
is_plain_row types (c ∷ d ∷ cs) = false

-- the extra of an object's own entity, or one that a baker may give
abbrev pub is_extra : ℕ → Bool
is_extra k = (k == 0) || (nat_le 17 k && nat_le k 1040)

-- a name that baking gives in scene 1
abbrev pub is_baked_name : Name → Bool
is_baked_name n = ((n.play == 0) && (n.scene == 1)) && ((nat_le 1 n.object && nat_le n.object 4294967295) && is_extra n.extra)

abbrev pub is_the_place : Place → Bool
is_the_place p = (p.scene == 1) && (p.section == 0)

-- an entity of the section with such a row
abbrev pub is_plain_entity : Types → Name × BakedEntity → Bool
is_plain_entity types e = is_baked_name e.0 && (is_the_place e.1.place && is_plain_row types e.1.row)

-- the numbers of all scenes but 1
abbrev pub other_scenes : List ℕ
other_scenes = 2 ∷ 3 ∷ 4 ∷ 5 ∷ 6 ∷ 7 ∷ 8 ∷ 9 ∷ 10 ∷ 11 ∷ 12 ∷ 13 ∷ 14 ∷ 15 ∷ 16 ∷ []

abbrev pub has_scene : Content → ℕ → Bool
has_scene g s = is_some (numbered g.scenes s)

-- scene 1 is there, and no other one
abbrev pub has_scene_one_alone : Content → Bool
has_scene_one_alone g = has_scene g 1 && not (list_any (has_scene g) other_scenes)

-- The guard on what is published: scene 1 is there alone, and all its entities, at most 65,536, are plain. So no entity
-- has a component of another mode than stored, no section but 1:0 is there, and each row of its image has just one
-- cell, of type 1, whose fields are whole numbers.
abbrev pub is_plain : Content → Entities → Bool
is_plain g all = (nat_le (len all) 65536 && has_scene_one_alone g) && list_all (is_plain_entity g.schema) (entries all)

abbrev pub image_where : Bool → Entities → Option Image
image_where true all = Some (image_of all)
image_where false all = None

abbrev pub guarded_image : Content → Entities → Option Image
guarded_image g all = image_where (is_plain g all) all

-- the image that a publication of a project under rules writes; none where the project isn't published yet
unfoldable pub image_in : Kept → Content → Option Image
image_in rules g = guarded_image g (staged_of rules g).entities

-- ---- rows one after the other

-- the stored row of an entity that is plain
abbrev pub row_where : Bool → Name × BakedEntity → Option ImageRow
row_where true e = Some (stored_row e)
row_where false e = None

abbrev pub before_rows : Option ImageRow → Option (List ImageRow) → Option (List ImageRow)
before_rows None rows = None
before_rows (Some row) rows = option_map (λ rs. row ∷ rs) rows

-- the stored rows of these entities, none where one of them isn't plain
unfoldable pub all_rows : Types → List (Name × BakedEntity) → Option (List ImageRow)
all_rows types [] = Some []
all_rows types (e ∷ es) = before_rows (row_where (is_plain_entity types e) e) (all_rows types es)
