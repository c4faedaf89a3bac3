-- What loading the image of a section makes of the living, and what unloading the section does.
use Rattle.std.specs.Prelude.{◌≡◌, ℕ, ◌+◌, ◌<◌, ◌≤◌, ◌^◌, Option, None, Some, Result, Ok, Err, List, [], ◌∷◌, length, map, All, ⊤}
use Rattle.std.specs.List.Sorted.{IsStrictlySortedBy}
use Rattle.std.specs.Ordering.{nat_cmp}
use Rattle.std.specs.FinMap.{FinMap, get, insert, len}
use Rattle.eb_base.specs.declared.names.Name.{Name}
use Rattle.eb_base.specs.declared.names.Place.{Place}
use Rattle.eb_base.specs.Names.{name_cmp}
use Rattle.eb_schema.specs.declared.rows.Val.{Val}
use Rattle.eb_schema.specs.declared.rows.Val.TheVariants as val
use Rattle.eb_schema.specs.declared.rows.Cell.{Cell}
use Rattle.eb_schema.specs.Rows.{kinds_of}
use Rattle.eb_file.specs.declared.images.Link.TheVariants as link
use Rattle.eb_file.specs.declared.images.Stored.{Stored}
use Rattle.eb_file.specs.declared.images.Stored.TheVariants as stored
use Rattle.eb_file.specs.declared.images.StoredCell.{StoredCell}
use Rattle.eb_file.specs.declared.images.ImageRow.{ImageRow}
use Rattle.eb_file.specs.declared.images.Image.{Image}
use Rattle.eb_file.specs.Images.{types_of, names_of}
use Rattle.eb_world.specs.Worlds.{World, Live, Living, living, kept, without, tagged, most_live, RowFits}
use Rattle.eb_stream.specs.declared.load_faults.LoadFault.{LoadFault}
use Rattle.eb_stream.specs.declared.load_faults.LoadFault.TheVariants.{Memory, WorldFull}

-- what a stored value is in the world: a reference leads to its name
abbrev pub val_of : Stored → Val
val_of (stored.Num n) = val.Num n
val_of (stored.Link (link.Local name)) = val.To name
val_of (stored.Link (link.Zero name)) = val.To name
val_of (stored.Link link.Null) = val.Null

abbrev pub world_cell : StoredCell → Cell
world_cell c = record { kind = c.kind; values = map val_of c.values }

abbrev pub cells_of : ImageRow → List Cell
cells_of row = map world_cell row.cells

-- the map with these rows in it, under a tag, each as `keep` makes it
abbrev pub with_rows : (List Cell → List Cell) → Live → Option Place → List ImageRow → Live
with_rows keep live tag [] = live
with_rows keep live tag (row ∷ rows) = with_rows keep (insert live row.name (living tag (keep (cells_of row)))) tag rows

abbrev pub as_stored : List Cell → List Cell
as_stored row = row

-- The image's rows come into the map, tagged with the image's place. A reference leads to its name where the map then
-- has it, and else nowhere.
abbrev pub loaded : Live → Image → Live
loaded live image = with_rows (kept (with_rows as_stored live (Some image.place) image.rows)) live (Some image.place) image.rows

-- the map without the entities of the section; references to them are gone
abbrev pub unloaded : Live → Place → Live
unloaded live place = without live (tagged live place)

-- the cells of a stored row are in order, and not too many
pub record IsOrdered (row : ImageRow) : Type 0 where
  pub order : IsStrictlySortedBy nat_cmp (types_of row)
  pub few : length row.cells ≤ 32

abbrev pub IsNumber : Stored → Type 0
IsNumber (stored.Num n) = ⊤
IsNumber (stored.Link l) = ⊥

-- no value of the image is a reference
abbrev pub HasNumbersAlone : Image → Type 0
HasNumbersAlone image = All (λ row. All (λ (c : StoredCell). All IsNumber c.values) row.cells) image.rows

-- the map has nothing under the row's name
abbrev pub IsNew : {X : Type 0} → FinMap name_cmp X → ImageRow → Type 0
IsNew map row = get map row.name ≡ None

-- every entity has this tag
abbrev pub AllOf : Option Place → Live → Type 0
AllOf tag live = (name : Name) (l : Living) → get live name ≡ Some l → l.tag ≡ tag

-- Why a load ends as it does, where the world would have so many entities.
abbrev pub LoadEnds : Result ℕ LoadFault → ℕ → Type 0
LoadEnds (Ok count) total = total ≤ most_live
LoadEnds (Err Memory) total = ⊤
LoadEnds (Err (WorldFull count)) total = (count ≡ total) × (most_live < total)

-- There is room reserved for just these rows, which are new and have numbers alone.
pub record Creates (w : World) (stored : List ImageRow) (rows : List (List Cell)) : Type 0 where
  pub same : rows ≡ map cells_of stored
  pub numbers : All (λ row. All (λ (c : StoredCell). All IsNumber c.values) row.cells) stored
  pub fits : All (RowFits w.types) rows
  pub spare : w.spare.kinds ≡ map kinds_of rows
  pub order : IsStrictlySortedBy name_cmp (names_of stored)
  pub new : All (IsNew w.live) stored
  pub unhandled : All (IsNew w.handles) stored
  pub few : len w.live + length stored ≤ most_live
  pub serials : w.made + length stored < 2 ^ 62
