-- Rows that come into a world one after the other.
use Rattle.std.proofs.Common.{◌≡◌, ℕ, zero, suc, ◌+◌, ◌<◌, ◌≤◌, Bool, true, false, List, [], ◌∷◌, length, map, drop, refl, sym, ap, ◌∙◌, arith}
use Rattle.std.specs.Prelude.{Option, None, Some, cond, slice_index_or, All, is_some}
use Rattle.std.specs.Prelude.{IsSomeAnd, ◌^◌}
use Rattle.std.specs.List.{AllZip}
use Rattle.std.proofs.lemmas.List.Elements.{All-tail, All-map}
use Rattle.std.proofs.lemmas.Map.Keys.{sorted_head, sorted_tail}
use Rattle.std.specs.List.{AllByRecursion}
use Rattle.std.specs.Cmp.{eq_by_cmp_equiv}
use Rattle.std.specs.declared.cmp.Ordering.TheVariants.{Less}
use Rattle.std.specs.Ordering.{eq_by_cmp, is_eq}
use Rattle.std.specs.FinMap.{FinMap, get, insert, len, contains_key, get-insert, len-insert}
use Rattle.std.specs.List.Sorted.{IsStrictlySortedBy}
use Rattle.eb_base.specs.declared.names.Name.{Name}
use Rattle.eb_base.specs.declared.names.Place.{Place}
use Rattle.eb_base.specs.declared.names.Entity.{Entity}
use Rattle.eb_world.proofs.MapFacts.{same_key}
use Rattle.eb_base.specs.Names.{name_cmp}
use Rattle.eb_base.proofs.NameOrder.{names_total, exact_names}
use Rattle.eb_schema.specs.declared.rows.Cell.{Cell}
use Rattle.eb_schema.specs.Rows.{kinds_of}
use Rattle.eb_schema.specs.Rows as rows
use Rattle.std.proofs.lemmas.List.{length-map}
use Rattle.eb_file.specs.declared.images.Stored.{Stored}
use Rattle.eb_file.specs.declared.images.Stored.TheVariants as stored
use Rattle.eb_file.specs.declared.images.StoredCell.{StoredCell}
use Rattle.eb_file.specs.declared.images.ImageRow.{ImageRow}
use Rattle.eb_file.specs.declared.images.Image.{Image}
use Rattle.eb_file.specs.declared.images.Link.TheVariants as link
use Rattle.eb_file.specs.Images.{names_of, types_of, IsValid, IsRow}
use Rattle.eb_file.specs.Images as images
use Rattle.eb_schema.specs.declared.kinds.Kind.{Kind}
use Rattle.eb_schema.specs.declared.kinds.Kind.TheVariants.{I8, I16, I32, I64, Fix, Ref, Asset}
use Rattle.eb_schema.specs.declared.kinds.Mode.TheVariants as modes
use Rattle.eb_schema.specs.declared.kinds.Field.{Field}
use Rattle.eb_schema.specs.declared.kinds.Component.{Component}
use Rattle.eb_schema.specs.Schemas.{Types, component_of}
use Rattle.eb_world.specs.Worlds as worlds
use Rattle.eb_world.specs.Worlds.{World, Spare, Live, Living, living, kept, kept_value, in_row, created, most_live, RowFits, with_spare, IsWorld}
use Rattle.eb_stream.specs.Loading.{val_of, world_cell, cells_of, with_rows, as_stored, IsNumber, IsNew, IsOrdered, HasNumbersAlone, Creates, loaded}

first_of : {X : Type 0} (P : X → Type 0) (x : X) (xs : List X) → All P (x ∷ xs) → P x
first_of P x xs h = h 0 x (omega arith)

-- numbers stay what they are, whatever names there are
number_kept : (there : Name → Bool) (value : Stored) → IsNumber value → kept_value there (val_of value) ≡ val_of value
number_kept there (stored.Num n) h = refl
number_kept there (stored.Link l) h = absurd h

values_kept : (there : Name → Bool) (values : List Stored) → All IsNumber values → map (kept_value there) (map val_of values) ≡ map val_of values
values_kept there [] h = refl
values_kept there (v ∷ vs) h =
    ap (λ x. x ∷ map (kept_value there) (map val_of vs)) (number_kept there v (first_of IsNumber v vs h))
    ∙ ap (λ l. val_of v ∷ l) (values_kept there vs (All-tail IsNumber v vs h))

cells_kept : (there : Name → Bool) (cells : List StoredCell) → All (λ (c : StoredCell). All IsNumber c.values) cells → in_row (kept_value there) (map world_cell cells) ≡ map world_cell cells
cells_kept there [] h = refl
cells_kept there (c ∷ cs) h =
    ap (λ vs. record { kind = c.kind; values = vs } ∷ in_row (kept_value there) (map world_cell cs)) (values_kept there c.values (first_of (λ (c : StoredCell). All IsNumber c.values) c cs h))
    ∙ ap (λ l. world_cell c ∷ l) (cells_kept there cs (All-tail (λ (c : StoredCell). All IsNumber c.values) c cs h))

-- a row of numbers is kept as it is
pub row_kept : (live : Live) (row : ImageRow) → All (λ (c : StoredCell). All IsNumber c.values) row.cells → kept live (cells_of row) ≡ cells_of row
row_kept live row h = cells_kept (contains_key live) row.cells h

pub created_row : (live : Live) (row : ImageRow) (tag : Option Place) → All (λ (c : StoredCell). All IsNumber c.values) row.cells → created live row.name tag (cells_of row) ≡ insert live row.name (living tag (cells_of row))
created_row live row tag h = ap (λ cells. insert live row.name (living tag cells)) (row_kept (insert live row.name (living tag (cells_of row))) row h)

with_rows_kept : (keep : List Cell → List Cell) (live : Live) (tag : Option Place) (rows : List ImageRow) → ((row : ImageRow) → All (λ (c : StoredCell). All IsNumber c.values) row.cells → keep (cells_of row) ≡ cells_of row)
    → All (λ row. All (λ (c : StoredCell). All IsNumber c.values) row.cells) rows → with_rows keep live tag rows ≡ with_rows as_stored live tag rows
with_rows_kept keep live tag [] same h = refl
with_rows_kept keep live tag (row ∷ rows) same h =
    ap (λ cells. with_rows keep (insert live row.name (living tag cells)) tag rows) (same row (first_of (λ row. All (λ (c : StoredCell). All IsNumber c.values) row.cells) row rows h))
    ∙ with_rows_kept keep (insert live row.name (living tag (cells_of row))) tag rows same (All-tail (λ row. All (λ (c : StoredCell). All IsNumber c.values) row.cells) row rows h)

-- the map holds the rows of an image of numbers as they are stored
pub loaded_numbers : (live : Live) (image : Image) → HasNumbersAlone image → loaded live image ≡ with_rows as_stored live (Some image.place) image.rows
loaded_numbers live image h =
    let all = with_rows as_stored live (Some image.place) image.rows in
    with_rows_kept (kept all) live (Some image.place) image.rows (row_kept all) h

-- ---- stored rows fit into the world

all_then : {X : Type 0} (P Q : X → Type 0) (xs : List X) → ((x : X) → P x → Q x) → All P xs → All Q xs
all_then P Q xs f h = λ k d within. f (slice_index_or xs k d) (h k d within)

value_fits : (image : Image) (kind : Kind) (v : Stored) → images.ValueFits image kind v → worlds.ValueFits kind (val_of v)
value_fits image I8 (stored.Num n) h = h
value_fits image I16 (stored.Num n) h = h
value_fits image I32 (stored.Num n) h = h
value_fits image I64 (stored.Num n) h = h
value_fits image Fix (stored.Num n) h = h
value_fits image Ref (stored.Num n) h = absurd h
value_fits image Asset (stored.Num n) h = absurd h
value_fits image I8 (stored.Link l) h = absurd h
value_fits image I16 (stored.Link l) h = absurd h
value_fits image I32 (stored.Link l) h = absurd h
value_fits image I64 (stored.Link l) h = absurd h
value_fits image Fix (stored.Link l) h = absurd h
value_fits image Asset (stored.Link l) h = absurd h
value_fits image Ref (stored.Link (link.Local name)) h = tt
value_fits image Ref (stored.Link (link.Zero name)) h = tt
value_fits image Ref (stored.Link link.Null) h = tt

values_fit : (image : Image) (fields : List Field) (values : List Stored) → AllZip (λ field value. images.ValueFits image field.kind value) fields values → AllZip (λ field value. worlds.ValueFits field.kind value) fields (map val_of values)
values_fit image [] [] h = tt
values_fit image [] (v ∷ vs) h = absurd h
values_fit image (f ∷ fs) [] h = absurd h
values_fit image (f ∷ fs) (v ∷ vs) h = (value_fits image f.kind v h.0, values_fit image fs vs h.1)

found_fits : (image : Image) (values : List Stored) (found : Option Component) → IsSomeAnd found (λ c. (c.mode ≡ modes.Stored) × AllZip (λ field value. images.ValueFits image field.kind value) c.fields values)
    → IsSomeAnd found (λ c. AllZip (λ field value. worlds.ValueFits field.kind value) c.fields (map val_of values))
found_fits image values None h = absurd h
found_fits image values (Some c) h = values_fit image c.fields values h.1

cell_fits : (types : Types) (image : Image) (c : StoredCell) → images.CellFits types image c → worlds.CellFits types (world_cell c)
cell_fits types image c h = found_fits image c.values (component_of types c.kind) h

row_fits : (types : Types) (image : Image) (row : ImageRow) → IsRow types image row → RowFits types (cells_of row)
row_fits types image row h =
    All-map (worlds.CellFits types) world_cell row.cells (all_then (images.CellFits types image) (λ c. worlds.CellFits types (world_cell c)) row.cells (cell_fits types image) h.cells)

pub rows_fit : (types : Types) (image : Image) → IsValid types image → All (RowFits types) (map cells_of image.rows)
rows_fit types image valid =
    All-map (RowFits types) cells_of image.rows (all_then (IsRow types image) (λ row. RowFits types (cells_of row)) image.rows (row_fits types image) valid.rows)

pub rows_ordered : (types : Types) (image : Image) → IsValid types image → All IsOrdered image.rows
rows_ordered types image valid = all_then (IsRow types image) IsOrdered image.rows (λ row h. record { order = h.order; few = h.few }) valid.rows

-- the types of a row are those of its cells
pub kinds_stored : (cells : List StoredCell) → kinds_of (map world_cell cells) ≡ map (λ (c : StoredCell). c.kind) cells
kinds_stored [] = refl
kinds_stored (c ∷ cs) = ap (λ l. c.kind ∷ l) (kinds_stored cs)

-- ---- one row after the other

later : (name : Name) (rows : List ImageRow) → AllByRecursion (λ other. name_cmp name other ≡ Less) (names_of rows) → (k : ℕ) (d : ImageRow) → k < length rows → name_cmp name (slice_index_or rows k d).name ≡ Less
later name [] h k d within = absurd (omega arith)
later name (r ∷ rs) h zero d within = h.0
later name (r ∷ rs) h (suc k) d within = later name rs h.1 k d (omega arith)

-- a name that comes later differs
other_name : (a b : Name) (t : Bool) → eq_by_cmp name_cmp a b ≡ t → name_cmp b a ≡ Less → t ≡ false
other_name a b false e less = refl
other_name a b true e less =
    let same : a ≡ b = same_key exact_names a b e in
    sym ((eq_by_cmp_equiv names_total).refl b) ∙ ap is_eq (sym (ap (name_cmp b) same) ∙ less)

new_after : {X : Type 0} (map : FinMap name_cmp X) (row : ImageRow) (x : X) (rows : List ImageRow) → IsStrictlySortedBy name_cmp (names_of (row ∷ rows)) → All (IsNew map) (row ∷ rows) → All (IsNew (insert map row.name x)) rows
new_after map row x rows sorted new k d within =
    let other = (slice_index_or rows k d).name in
    get-insert names_total map row.name x other
    ∙ ap (λ t. cond t (Some x) (get map other)) (other_name other row.name (eq_by_cmp name_cmp other row.name) refl (later row.name rows (sorted_head name_cmp row.name (names_of rows) sorted) k d within))
    ∙ All-tail (IsNew map) row rows new k d within

not_there : (live : Live) (name : Name) → get live name ≡ None → contains_key live name ≡ false
not_there live name h = ap is_some h

len_after : (live : Live) (row : ImageRow) (l : Living) → get live row.name ≡ None → len (insert live row.name l) ≡ len live + 1
len_after live row l h = len-insert names_total live row.name l ∙ ap (λ t. cond t (len live) (len live + 1)) (not_there live row.name h)

pub Creates-next : (w new : World) (entity : Entity) (row : ImageRow) (stored : List ImageRow) (cells : List Cell) (rows : List (List Cell)) → Creates w (row ∷ stored) (cells ∷ rows) → new.live ≡ created w.live row.name w.spare.tag cells → new.handles ≡ insert w.handles row.name entity → new.made ≡ w.made + 1
    → new.spare ≡ record { tag = w.spare.tag; kinds = drop 1 w.spare.kinds } → new.types ≡ w.types → Creates new stored rows
Creates-next w new entity row stored cells rows c live handles made spare types =
    let same : cells ≡ cells_of row = cc in
    let numbers : All (λ (c : StoredCell). All IsNumber c.values) row.cells = first_of (λ row. All (λ (c : StoredCell). All IsNumber c.values) row.cells) row stored c.numbers in
    let lives : new.live ≡ insert w.live row.name (living w.spare.tag (cells_of row)) = live ∙ ap (λ cs. created w.live row.name w.spare.tag cs) same ∙ created_row w.live row w.spare.tag numbers in
    let count : len new.live ≡ len w.live + 1 = ap len lives ∙ len_after w.live row (living w.spare.tag (cells_of row)) (first_of (IsNew w.live) row stored c.new) in
    record {
      same = ap (drop 1) c.same;
      numbers = All-tail (λ row. All (λ (c : StoredCell). All IsNumber c.values) row.cells) row stored c.numbers;
      fits = rw types (All-tail (RowFits w.types) cells rows c.fits);
      spare = ap (λ (s : Spare). s.kinds) spare ∙ ap (drop 1) c.spare;
      order = sorted_tail name_cmp row.name (names_of stored) c.order;
      new = rw lives (new_after w.live row (living w.spare.tag (cells_of row)) stored c.order c.new);
      unhandled = rw handles (new_after w.handles row entity stored c.order c.unhandled);
      few = omega (arith, c.few);
      serials = omega (arith, c.serials);
    }

not_new : (handles : FinMap name_cmp Entity) (name fresh : Name) (new entity : Entity) → get handles fresh ≡ None → get handles name ≡ Some entity → (t : Bool) → eq_by_cmp name_cmp name fresh ≡ t → cond t (Some new) (get handles name) ≡ Some entity
not_new handles name fresh new entity free has true e = absurd (cc (free, has, ap (get handles) (same_key exact_names name fresh e)))
not_new handles name fresh new entity free has false e = has

-- an entity that had a handle before has it still
pub handle_stays : (handles : FinMap name_cmp Entity) (row : ImageRow) (new : Entity) (name : Name) (entity : Entity) → get handles row.name ≡ None → get handles name ≡ Some entity → get (insert handles row.name new) name ≡ Some entity
handle_stays handles row new name entity free has = get-insert names_total handles row.name new name ∙ not_new handles name row.name new entity free has (eq_by_cmp name_cmp name row.name) refl

pub next_live : (w new : World) (row : ImageRow) (stored : List ImageRow) (cells : List Cell) (rows : List (List Cell)) → Creates w (row ∷ stored) (cells ∷ rows) → new.live ≡ created w.live row.name w.spare.tag cells → new.spare ≡ record { tag = w.spare.tag; kinds = drop 1 w.spare.kinds }
    → with_rows as_stored new.live new.spare.tag stored ≡ with_rows as_stored w.live w.spare.tag (row ∷ stored)
next_live w new row stored cells rows c live spare =
    let same : cells ≡ cells_of row = cc in
    let numbers : All (λ (c : StoredCell). All IsNumber c.values) row.cells = first_of (λ row. All (λ (c : StoredCell). All IsNumber c.values) row.cells) row stored c.numbers in
    let lives : new.live ≡ insert w.live row.name (living w.spare.tag (cells_of row)) = live ∙ ap (λ cs. created w.live row.name w.spare.tag cs) same ∙ created_row w.live row w.spare.tag numbers in
    ap (λ l. with_rows as_stored l new.spare.tag stored) lives ∙ ap (λ (s : Spare). with_rows as_stored (insert w.live row.name (living w.spare.tag (cells_of row))) s.tag stored) spare

nothing : (o : Option Entity) → is_some o ≡ false → o ≡ None
nothing None e = refl
nothing (Some x) e = absurd (cc e)

unhandled_name : (w : World) (name : Name) → IsWorld w → get w.live name ≡ None → get w.handles name ≡ None
unhandled_name w name whole none = nothing (get w.handles name) (whole.handled name ∙ ap is_some none)

-- what was reserved for the rows of an image is for just these
pub Creates-image : (w new : World) (image : Image) (rows : List (List Cell)) → IsWorld w → IsValid w.types image → HasNumbersAlone image → All (IsNew w.live) image.rows → len w.live + length image.rows ≤ most_live → w.made + length image.rows < 2 ^ 62
    → rows ≡ map cells_of image.rows → new ≡ with_spare w (record { tag = Some image.place; kinds = map kinds_of rows }) → Creates new image.rows rows
Creates-image w new image rows whole valid numbers fresh few serials same reserved = rw reserved (record {
  same = same;
  numbers = numbers;
  fits = rw same (rows_fit w.types image valid);
  spare = refl;
  order = valid.order;
  new = fresh;
  unhandled = λ k d within. unhandled_name w (slice_index_or image.rows k d).name whole (fresh k d within);
  few = few;
  serials = serials;
})

-- the cells of a stored row are a row
pub IsRow-stored : (row : ImageRow) → IsOrdered row → rows.IsRow (cells_of row)
IsRow-stored row ordered = record {
  order = rw (kinds_stored row.cells) ordered.order;
  few = rw (length-map row.cells world_cell) ordered.few;
}
