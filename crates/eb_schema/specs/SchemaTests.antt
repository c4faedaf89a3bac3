-- What a schema's draft stands for, or the refusal of the least place. Parts are tested in preorder, so the
-- first refusal is the one of the least place.
use Rattle.std.specs.Prelude.{ℕ, ◌==◌, ◌&&◌, List, [], ◌∷◌, ◌++◌, length, codes, bytes_eq, find, Bool, true, false, nat_le, if◌then◌else◌, Option, Some, None, Result, Ok, Err}
use Rattle.std.specs.List.{list_any}
use Rattle.std.specs.Cmp.Lexicographic.{pointwise}
use Rattle.serde_json.specs.Data.{Data}
use Rattle.eb_json.specs.Forms.{◌>>=◌}
use Rattle.eb_schema.specs.declared.kinds.Kind.{Kind}
use Rattle.eb_schema.specs.declared.kinds.Kind.TheVariants.{I8, I16, I32, I64, Fix, Ref, Asset}
use Rattle.eb_schema.specs.declared.kinds.Field.{Field}
use Rattle.eb_schema.specs.declared.kinds.Component.{Component}
use Rattle.eb_schema.specs.declared.kinds.Authoring.{Authoring}
use Rattle.eb_schema.specs.declared.drafts.Placed.{Placed}
use Rattle.eb_schema.specs.declared.drafts.DraftField.{DraftField}
use Rattle.eb_schema.specs.declared.drafts.DraftComponent.{DraftComponent}
use Rattle.eb_schema.specs.declared.drafts.DraftAuthoring.{DraftAuthoring}
use Rattle.eb_schema.specs.declared.drafts.Draft.{Draft}
use Rattle.eb_schema.specs.declared.drafts.Holder.{Holder}
use Rattle.eb_schema.specs.declared.drafts.Holder.TheVariants.{OfAssets, OfAuthoring, OfComponent}
use Rattle.eb_schema.specs.declared.faults.SchemaFault.{SchemaFault}
use Rattle.eb_schema.specs.declared.faults.SchemaFault.TheVariants.{NameTaken, NumberTaken, TooMany, BadKind, CopyMismatch}
use Rattle.eb_schema.specs.declared.drafts.Lists.{Lists}
use Rattle.eb_schema.specs.Schemas.{Types}
use Rattle.eb_schema.specs.SchemaFaults.{read_as}
use Rattle.eb_schema.specs.SchemaForm.{draft_at}

-- the kind that a text names
unfoldable pub kind_of : List ℕ → Option Kind
kind_of text =
    if bytes_eq text (codes "i8") then Some I8 else (if bytes_eq text (codes "i16") then Some I16 else (if bytes_eq text (codes "i32") then Some I32 else
    (if bytes_eq text (codes "i64") then Some I64 else (if bytes_eq text (codes "fix") then Some Fix else (if bytes_eq text (codes "ref") then Some Ref else
    (if bytes_eq text (codes "asset") then Some Asset else None))))))

-- assets have numbers alone, and component types no assets
abbrev pub allows : Holder → Kind → Bool
allows OfAssets Ref = false
allows OfAssets Asset = false
allows OfAssets I8 = true
allows OfAssets I16 = true
allows OfAssets I32 = true
allows OfAssets I64 = true
allows OfAssets Fix = true
allows OfAuthoring kind = true
allows OfComponent Asset = false
allows OfComponent I8 = true
allows OfComponent I16 = true
allows OfComponent I32 = true
allows OfComponent I64 = true
allows OfComponent Fix = true
allows OfComponent Ref = true

abbrev pub allowed_kind : Holder → ℕ → Option Kind → Result Kind SchemaFault
allowed_kind holder place None = Err (BadKind place)
allowed_kind holder place (Some kind) = if allows holder kind then Ok kind else Err (BadKind place)

-- each of the drafts made, with those before it
unfoldable pub each_of : {D X : Type 0} → (List D → D → Result X SchemaFault) → List D → List D → Result (List X) SchemaFault
each_of makes before [] = Ok []
each_of makes before (d ∷ ds) = do
  x ← makes before d
  xs ← each_of makes (before ++ d ∷ []) ds
  Ok (x ∷ xs)

-- each of at most so many drafts
abbrev pub each_within : {D X : Type 0} → ℕ → (List D → D → Result X SchemaFault) → Placed (List D) → Result (List X) SchemaFault
each_within most makes drafts = if nat_le (length drafts.value) most then each_of makes [] drafts.value else Err (TooMany drafts.place)

unfoldable pub field_from : Holder → List DraftField → DraftField → Result Field SchemaFault
field_from holder before draft =
    if list_any (λ f. bytes_eq f.name.value draft.name.value) before then Err (NameTaken draft.name.place) else do
      kind ← allowed_kind holder draft.kind.place (kind_of draft.kind.value)
      Ok (record { name = draft.name.value; kind = kind })

abbrev pub fields_from : Holder → Placed (List DraftField) → Result (List Field) SchemaFault
fields_from holder drafts = each_within 16 (field_from holder) drafts

unfoldable pub component_from : List DraftComponent → DraftComponent → Result Component SchemaFault
component_from before draft = do
  fields ← fields_from OfComponent draft.fields
  if list_any (λ c. bytes_eq c.name.value draft.name.value) before then Err (NameTaken draft.name.place) else
      (if list_any (λ c. c.number.value == draft.number.value) before then Err (NumberTaken draft.number.place) else
      Ok (record { number = draft.number.value; name = draft.name.value; mode = draft.mode; fields = fields }))

-- the same names and kinds, as texts, in the same order
abbrev pub same_field : DraftField → DraftField → Bool
same_field f g = bytes_eq f.name.value g.name.value && bytes_eq f.kind.value g.kind.value

abbrev pub same_fields : List DraftField → List DraftField → Bool
same_fields = pointwise same_field

abbrev pub is_named : List ℕ → Option (List ℕ) → Bool
is_named name None = false
is_named name (Some other) = bytes_eq other name

abbrev pub copied_to : ℕ → List DraftField → Option DraftComponent → Result (Option ℕ) SchemaFault
copied_to place fields None = Err (CopyMismatch place)
copied_to place fields (Some c) = if same_fields c.fields.value fields then Ok (Some c.number.value) else Err (CopyMismatch place)

-- the first component type of the name, to which none of those before is copied
unfoldable pub copy_named : List DraftComponent → List DraftAuthoring → ℕ → List DraftField → List ℕ → Result (Option ℕ) SchemaFault
copy_named components before place fields name =
    if list_any (λ a. is_named name a.copy.value) before then Err (CopyMismatch place) else copied_to place fields (find (λ c. bytes_eq c.name.value name) components)

abbrev pub copy_where : List DraftComponent → List DraftAuthoring → ℕ → List DraftField → Option (List ℕ) → Result (Option ℕ) SchemaFault
copy_where components before place fields None = Ok None
copy_where components before place fields (Some name) = copy_named components before place fields name

-- the component type that an authoring type is copied to
unfoldable pub copy_from : List DraftComponent → List DraftAuthoring → DraftAuthoring → Result (Option ℕ) SchemaFault
copy_from components before draft = copy_where components before draft.copy.place draft.fields.value draft.copy.value

unfoldable pub authoring_with : List DraftAuthoring → DraftAuthoring → Option ℕ → List Field → Result Authoring SchemaFault
authoring_with before draft copy fields =
    if list_any (λ a. bytes_eq a.name.value draft.name.value) before then Err (NameTaken draft.name.place) else
    (if list_any (λ a. a.number.value == draft.number.value) before then Err (NumberTaken draft.number.place) else
    Ok (record { number = draft.number.value; name = draft.name.value; copy = copy; fields = fields }))

unfoldable pub authoring_from : List DraftComponent → List DraftAuthoring → DraftAuthoring → Result Authoring SchemaFault
authoring_from components before draft = do
  copy ← copy_from components before draft
  fields ← fields_from OfAuthoring draft.fields
  authoring_with before draft copy fields

-- the lists of a draft
unfoldable pub lists_from : Draft → Result Lists SchemaFault
lists_from draft = do
  assets ← fields_from OfAssets draft.assets
  authoring ← each_within 128 (authoring_from draft.components.value) draft.authoring
  components ← each_within 128 component_from draft.components
  Ok (record { assets = assets; authoring = authoring; components = components })

abbrev pub types_of : Lists → Types
types_of lists = record { assets = lists.assets; authoring = lists.authoring; components = lists.components }

-- the schema that a document is: its form first, then the rest
unfoldable pub schema_of : Data → Result Types SchemaFault
schema_of d = do
  draft ← read_as (draft_at 0 d)
  lists ← lists_from draft
  Ok (types_of lists)
