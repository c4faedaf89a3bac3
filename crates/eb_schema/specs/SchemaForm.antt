-- The form of a schema's document: what it reads as, or the first wrong node.
use Rattle.std.specs.Prelude.{ℕ, List, [], ◌∷◌, codes, bytes_eq, if◌then◌else◌, Option, Some, None, Result, Ok, Err}
use Rattle.serde_json.specs.Data.{Data}
use Rattle.eb_base.specs.TypeNames.{is_type_name}
use Rattle.eb_json.specs.declared.faults.FormFault.{FormFault}
use Rattle.eb_json.specs.declared.faults.FormFault.TheVariants.{Wrong}
use Rattle.eb_json.specs.Places.{further, after}
use Rattle.eb_json.specs.Forms.{◌>>=◌, or_wrong, text_at, natural_at, object_at, member_at, null_or_at, list_at, pair_at}
use Rattle.eb_schema.specs.declared.kinds.Mode.{Mode}
use Rattle.eb_schema.specs.declared.kinds.Mode.TheVariants.{Stored, Baking, Only}
use Rattle.eb_schema.specs.declared.drafts.Placed.{Placed}
use Rattle.eb_schema.specs.declared.drafts.DraftField.{DraftField}
use Rattle.eb_schema.specs.declared.drafts.DraftComponent.{DraftComponent}
use Rattle.eb_schema.specs.declared.drafts.DraftAuthoring.{DraftAuthoring}
use Rattle.eb_schema.specs.declared.drafts.Draft.{Draft}

abbrev pub placed : {X : Type 0} → ℕ → X → Placed X
placed place value = record { place = place; value = value }

-- a text that can name a type or a field
unfoldable pub name_at : ℕ → Data → Result (List ℕ) FormFault
name_at place d = do
  text ← text_at place d
  if is_type_name text then Ok text else Err (Wrong place)

abbrev pub mode_of : List ℕ → Option Mode
mode_of text =
    if bytes_eq text (codes "stored") then Some Stored else (if bytes_eq text (codes "baking") then Some Baking else (if bytes_eq text (codes "only") then Some Only else None))

unfoldable pub mode_at : ℕ → Data → Result Mode FormFault
mode_at place d = do
  text ← text_at place d
  or_wrong place (mode_of text)

-- the name at this place, and the kind behind it
abbrev pub field_parts_at : ℕ → ℕ → Data → Data → Result DraftField FormFault
field_parts_at at_name at_kind name kind = do
  n ← name_at at_name name
  k ← text_at at_kind kind
  Ok (record { name = placed at_name n; kind = placed at_kind k })

-- a list of two texts, name and kind
unfoldable pub field_at : ℕ → Data → Result DraftField FormFault
field_at place d = do
  pair ← pair_at place d
  field_parts_at (further place 1) (after (further place 1) pair.0) pair.0 pair.1

unfoldable pub component_parts_at : ℕ → Data → Data → Data → Data → Result DraftComponent FormFault
component_parts_at at_fields fields mode name type_number =
    let at_mode = after at_fields fields in
    let at_name = after at_mode mode in
    let at_number = after at_name name in do
      fs ← list_at field_at at_fields fields
      m ← mode_at at_mode mode
      n ← name_at at_name name
      k ← natural_at 1 128 at_number type_number
      Ok (record { fields = placed at_fields fs; mode = m; name = placed at_name n; number = placed at_number k })

unfoldable pub component_at : ℕ → Data → Result DraftComponent FormFault
component_at place d = do
  whole ← object_at (codes "fields" ∷ codes "mode" ∷ codes "name" ∷ codes "number" ∷ []) place d
  fields ← member_at (codes "fields") place d
  mode ← member_at (codes "mode") place d
  name ← member_at (codes "name") place d
  number ← member_at (codes "number") place d
  component_parts_at (further place 1) fields mode name number

unfoldable pub authoring_parts_at : ℕ → Data → Data → Data → Data → Result DraftAuthoring FormFault
authoring_parts_at at_copy copy fields name type_number =
    let at_fields = after at_copy copy in
    let at_name = after at_fields fields in
    let at_number = after at_name name in do
      c ← null_or_at text_at at_copy copy
      fs ← list_at field_at at_fields fields
      n ← name_at at_name name
      k ← natural_at 1 128 at_number type_number
      Ok (record { copy = placed at_copy c; fields = placed at_fields fs; name = placed at_name n; number = placed at_number k })

unfoldable pub authoring_at : ℕ → Data → Result DraftAuthoring FormFault
authoring_at place d = do
  whole ← object_at (codes "copy" ∷ codes "fields" ∷ codes "name" ∷ codes "number" ∷ []) place d
  copy ← member_at (codes "copy") place d
  fields ← member_at (codes "fields") place d
  name ← member_at (codes "name") place d
  number ← member_at (codes "number") place d
  authoring_parts_at (further place 1) copy fields name number

unfoldable pub draft_parts_at : ℕ → Data → Data → Data → Result Draft FormFault
draft_parts_at at_assets assets authoring components =
    let at_authoring = after at_assets assets in
    let at_components = after at_authoring authoring in do
      fs ← list_at field_at at_assets assets
      types ← list_at authoring_at at_authoring authoring
      cs ← list_at component_at at_components components
      Ok (record { assets = placed at_assets fs; authoring = placed at_authoring types; components = placed at_components cs })

unfoldable pub draft_keys : List (List ℕ)
draft_keys = codes "assets" ∷ codes "authoring" ∷ codes "components" ∷ []

-- the whole schema
unfoldable pub draft_at : ℕ → Data → Result Draft FormFault
draft_at place d = do
  whole ← object_at draft_keys place d
  assets ← member_at (codes "assets") place d
  authoring ← member_at (codes "authoring") place d
  components ← member_at (codes "components") place d
  draft_parts_at (further place 1) assets authoring components
