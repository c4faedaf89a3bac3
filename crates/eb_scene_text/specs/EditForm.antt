-- The form of an edit's document: what it reads as, or the first wrong node.
use Rattle.std.specs.Prelude.{ℕ, ◌+◌, List, [], ◌∷◌, cond, codes, Option, Some, None, option_and_then, Result, Ok}
use Rattle.std.specs.Ordering.{nat_cmp, is_lt}
use Rattle.std.specs.Cmp.Lexicographic.{slice_cmp}
use Rattle.serde_json.specs.Data.{Data, Members, no_members, member}
use Rattle.serde_json.specs.Find.{as_str, as_object}
use Rattle.eb_json.specs.declared.faults.FormFault.{FormFault}
use Rattle.eb_json.specs.Places.{further, nodes_of}
use Rattle.eb_json.specs.Forms.{◌>>=◌, or_wrong, text_at, object_at, member_at}
use Rattle.eb_scene.specs.declared.edits.Edit.{Edit}
use Rattle.eb_scene.specs.declared.edits.Edit.TheVariants as edit
use Rattle.eb_scene_text.specs.declared.words.Word.{Word}
use Rattle.eb_scene_text.specs.declared.words.Word.TheVariants as word
use Rattle.eb_scene_text.specs.Words.{word_of}
use Rattle.eb_scene_text.specs.Values.{scene_at, number_at, above_at, mark_at, raw_at, fields_at, taken, skipped}

-- ---- the members of each word, ascending by key

-- the scene, where there is nothing else
unfoldable pub scene_alone_at : ℕ → Data → Result ℕ FormFault
scene_alone_at place d = do
  whole ← object_at (codes "do" ∷ codes "scene" ∷ []) place d
  at_scene ← skipped (codes "do") d (further place 1)
  s ← taken scene_at (codes "scene") d at_scene
  Ok s.0

-- the asset, where there is nothing else
unfoldable pub asset_alone_at : ℕ → Data → Result ℕ FormFault
asset_alone_at place d = do
  whole ← object_at (codes "asset" ∷ codes "do" ∷ []) place d
  n ← taken number_at (codes "asset") d (further place 1)
  Ok n.0

unfoldable pub add_object_at : ℕ → Data → Result Edit FormFault
add_object_at place d = do
  whole ← object_at (codes "do" ∷ codes "object" ∷ codes "parent" ∷ codes "scene" ∷ codes "section" ∷ []) place d
  at_object ← skipped (codes "do") d (further place 1)
  n ← taken number_at (codes "object") d at_object
  parent ← taken above_at (codes "parent") d n.1
  s ← taken scene_at (codes "scene") d parent.1
  mark ← taken mark_at (codes "section") d s.1
  Ok (edit.AddObject s.0 n.0 parent.0 mark.0)

unfoldable pub remove_object_at : ℕ → Data → Result Edit FormFault
remove_object_at place d = do
  whole ← object_at (codes "do" ∷ codes "object" ∷ codes "scene" ∷ []) place d
  at_object ← skipped (codes "do") d (further place 1)
  n ← taken number_at (codes "object") d at_object
  s ← taken scene_at (codes "scene") d n.1
  Ok (edit.RemoveObject s.0 n.0)

unfoldable pub set_parent_at : ℕ → Data → Result Edit FormFault
set_parent_at place d = do
  whole ← object_at (codes "do" ∷ codes "object" ∷ codes "parent" ∷ codes "scene" ∷ []) place d
  at_object ← skipped (codes "do") d (further place 1)
  n ← taken number_at (codes "object") d at_object
  parent ← taken above_at (codes "parent") d n.1
  s ← taken scene_at (codes "scene") d parent.1
  Ok (edit.SetParent s.0 n.0 parent.0)

unfoldable pub set_section_at : ℕ → Data → Result Edit FormFault
set_section_at place d = do
  whole ← object_at (codes "do" ∷ codes "object" ∷ codes "scene" ∷ codes "section" ∷ []) place d
  at_object ← skipped (codes "do") d (further place 1)
  n ← taken number_at (codes "object") d at_object
  s ← taken scene_at (codes "scene") d n.1
  mark ← taken mark_at (codes "section") d s.1
  Ok (edit.SetSection s.0 n.0 mark.0)

unfoldable pub put_component_at : ℕ → Data → Result Edit FormFault
put_component_at place d = do
  whole ← object_at (codes "do" ∷ codes "fields" ∷ codes "kind" ∷ codes "object" ∷ codes "scene" ∷ []) place d
  at_fields ← skipped (codes "do") d (further place 1)
  fields ← taken fields_at (codes "fields") d at_fields
  kind ← taken text_at (codes "kind") d fields.1
  n ← taken number_at (codes "object") d kind.1
  s ← taken scene_at (codes "scene") d n.1
  Ok (edit.PutComponent s.0 n.0 kind.0 fields.0)

unfoldable pub remove_component_at : ℕ → Data → Result Edit FormFault
remove_component_at place d = do
  whole ← object_at (codes "do" ∷ codes "kind" ∷ codes "object" ∷ codes "scene" ∷ []) place d
  at_kind ← skipped (codes "do") d (further place 1)
  kind ← taken text_at (codes "kind") d at_kind
  n ← taken number_at (codes "object") d kind.1
  s ← taken scene_at (codes "scene") d n.1
  Ok (edit.RemoveComponent s.0 n.0 kind.0)

unfoldable pub set_field_at : ℕ → Data → Result Edit FormFault
set_field_at place d = do
  whole ← object_at (codes "do" ∷ codes "field" ∷ codes "kind" ∷ codes "object" ∷ codes "scene" ∷ codes "value" ∷ []) place d
  at_field ← skipped (codes "do") d (further place 1)
  field ← taken text_at (codes "field") d at_field
  kind ← taken text_at (codes "kind") d field.1
  n ← taken number_at (codes "object") d kind.1
  s ← taken scene_at (codes "scene") d n.1
  value ← taken raw_at (codes "value") d s.1
  Ok (edit.SetField s.0 n.0 kind.0 field.0 value.0)

unfoldable pub put_asset_at : ℕ → Data → Result Edit FormFault
put_asset_at place d = do
  whole ← object_at (codes "asset" ∷ codes "do" ∷ codes "fields" ∷ []) place d
  n ← taken number_at (codes "asset") d (further place 1)
  at_fields ← skipped (codes "do") d n.1
  fields ← taken fields_at (codes "fields") d at_fields
  Ok (edit.PutAsset n.0 fields.0)

unfoldable pub set_asset_field_at : ℕ → Data → Result Edit FormFault
set_asset_field_at place d = do
  whole ← object_at (codes "asset" ∷ codes "do" ∷ codes "field" ∷ codes "value" ∷ []) place d
  n ← taken number_at (codes "asset") d (further place 1)
  at_field ← skipped (codes "do") d n.1
  field ← taken text_at (codes "field") d at_field
  value ← taken raw_at (codes "value") d field.1
  Ok (edit.SetAssetField n.0 field.0 value.0)

-- the edit of a word
abbrev pub members_as : Word → ℕ → Data → Result Edit FormFault
members_as word.AddScene place d = scene_alone_at place d >>= λ s. Ok (edit.AddScene s)
members_as word.RemoveScene place d = scene_alone_at place d >>= λ s. Ok (edit.RemoveScene s)
members_as word.AddObject place d = add_object_at place d
members_as word.RemoveObject place d = remove_object_at place d
members_as word.SetParent place d = set_parent_at place d
members_as word.SetSection place d = set_section_at place d
members_as word.PutComponent place d = put_component_at place d
members_as word.RemoveComponent place d = remove_component_at place d
members_as word.SetField place d = set_field_at place d
members_as word.PutAsset place d = put_asset_at place d
members_as word.RemoveAsset place d = asset_alone_at place d >>= λ n. Ok (edit.RemoveAsset n)
members_as word.SetAssetField place d = set_asset_field_at place d

-- ---- the word

-- how many nodes the members before a key have, in members ascending by key
unfoldable pub nodes_before : List ℕ → Members → ℕ
nodes_before key no_members = 0
nodes_before key (member k d ms) = cond (is_lt (slice_cmp nat_cmp k key)) (nodes_of d + nodes_before key ms) 0

-- the word that a node is
abbrev pub word_at : ℕ → Data → Result Word FormFault
word_at place d = or_wrong place (option_and_then word_of (as_str d))

-- the place of the member of a key, in an object at this place
abbrev pub place_of : List ℕ → ℕ → Option Members → ℕ
place_of key place None = place
place_of key place (Some ms) = further (further place 1) (nodes_before key ms)

-- the word of an edit at this place. Without a member `do` the whole is wrong, and where that is no word only its own
-- node
unfoldable pub edit_word_at : ℕ → Data → Result Word FormFault
edit_word_at place d = do
  text ← member_at (codes "do") place d
  word_at (place_of (codes "do") place (as_object d)) text

-- the edit that a document is
unfoldable pub edit_of : Data → Result Edit FormFault
edit_of d = do
  word ← edit_word_at 0 d
  members_as word 0 d
