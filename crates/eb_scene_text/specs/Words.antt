-- The words that name an edit.
use Rattle.std.specs.Prelude.{ℕ, List, Option, Some, None, codes, bytes_eq, if◌then◌else◌}
use Rattle.eb_scene_text.specs.declared.words.Word.{Word}
use Rattle.eb_scene_text.specs.declared.words.Word.TheVariants.{AddScene, RemoveScene, AddObject, RemoveObject, SetParent, SetSection, PutComponent, RemoveComponent, SetField, PutAsset, RemoveAsset, SetAssetField}

-- the words of scenes and objects
abbrev pub scene_word : List ℕ → Option Word
scene_word text =
    if bytes_eq text (codes "add_scene") then Some AddScene else (if bytes_eq text (codes "remove_scene") then Some RemoveScene else (if bytes_eq text (codes "add_object") then Some AddObject else (if bytes_eq text (codes "remove_object") then Some RemoveObject else (if bytes_eq text (codes "set_parent") then Some SetParent else (if bytes_eq text (codes "set_section") then Some SetSection else None)))))

-- the words of components and assets
abbrev pub value_word : List ℕ → Option Word
value_word text =
    if bytes_eq text (codes "put_component") then Some PutComponent else (if bytes_eq text (codes "remove_component") then Some RemoveComponent else (if bytes_eq text (codes "set_field") then Some SetField else (if bytes_eq text (codes "put_asset") then Some PutAsset else (if bytes_eq text (codes "remove_asset") then Some RemoveAsset else (if bytes_eq text (codes "set_asset_field") then Some SetAssetField else None)))))

abbrev pub or_word : Option Word → Option Word → Option Word
or_word None other = other
or_word (Some word) other = Some word

unfoldable pub word_of : List ℕ → Option Word
word_of text = or_word (scene_word text) (value_word text)
