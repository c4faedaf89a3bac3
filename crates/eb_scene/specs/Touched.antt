-- The keys that an edit touches: those whose answers it may change.
use Rattle.std.specs.Prelude.{ℕ, List, [], ◌∷◌, ◌++◌, map, flat_map, Option, Some, None}
use Rattle.eb_schema.specs.declared.kinds.Authoring.{Authoring}
use Rattle.eb_scene.specs.declared.objects.Object.{Object}
use Rattle.eb_scene.specs.declared.keys.Key.{Key}
use Rattle.eb_scene.specs.declared.keys.Key.TheVariants as key
use Rattle.eb_scene.specs.declared.edits.Edit.{Edit}
use Rattle.eb_scene.specs.declared.edits.Edit.TheVariants as edit
use Rattle.eb_scene.specs.Projects.{Content, Objects, numbered, parent_at, most_depth}
use Rattle.eb_scene.specs.Trees.{subtree}
use Rattle.eb_scene.specs.Edits.{type_named}

-- the children of an object, if it is one
abbrev pub children_key : ℕ → Option ℕ → List Key
children_key s None = []
children_key s (Some p) = key.Children s p ∷ []

-- a component of the type, if there is one
abbrev pub part_key : ℕ → ℕ → Option Authoring → List Key
part_key s n None = []
part_key s n (Some a) = key.Comp s n a.number ∷ []

abbrev pub part_keys : ℕ → ℕ → Option Object → List Key
part_keys s n None = []
part_keys s n (Some o) = map (λ p. key.Comp s n p.kind) o.components

-- all keys of an object
abbrev pub object_keys : ℕ → Objects → ℕ → List Key
object_keys s es n = (key.Exists s n ∷ key.Parent s n ∷ key.Children s n ∷ []) ++ part_keys s n (numbered es n)

abbrev pub removed_keys : ℕ → ℕ → Option Objects → List Key
removed_keys s n None = []
removed_keys s n (Some es) = flat_map (object_keys s es) (subtree most_depth es (n ∷ [])) ++ children_key s (parent_at es n)

abbrev pub moved_keys : ℕ → ℕ → Option ℕ → Option Objects → List Key
moved_keys s n parent None = []
moved_keys s n parent (Some es) = (key.Parent s n ∷ children_key s (parent_at es n)) ++ children_key s parent

-- the objects that go with one, itself first
abbrev pub gone_from : ℕ → Option Objects → List ℕ
gone_from n None = []
gone_from n (Some es) = subtree most_depth es (n ∷ [])

-- the objects that an edit takes out
abbrev pub objects_gone : Content → Edit → List ℕ
objects_gone g (edit.RemoveObject s n) = gone_from n (numbered g.scenes s)
objects_gone g _ = []

-- the keys that an edit touches, also where the new answer equals the old one
abbrev pub touched : Content → Edit → List Key
touched g (edit.AddScene s) = []
touched g (edit.RemoveScene s) = []
touched g (edit.AddObject s n parent mark) = key.Exists s n ∷ children_key s parent
touched g (edit.RemoveObject s n) = removed_keys s n (numbered g.scenes s)
touched g (edit.SetParent s n parent) = moved_keys s n parent (numbered g.scenes s)
touched g (edit.SetSection s n mark) = []
touched g (edit.PutComponent s n kind fields) = part_key s n (type_named g.schema kind)
touched g (edit.RemoveComponent s n kind) = part_key s n (type_named g.schema kind)
touched g (edit.SetField s n kind field value) = part_key s n (type_named g.schema kind)
touched g (edit.PutAsset n fields) = key.Asset n ∷ []
touched g (edit.RemoveAsset n) = key.Asset n ∷ []
touched g (edit.SetAssetField n field value) = key.Asset n ∷ []
