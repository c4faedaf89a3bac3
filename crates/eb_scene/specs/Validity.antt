-- What every project keeps: numbers within their ranges and in order, parents that are there, objects that are not
-- above themselves and stand no deeper than 64, and values that suit their fields.
use Rattle.std.specs.Prelude.{◌≡◌, ◌≤◌, ℕ, suc, Bool, true, false, pos, negsuc, List, [], ◌∷◌, map, length, Some}
use Rattle.std.specs.List.{AllByRecursion}
use Rattle.std.specs.List.Sorted.{IsStrictlySortedBy}
use Rattle.std.specs.Map.{keys_of}
use Rattle.std.specs.Ordering.{nat_cmp}
use Rattle.eb_base.specs.Arithmetic.{fits_i64}
use Rattle.eb_schema.specs.declared.kinds.Kind.{Kind}
use Rattle.eb_schema.specs.declared.kinds.Kind.TheVariants.{I8, I16, I32, I64, Fix, Ref, Asset}
use Rattle.eb_schema.specs.declared.kinds.Field.{Field}
use Rattle.eb_schema.specs.declared.kinds.Authoring.{Authoring}
use Rattle.eb_schema.specs.Schemas.{Types, authoring_of}
use Rattle.eb_schema.specs.SoundSchemas.{IsSchema}
use Rattle.eb_scene.specs.declared.objects.Object.{Object}
use Rattle.eb_scene.specs.declared.objects.Part.{Part}
use Rattle.eb_scene.specs.declared.objects.Given.{Given}
use Rattle.eb_scene.specs.declared.objects.Given.TheVariants as given
use Rattle.eb_scene.specs.declared.edits.Edit.{Edit}
use Rattle.eb_scene.specs.declared.edits.Edit.TheVariants as edit
use Rattle.eb_scene.specs.Fits.{lies, is_number}
use Rattle.eb_scene.specs.Projects.{Content, Objects, parent_at, above, most_depth}
use Rattle.eb_scene.specs.Edits.{is_there, is_past, most_objects, most_parts, most_assets}

-- ---- numbers

-- the number of a scene
abbrev pub IsSceneNumber : ℕ → Type 0
IsSceneNumber s = (1 ≤ s) × (s ≤ 16)

-- the number of an object or of an asset
abbrev pub IsNumber : ℕ → Type 0
IsNumber n = (1 ≤ n) × (n ≤ 4294967295)

-- ---- values

-- whether a value may stand in a field of the kind
abbrev pub suits : Kind → Given → Bool
suits I8 (given.Num z) = lies (negsuc 127) (pos 127) z
suits I16 (given.Num z) = lies (negsuc 32767) (pos 32767) z
suits I32 (given.Num z) = lies (negsuc 2147483647) (pos 2147483647) z
suits I64 (given.Num z) = fits_i64 z
suits Fix (given.Num z) = fits_i64 z
suits Ref (given.Object n) = is_number (pos n)
suits Ref given.Null = true
suits Asset (given.Asset n) = is_number (pos n)
suits Asset given.Null = true
suits kind value = false

-- one value for each field, and each suits
abbrev pub Suit : List Field → List Given → Type 0
Suit [] [] = Unit {0}
Suit [] (v ∷ vs) = ⊥
Suit (f ∷ fs) [] = ⊥
Suit (f ∷ fs) (v ∷ vs) = (suits f.kind v ≡ true) × Suit fs vs

-- ---- components

-- a component is of an authoring type, and has its values
pub record IsPart (types : Types) (part : Part) : Type 0 where
  pub authoring : Authoring
  pub found : authoring_of types part.kind ≡ Some authoring
  pub values : Suit authoring.fields part.values

-- ascending by type, each type once, and at most 16
pub record AreParts (types : Types) (parts : List Part) : Type 0 where
  pub order : IsStrictlySortedBy nat_cmp (map (λ p. p.kind) parts)
  pub few : length parts ≤ most_parts
  pub each : AllByRecursion (IsPart types) parts

-- ---- scenes

-- the object of a number
pub record IsObject (types : Types) (n : ℕ) (o : Object) : Type 0 where
  pub number : o.number ≡ n
  pub range : IsNumber n
  pub mark : is_past o.mark ≡ false
  pub parts : AreParts types o.components

-- Each object at its number, at most 16,384; its parent is there; and the way up from it, itself included, has at
-- most 64 objects, one step beyond that counted, so that none is above itself.
pub record IsScene (types : Types) (es : Objects) : Type 0 where
  pub order : IsStrictlySortedBy nat_cmp (keys_of es)
  pub few : length es ≤ most_objects
  pub objects : AllByRecursion (λ e. IsObject types e.0 e.1) es
  pub parents : (n : ℕ) → is_there es (parent_at es n) ≡ true
  pub depths : (n : ℕ) → length (above (suc most_depth) es (Some n)) ≤ most_depth

-- ---- the project

pub record IsValid (g : Content) : Type 0 where
  pub schema : IsSchema g.schema
  pub scene_order : IsStrictlySortedBy nat_cmp (keys_of g.scenes)
  pub scenes : AllByRecursion (λ s. IsSceneNumber s.0 × IsScene g.schema s.1) g.scenes
  pub asset_order : IsStrictlySortedBy nat_cmp (keys_of g.assets)
  pub few_assets : length g.assets ≤ most_assets
  pub assets : AllByRecursion (λ a. IsNumber a.0 × Suit g.schema.assets a.1) g.assets

-- ---- edits

-- what an edit speaks of: scenes, objects and assets that a project may have
abbrev pub IsEdit : Edit → Type 0
IsEdit (edit.AddScene s) = IsSceneNumber s
IsEdit (edit.RemoveScene s) = IsSceneNumber s
IsEdit (edit.AddObject s n parent mark) = IsSceneNumber s × IsNumber n
IsEdit (edit.RemoveObject s n) = IsSceneNumber s × IsNumber n
IsEdit (edit.SetParent s n parent) = IsSceneNumber s × IsNumber n
IsEdit (edit.SetSection s n mark) = IsSceneNumber s × IsNumber n
IsEdit (edit.PutComponent s n kind fields) = IsSceneNumber s × IsNumber n
IsEdit (edit.RemoveComponent s n kind) = IsSceneNumber s × IsNumber n
IsEdit (edit.SetField s n kind field value) = IsSceneNumber s × IsNumber n
IsEdit (edit.PutAsset n fields) = IsNumber n
IsEdit (edit.RemoveAsset n) = IsNumber n
IsEdit (edit.SetAssetField n field value) = IsNumber n
