-- What an edit makes of a project, or the first rule that it breaks.
use Rattle.std.specs.Prelude.{◌≡◌, ◌==◌, ◌&&◌, ◌+◌, ℕ, Bool, true, false, cond, not, nat_lt, nat_le, List, [], ◌∷◌, length, slice_set, Option, Some, None, is_some, option_and_then, Result, Ok, Err, if◌then◌else◌}
use Rattle.std.specs.Map.{set_value}
use Rattle.std.specs.BTreeMap.{is_at}
use Rattle.std.specs.Ordering.{nat_cmp}
use Rattle.eb_scene.specs.declared.objects.Object.{Object}
use Rattle.eb_scene.specs.declared.edits.Edit.{Edit}
use Rattle.eb_scene.specs.declared.edits.Edit.TheVariants as edit
use Rattle.eb_scene.specs.declared.edits.EditFault.{EditFault}
use Rattle.eb_scene.specs.declared.edits.EditFault.TheVariants as fault
use Rattle.eb_schema.specs.declared.kinds.Authoring.{Authoring}
use Rattle.eb_schema.specs.Schemas.{Types, authoring_of, authoring_named}
use Rattle.eb_schema.specs.Rows.{with_item}
use Rattle.eb_scene.specs.declared.objects.Part.{Part}
use Rattle.eb_scene.specs.declared.objects.Given.{Given}
use Rattle.eb_scene.specs.declared.edits.Raw.{Raw}
use Rattle.eb_scene.specs.declared.edits.RawField.{RawField}
use Rattle.eb_scene.specs.Numbers.{has_number, without_item}
use Rattle.eb_scene.specs.Trees.{height, subtree, without_all}
use Rattle.eb_scene.specs.Fits.{Refuses, fitted, field_fitted}
use Rattle.eb_scene.specs.Projects.{Content, numbered, Objects, part_of, above, most_depth}
use Rattle.eb_scene.specs.Tables.{with_numbered, without_numbered, changed}

-- ---- what a call tells

-- the state that is wanted, or the refusal, which changes nothing
abbrev pub Tells : {S T : Type 0} → Result T EditFault → S → S → Result S EditFault → Type 0
Tells (Ok _) old new want = want ≡ Ok new
Tells (Err e) old new want = (new ≡ old) × Refuses e want

-- ---- limits

abbrev pub most_objects : ℕ
most_objects = 16384

abbrev pub last_section : ℕ
last_section = 63

-- whether a mark is above the last section
abbrev pub is_past : Option ℕ → Bool
is_past None = false
is_past (Some mark) = nat_lt last_section mark

-- ---- scenes

abbrev pub scene_added : Content → ℕ → Result Content EditFault
scene_added g s =
    if is_some (numbered g.scenes s) then Err fault.SceneTaken
    else Ok (record g { scenes = with_numbered g.scenes s [] })

abbrev pub scene_removed : Content → ℕ → Result Content EditFault
scene_removed g s =
    if not (is_some (numbered g.scenes s)) then Err fault.NoScene
    else Ok (record g { scenes = without_numbered g.scenes s })

-- ---- edits in a scene

-- the project with these objects in a scene, or the refusal
abbrev pub put_scene : Content → ℕ → Result Objects EditFault → Result Content EditFault
put_scene g s (Ok es) = Ok (record g { scenes = set_value (is_at (nat_cmp s)) g.scenes es })
put_scene g s (Err e) = Err e

abbrev pub on_scene_at : Content → ℕ → (Objects → Result Objects EditFault) → Option Objects → Result Content EditFault
on_scene_at g s f None = Err fault.NoScene
on_scene_at g s f (Some es) = put_scene g s (f es)

-- the project after a change of the objects of one scene
abbrev pub on_scene : Content → ℕ → (Objects → Result Objects EditFault) → Result Content EditFault
on_scene g s f = on_scene_at g s f (numbered g.scenes s)

-- whether an object may stand below this one: it is none, or there
abbrev pub is_there : Objects → Option ℕ → Bool
is_there es None = true
is_there es (Some p) = is_some (numbered es p)

abbrev pub fresh : ℕ → Option ℕ → Option ℕ → Object
fresh n parent mark = record { number = n; parent = parent; mark = mark; components = [] }

abbrev pub marked : Option ℕ → Object → Object
marked mark o = record o { mark = mark }

abbrev pub object_added : Objects → ℕ → Option ℕ → Option ℕ → Result Objects EditFault
object_added es n parent mark =
    if is_some (numbered es n) then Err fault.ObjectTaken
    else if not (is_there es parent) then Err fault.NoParent
    else if nat_le most_objects (length es) then Err fault.ObjectLimit
    else if nat_le most_depth (length (above most_depth es parent)) then Err fault.DepthLimit
    else if is_past mark then Err fault.SectionRange
    else Ok (with_numbered es n (fresh n parent mark))

abbrev pub section_set : Objects → ℕ → Option ℕ → Result Objects EditFault
section_set es n mark =
    if not (is_some (numbered es n)) then Err fault.NoObject
    else if is_past mark then Err fault.SectionRange
    else Ok (changed (marked mark) es n)

abbrev pub parented : Option ℕ → Object → Object
parented parent o = record o { parent = parent }

-- an object put below another one, or below none
abbrev pub parent_set : Objects → ℕ → Option ℕ → Result Objects EditFault
parent_set es n parent =
    if not (is_some (numbered es n)) then Err fault.NoObject
    else if not (is_there es parent) then Err fault.NoParent
    else if has_number (above most_depth es parent) n then Err fault.Cycle
    else if nat_lt most_depth (length (above most_depth es parent) + height most_depth es (n ∷ [])) then Err fault.DepthLimit
    else Ok (changed (parented parent) es n)

-- an object and all below it taken out
abbrev pub object_removed : Objects → ℕ → Result Objects EditFault
object_removed es n =
    if not (is_some (numbered es n)) then Err fault.NoObject
    else Ok (without_all es (subtree most_depth es (n ∷ [])))

-- ---- components

abbrev pub most_parts : ℕ
most_parts = 16

-- the authoring type of a name
abbrev pub type_named : Types → List ℕ → Option Authoring
type_named types name = option_and_then (authoring_of types) (authoring_named types name)

abbrev pub with_part : Part → Object → Object
with_part part o = record o { components = with_item (λ p. p.kind) part o.components }

abbrev pub without_part : ℕ → Object → Object
without_part kind o = record o { components = without_item (λ p. p.kind) o.components kind }

-- components with another value in the first one of a type
abbrev pub set_part : ℕ → ℕ → Given → List Part → List Part
set_part kind place value [] = []
set_part kind place value (p ∷ ps) = cond (p.kind == kind) (record p { values = slice_set p.values place value } ∷ ps) (p ∷ set_part kind place value ps)

abbrev pub with_value : ℕ → ℕ → Given → Object → Object
with_value kind place value o = record o { components = set_part kind place value o.components }

-- the step after an object and a type are found
abbrev pub on_type : {S : Type 0} → Option Authoring → (Authoring → Result S EditFault) → Result S EditFault
on_type None f = Err fault.NoType
on_type (Some a) f = f a

abbrev pub on_object : {S : Type 0} → Option Object → (Object → Result S EditFault) → Result S EditFault
on_object None f = Err fault.NoObject
on_object (Some o) f = f o

abbrev pub and_so : {S T : Type 0} → Result S EditFault → (S → Result T EditFault) → Result T EditFault
and_so (Ok s) f = f s
and_so (Err e) f = Err e

-- whether an object has no component of the type, and no room for one
abbrev pub is_full : Object → ℕ → Bool
is_full o kind = not (is_some (part_of o.components kind)) && nat_le most_parts (length o.components)

abbrev pub component_put : Types → Objects → ℕ → List ℕ → List RawField → Result Objects EditFault
component_put types es n name raws =
    on_object (numbered es n) (λ o. on_type (type_named types name) (λ a. and_so (fitted a.fields raws) (λ values.
    if is_full o a.number then Err fault.ObjectLimit
    else Ok (changed (with_part (record { kind = a.number; values = values })) es n))))

abbrev pub component_removed : Types → Objects → ℕ → List ℕ → Result Objects EditFault
component_removed types es n name =
    on_object (numbered es n) (λ o. on_type (type_named types name) (λ a.
    if not (is_some (part_of o.components a.number)) then Err fault.NoComponent
    else Ok (changed (without_part a.number) es n)))

abbrev pub field_set : Types → Objects → ℕ → List ℕ → List ℕ → Raw → Result Objects EditFault
field_set types es n name field raw =
    on_object (numbered es n) (λ o. on_type (type_named types name) (λ a.
    if not (is_some (part_of o.components a.number)) then Err fault.NoComponent
    else and_so (field_fitted a.fields field raw) (λ p. Ok (changed (with_value a.number p.0 p.1) es n))))

-- ---- assets

abbrev pub most_assets : ℕ
most_assets = 4096

abbrev pub asset_put : Content → ℕ → List RawField → Result Content EditFault
asset_put g n raws =
    and_so (fitted g.schema.assets raws) (λ values.
    if not (is_some (numbered g.assets n)) && nat_le most_assets (length g.assets) then Err fault.AssetLimit
    else Ok (record g { assets = with_numbered g.assets n values }))

abbrev pub asset_removed : Content → ℕ → Result Content EditFault
asset_removed g n =
    if not (is_some (numbered g.assets n)) then Err fault.NoAsset
    else Ok (record g { assets = without_numbered g.assets n })

abbrev pub asset_field_set : Content → ℕ → List ℕ → Raw → Result Content EditFault
asset_field_set g n field raw =
    and_so (field_fitted g.schema.assets field raw) (λ p.
    if not (is_some (numbered g.assets n)) then Err fault.NoAsset
    else Ok (record g { assets = changed (λ values. slice_set values p.0 p.1) g.assets n }))

-- ---- all edits

-- the project after an edit, or the first rule that it breaks
abbrev pub edited : Content → Edit → Result Content EditFault
edited g (edit.AddScene s) = scene_added g s
edited g (edit.RemoveScene s) = scene_removed g s
edited g (edit.AddObject s n parent mark) = on_scene g s (λ es. object_added es n parent mark)
edited g (edit.RemoveObject s n) = on_scene g s (λ es. object_removed es n)
edited g (edit.SetParent s n parent) = on_scene g s (λ es. parent_set es n parent)
edited g (edit.SetSection s n mark) = on_scene g s (λ es. section_set es n mark)
edited g (edit.PutComponent s n kind fields) = on_scene g s (λ es. component_put g.schema es n kind fields)
edited g (edit.RemoveComponent s n kind) = on_scene g s (λ es. component_removed g.schema es n kind)
edited g (edit.SetField s n kind field value) = on_scene g s (λ es. field_set g.schema es n kind field value)
edited g (edit.PutAsset n fields) = asset_put g n fields
edited g (edit.RemoveAsset n) = asset_removed g n
edited g (edit.SetAssetField n field value) = asset_field_set g n field value
