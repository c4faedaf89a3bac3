-- How an edit brings the runs that are kept up to the new project: which are evaluated, and which go.
use Rattle.std.specs.Prelude.{ℕ, ◌-◌, ◌==◌, Bool, true, false, ◌&&◌, ◌||◌, not, List, [], ◌∷◌, ◌++◌, length, map, flat_map, fold, slice_get, Option, Some, None, is_some, cond}
use Rattle.std.specs.FinMap.{FinMap, empty, entries, get, insert, remove}
use Rattle.std.specs.List.{list_any}
use Rattle.eb_base.specs.Names.{name_cmp}
use Rattle.eb_scene.specs.declared.edits.Edit.{Edit}
use Rattle.eb_scene.specs.declared.edits.Edit.TheVariants as edit
use Rattle.eb_scene.specs.declared.keys.Key.{Key}
use Rattle.eb_scene.specs.declared.keys.Key.TheVariants.{Comp, Parent, Children, Exists, Asset}
use Rattle.eb_scene.specs.Projects.{Content}
use Rattle.eb_scene.specs.Touched.{touched}
use Rattle.eb_rules.specs.Kept.{Kept}
use Rattle.eb_eval.specs.Runs.{all_bakers, id_of, is_run}
use Rattle.eb_eval.specs.declared.ids.RunId.{RunId}
use Rattle.eb_record.specs.Records.{readers_of, run_name}
use Rattle.eb_record.specs.Records as records
use Rattle.eb_rerun.specs.Recorded.{recorded, scene_objects, with_run}

-- ---- the objects that keys are of

abbrev pub object_of : Key → Option (ℕ × ℕ)
object_of (Comp s n kind) = Some (s, n)
object_of (Parent s n) = Some (s, n)
object_of (Children s n) = Some (s, n)
object_of (Exists s n) = Some (s, n)
object_of (Asset n) = None

-- whether an object stands last
abbrev pub is_last : Option (ℕ × ℕ) → ℕ × ℕ → Bool
is_last None o = false
is_last (Some p) o = p.0 == o.0 && p.1 == o.1

abbrev pub last_of : List (ℕ × ℕ) → Option (ℕ × ℕ)
last_of os = slice_get os (length os - 1)

abbrev pub put_unless : Bool → List (ℕ × ℕ) → ℕ × ℕ → List (ℕ × ℕ)
put_unless true os o = os
put_unless false os o = os ++ o ∷ []

-- with one more object, unless it stands last
abbrev pub with_object : List (ℕ × ℕ) → Option (ℕ × ℕ) → List (ℕ × ℕ)
with_object os None = os
with_object os (Some o) = put_unless (is_last (last_of os) o) os o

-- the objects that keys are of; one that comes several times in a row stands there once
abbrev pub objects_of_keys : List Key → List (ℕ × ℕ)
objects_of_keys keys = fold (λ os k. with_object os (object_of k)) [] keys

-- the objects that go with a scene
abbrev pub scene_gone : Content → Edit → List (ℕ × ℕ)
scene_gone g (edit.RemoveScene s) = scene_objects g s
scene_gone g _ = []

-- whether a key is of an object
abbrev pub is_of : ℕ → ℕ → Key → Bool
is_of s n (Comp t m kind) = t == s && m == n
is_of s n (Parent t m) = t == s && m == n
is_of s n (Children t m) = t == s && m == n
is_of s n (Exists t m) = t == s && m == n
is_of s n (Asset m) = false

-- whether an edit may change which runs an object has
abbrev pub is_near : Content → Edit → ℕ → ℕ → Bool
is_near g e s n = list_any (λ o. o.0 == s && o.1 == n) (scene_gone g e) || list_any (is_of s n) (touched g e)

-- a run by each baker that there may be
abbrev pub runs_around : ℕ × ℕ → List RunId
runs_around o = map (id_of o.0 o.1) all_bakers

-- all runs that an edit may make or take away: those of the objects that go with a scene, and of those that touched keys are of
abbrev pub around : List (ℕ × ℕ) → List Key → List RunId
around gone keys = flat_map runs_around (gone ++ objects_of_keys keys)

-- ---- which runs are evaluated

-- runs, each under its name
abbrev pub RunSet : Type 0
RunSet = FinMap name_cmp RunId

abbrev pub put_where : Bool → RunSet → RunId → RunSet
put_where b m id = cond b (insert m (run_name id) id) m

-- those that the project has
abbrev pub with_present : Kept → Content → RunSet → RunId → RunSet
with_present rules h m id = put_where (is_run rules h id) m id

-- those that the project has and that aren't kept
abbrev pub with_new : records.Kept → Kept → Content → RunSet → RunId → RunSet
with_new kept rules h m id = put_where (not (is_some (get kept (run_name id))) && is_run rules h id) m id

-- of the runs that looked at what was touched those that are still there, and of those around it the new ones
abbrev pub chosen : records.Kept → Kept → Content → List RunId → List RunId → RunSet
chosen kept rules h read near = fold (with_new kept rules h) (fold (with_present rules h) empty read) near

-- ascending
unfoldable pub again : records.Kept → Kept → Content → List (ℕ × ℕ) → List Key → List RunId
again kept rules h gone keys = map (λ e. e.1) (entries (chosen kept rules h (readers_of kept keys) (around gone keys)))

-- ---- which runs go

abbrev pub undone : records.Kept → RunId → records.Kept
undone m id = remove m (run_name id)

-- a run that the project hasn't
abbrev pub undone_if_gone : Kept → Content → records.Kept → RunId → records.Kept
undone_if_gone rules h m id = cond (not (is_run rules h id)) (undone m id) m

abbrev pub cleared : records.Kept → Kept → Content → List (ℕ × ℕ) → List Key → records.Kept
cleared kept rules h gone keys = fold (undone_if_gone rules h) (fold undone kept (readers_of kept keys)) (around gone keys)

-- ---- both

-- what is kept afterwards
unfoldable pub renewed : records.Kept → Kept → Content → List (ℕ × ℕ) → List Key → records.Kept
renewed kept rules h gone keys = fold (with_run rules h) (cleared kept rules h gone keys) (again kept rules h gone keys)

-- ---- where all runs of g are kept, and an edit makes h of it

abbrev pub evaluated_by : Kept → Content → Edit → Content → List RunId
evaluated_by rules g e h = again (recorded rules g) rules h (scene_gone g e) (touched g e)

abbrev pub kept_after : Kept → Content → Edit → Content → records.Kept
kept_after rules g e h = renewed (recorded rules g) rules h (scene_gone g e) (touched g e)
