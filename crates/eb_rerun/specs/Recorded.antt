-- The runs of a project, and what came of each.
use Rattle.std.specs.Prelude.{ℕ, ◌==◌, Bool, ◌&&◌, List, map, flat_map, filter, fold}
use Rattle.std.specs.Map.{keys_of}
use Rattle.std.specs.FinMap.{empty, insert}
use Rattle.eb_base.specs.declared.names.Name.{Name}
use Rattle.eb_scene.specs.Projects.{Content, objects_of}
use Rattle.eb_rules.specs.Kept.{Kept}
use Rattle.eb_eval.specs.Ran.{Ran}
use Rattle.eb_scene.specs.declared.edits.Edit.{Edit}
use Rattle.eb_scene.specs.Numbers.{has_number}
use Rattle.eb_eval.specs.Reruns.{is_rerun}
use Rattle.eb_eval.specs.Runs.{all_bakers, is_run, outcome_of_run, reads_of_run, runs_of}
use Rattle.eb_eval.specs.declared.ids.RunId.{RunId}
use Rattle.eb_record.specs.Records.{run_name, run_of}
use Rattle.eb_record.specs.Records as records

-- the objects of a project, ascending by scene and number
abbrev pub scene_objects : Content → ℕ → List (ℕ × ℕ)
scene_objects g s = map (λ n. (s, n)) (keys_of (objects_of g s))

abbrev pub objects_in : Content → List (ℕ × ℕ)
objects_in g = flat_map (scene_objects g) (keys_of g.scenes)

-- what a run reads and gives
abbrev pub ran_of : Kept → Content → RunId → Ran
ran_of rules g id = record { keys = reads_of_run g rules id; outcome = outcome_of_run g rules id }

-- ---- kept under their names

abbrev pub with_run : Kept → Content → records.Kept → RunId → records.Kept
with_run rules g m id = insert m (run_name id) (ran_of rules g id)

-- all runs of a project
unfoldable pub recorded : Kept → Content → records.Kept
recorded rules g = fold (with_run rules g) empty (runs_of rules g)

-- ---- names of runs

-- whether a name may be that of a run
abbrev pub is_listed : Name → Bool
is_listed q = q.play == 0 && has_number all_bakers q.extra

-- whether it is that of a run of the project
abbrev pub has_run : Kept → Content → Name → Bool
has_run rules g q = is_listed q && is_run rules g (run_of q)

-- ---- an edit

-- the runs of h that an edit makes anew: those that g hasn't, and those whose reads in g are touched
unfoldable pub rerun : Kept → Content → Edit → Content → List RunId
rerun rules g e h = filter (is_rerun g rules e) (runs_of rules h)
