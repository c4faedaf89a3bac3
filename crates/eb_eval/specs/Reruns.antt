-- Which runs an edit makes anew, and what the laws on runs say.
use Rattle.std.specs.Prelude.{◌≡◌, Bool, ◌||◌, not, List}
use Rattle.std.specs.List.{list_any}
use Rattle.eb_scene.specs.declared.edits.Edit.{Edit}
use Rattle.eb_scene.specs.declared.keys.Key.{Key}
use Rattle.eb_scene.specs.Answers.{has_key}
use Rattle.eb_scene.specs.Projects.{Content}
use Rattle.eb_scene.specs.Touched.{touched}
use Rattle.eb_rules.specs.Kept.{Kept}
use Rattle.eb_eval.specs.declared.ids.RunId.{RunId}
use Rattle.eb_eval.specs.Runs.{is_run, outcome_of_run, reads_of_run}

-- whether two lists have a key in common
abbrev pub meets : List Key → List Key → Bool
meets keys others = list_any (has_key keys) others

-- whether a run of the project after an edit is made anew: it is new, or what it read before is touched
abbrev pub is_rerun : Content → Kept → Edit → RunId → Bool
is_rerun g rules e id = not (is_run rules g id) || meets (reads_of_run g rules id) (touched g e)

-- the same comes of a run over two projects, and it looks at the same keys
abbrev pub BakesAlike : Content → Content → Kept → RunId → Type 0
BakesAlike g h rules id = (outcome_of_run h rules id ≡ outcome_of_run g rules id) × (reads_of_run h rules id ≡ reads_of_run g rules id)
