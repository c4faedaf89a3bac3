-- Which runs a project has, and what each looks at and gives.
use Rattle.std.specs.Prelude.{◌≡◌, ℕ, suc, zero, ◌+◌, ◌==◌, Bool, true, false, List, [], ◌∷◌, map, flat_map, filter, fold, Option, Some, None, is_some, Result, Ok, Err}
use Rattle.std.specs.Option.{option_map_or, unwrap_or}
use Rattle.std.specs.List.{list_any}
use Rattle.std.specs.Map.{keys_of}
use Rattle.eb_schema.specs.declared.rows.Cell.{Cell}
use Rattle.eb_schema.specs.Rows.{put_cell}
use Rattle.eb_scene.specs.declared.keys.Key.{Key}
use Rattle.eb_scene.specs.declared.objects.Part.{Part}
use Rattle.eb_scene.specs.Answers.{answer}
use Rattle.eb_scene.specs.Projects.{Content, objects_of, object_in, part_of}
use Rattle.eb_rules.specs.declared.plans.BakerPlan.{BakerPlan}
use Rattle.eb_rules.specs.declared.plans.RulesPlan.{RulesPlan}
use Rattle.eb_rules.specs.Bakers.{at_number}
use Rattle.eb_rules.specs.Kept.{Kept}
use Rattle.eb_rules.specs.Meanings.{rules_plan}
use Rattle.eb_rules.specs.Queries.{no_rules}
use Rattle.eb_meaning.specs.Asks.{Asks, AnEnd, End, Through, Broken, done, bind, outcome, asked}
use Rattle.eb_meaning.specs.Statements.{body_acts}
use Rattle.eb_meaning.specs.declared.scopes.Extra.{Extra}
use Rattle.eb_meaning.specs.declared.scopes.Scope.{Scope}
use Rattle.eb_meaning.specs.declared.values.RunFault.{RunFault}
use Rattle.eb_eval.specs.declared.ids.RunId.{RunId}
use Rattle.eb_eval.specs.declared.outcomes.Outcome.{Outcome}
use Rattle.eb_eval.specs.declared.outcomes.Outcome.TheVariants.{Made, Fault}
use Rattle.eb_eval.specs.declared.outcomes.Output.{Output}
use Rattle.eb_eval.specs.Copying.{is_copied, copy_asks}
use Rattle.eb_eval.specs.Entities.{own_entity, extra_entity}
use Rattle.eb_eval.specs.Keys.{in_order}
use Rattle.eb_eval.specs.Sights.{own_component, run_sight}

-- ---- bakers

-- what rules are resolved to
unfoldable pub plan_of : Kept → RulesPlan
plan_of rules = unwrap_or (rules_plan rules.schema rules.tree) no_rules

-- the baker of a number, if there is one
abbrev pub baker_of : Kept → ℕ → Option BakerPlan
baker_of rules baker = at_number baker (plan_of rules).bakers

-- ---- which runs there are

-- the components of an object, none where it isn't there
abbrev pub parts_in : Content → ℕ → ℕ → List Part
parts_in g s n = option_map_or (λ o. o.components) (object_in g s n) []

-- whether a baker bakes an object with these components: it has the baker's type
abbrev pub bakes : Option BakerPlan → List Part → Bool
bakes None parts = false
bakes (Some x) parts = is_some (part_of parts x.authoring)

-- the copy baker bakes an object with a component that is copied
abbrev pub bakes_where : Bool → Kept → ℕ → List Part → Bool
bakes_where true rules baker parts = list_any (λ p. is_copied rules.schema p.kind) parts
bakes_where false rules baker parts = bakes (baker_of rules baker) parts

-- whether a project has a run
abbrev pub is_run : Kept → Content → RunId → Bool
is_run rules g id = bakes_where (id.baker == 0) rules id.baker (parts_in g id.scene id.object)

abbrev pub IsRun : Kept → Content → RunId → Type 0
IsRun rules g id = is_run rules g id ≡ true

abbrev pub id_of : ℕ → ℕ → ℕ → RunId
id_of s n baker = record { scene = s; object = n; baker = baker }

-- so many numbers from this one on
unfoldable pub numbers_from : ℕ → ℕ → List ℕ
numbers_from n zero = []
numbers_from n (suc more) = n ∷ numbers_from (n + 1) more

-- how many bakers there may be: the copy baker and the bakers 1 to 64
unfoldable pub most_bakers : ℕ
most_bakers = 65

abbrev pub all_bakers : List ℕ
all_bakers = numbers_from 0 most_bakers

-- the runs of an object by these bakers
abbrev pub runs_by : Kept → Content → ℕ → ℕ → List ℕ → List RunId
runs_by rules g s n bakers = filter (is_run rules g) (map (id_of s n) bakers)

-- the runs of an object, ascending by baker
abbrev pub object_runs : Kept → Content → ℕ → ℕ → List RunId
object_runs rules g s n = runs_by rules g s n all_bakers

abbrev pub scene_runs : Kept → Content → ℕ → List RunId
scene_runs rules g s = flat_map (object_runs rules g s) (keys_of (objects_of g s))

-- the runs of a project, ascending by scene, object and baker
abbrev pub runs_of : Kept → Content → List RunId
runs_of rules g = flat_map (scene_runs rules g) (keys_of g.scenes)

-- ---- what a run looks at

abbrev pub nothing : Scope
nothing = record { names = []; own = []; extras = [] }

-- first the object's component of the baker's type, and then the statements
abbrev pub baker_asks : RunId → Option BakerPlan → Asks AnEnd
baker_asks id None = done (Through nothing)
baker_asks id (Some x) = bind (own_component id x.authoring) (λ a. body_acts (run_sight id x.authoring) x.body nothing)

abbrev pub asks_where : Bool → Kept → RunId → Asks AnEnd
asks_where true rules id = copy_asks rules.schema id
asks_where false rules id = baker_asks id (baker_of rules id.baker)

-- what a run does, written down before it looks at any project
abbrev pub run_asks : Kept → RunId → Asks AnEnd
run_asks rules id = asks_where (id.baker == 0) rules id

-- its reads: the keys that it looks at, found or not, up to its fault, ascending, each once
abbrev pub reads_of_run : Content → Kept → RunId → List Key
reads_of_run g rules id = in_order (asked (answer g) (run_asks rules id))

-- ---- what a run gives

-- the row of these cells: a later one of a type replaces an earlier one
abbrev pub row_of : List Cell → List Cell
row_of cells = fold put_cell [] cells

abbrev pub extra_output : RunId → Extra → Output
extra_output id x = record { name = extra_entity id x.number; row = row_of x.cells }

-- the object's own entity, and the extras that were reached
abbrev pub outputs : RunId → Scope → List Output
outputs id scope = record { name = own_entity id.scene id.object; row = row_of scope.own } ∷ map (extra_output id) scope.extras

-- nothing where there is a fault
abbrev pub outcome_of : RunId → Result End RunFault → Outcome
outcome_of id (Ok (Through scope)) = Made (outputs id scope)
outcome_of id (Ok (Broken scope e)) = Fault e
outcome_of id (Err e) = Fault e

abbrev pub outcome_of_run : Content → Kept → RunId → Outcome
outcome_of_run g rules id = outcome_of id (outcome (answer g) (run_asks rules id))
