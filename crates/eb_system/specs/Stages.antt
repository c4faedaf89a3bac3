-- What one system does, and all systems one after the other.
use Rattle.std.specs.Prelude.{ℕ, Bool, true, false, cond, List, [], ◌∷◌, ◌++◌, map, fold, flat_map, Option, Some, None, Result, Ok, Err}
use Rattle.std.specs.FinMap.{entries, insert}
use Rattle.eb_base.specs.declared.names.Name.{Name}
use Rattle.eb_schema.specs.BakedEntities.{Entities, baked_entity}
use Rattle.eb_schema.specs.declared.baked.BakedEntity.{BakedEntity}
use Rattle.eb_schema.specs.declared.rows.Cell.{Cell}
use Rattle.eb_schema.specs.Rows.{put_cell, takes_cell}
use Rattle.eb_scene.specs.Answers.{There}
use Rattle.eb_scene.specs.Numbers.{with_number}
use Rattle.eb_rules.specs.Kept.{Kept}
use Rattle.eb_rules.specs.declared.plans.Step.{Step}
use Rattle.eb_rules.specs.declared.plans.SystemPlan.{SystemPlan}
use Rattle.eb_meaning.specs.Asks.{Answers, End, Through, Broken, Sight, outcome}
use Rattle.eb_meaning.specs.Statements.{body_acts}
use Rattle.eb_meaning.specs.declared.values.RunFault.{RunFault}
use Rattle.eb_eval.specs.declared.issues.Issue.{Issue}
use Rattle.eb_eval.specs.declared.issues.Issue.TheVariants as issue
use Rattle.eb_eval.specs.Runs.{nothing, plan_of}
use Rattle.eb_system.specs.declared.changes.Change.{Change}
use Rattle.eb_system.specs.declared.filling.Filled.{Filled}
use Rattle.eb_system.specs.declared.turns.Turn.{Turn}
use Rattle.eb_system.specs.Matching.{matches}
use Rattle.eb_system.specs.Sights.{system_sight}
use Rattle.eb_system.specs.Staged.{Stage}

-- ---- what is added to a row

abbrev pub unless_taken : Bool → List ℕ → ℕ → List ℕ
unless_taken true left kind = left
unless_taken false left kind = with_number left kind

-- with one more component, or its type among those that found no room
abbrev pub with_added : Filled → Cell → Filled
with_added x c = record { row = put_cell x.row c; left = unless_taken (takes_cell x.row c) x.left c.kind }

-- A row and the components that were added, in their order: a later one of a type replaces an earlier one. Each new type
-- beyond 32 is left out.
abbrev pub filled : List Cell → List Cell → Filled
filled row added = fold with_added (record { row = row; left = [] }) added

-- ---- one entity

-- no read of a system asks after a key
abbrev pub no_answers : Answers
no_answers k = There false

-- the components that were added, in the order of evaluation, up to the fault if there is one
abbrev pub turn_of : Result End RunFault → Turn
turn_of (Ok (Through scope)) = record { added = scope.own; fault = None }
turn_of (Ok (Broken scope e)) = record { added = scope.own; fault = Some e }
turn_of (Err e) = record { added = []; fault = Some e }

-- what statements come to under what they see
abbrev pub turn_under : Sight → List Step → Turn
turn_under s body = turn_of (outcome no_answers (body_acts s body nothing))

-- the statements of a system on an entity, where these are all entities before it
abbrev pub turn : Entities → SystemPlan → Name × BakedEntity → Turn
turn all x e = turn_under (system_sight all e.0 e.1.row) x.body

-- the entity's new row, where something was added and there is no fault
abbrev pub new_rows : Name × BakedEntity → List Cell → Option RunFault → List Change
new_rows e added (Some fault) = []
new_rows e [] None = []
new_rows e (c ∷ cs) None = record { name = e.0; place = e.1.place; row = (filled e.1.row (c ∷ cs)).row } ∷ []

abbrev pub fault_issues : ℕ → Name → Option RunFault → List Issue
fault_issues number name None = []
fault_issues number name (Some fault) = issue.System number name fault ∷ []

abbrev pub changes_by : Name × BakedEntity → Turn → List Change
changes_by e t = new_rows e t.added t.fault

-- the fault, and then the types that were left out, ascending, also those before a fault
abbrev pub left_out : ℕ → Name → Option RunFault → List ℕ → List Issue
left_out number name fault left = fault_issues number name fault ++ map (issue.SystemTooMany number name) left

abbrev pub issues_by : ℕ → Name × BakedEntity → Turn → List Issue
issues_by number e t = left_out number e.0 t.fault (filled e.1.row t.added).left

-- ---- one system

-- what a system changes at an entity: nothing that its query doesn't match
abbrev pub changes_at : Entities → SystemPlan → Name × BakedEntity → List Change
changes_at all x e = cond (matches x.query e.1.row) (changes_by e (turn all x e)) []

abbrev pub issues_at : Entities → SystemPlan → Name × BakedEntity → List Issue
issues_at all x e = cond (matches x.query e.1.row) (issues_by x.number e (turn all x e)) []

abbrev pub with_change : Entities → Change → Entities
with_change all x = insert all x.name (baked_entity x.place x.row)

-- after a system, each of whose evaluations saw the entities as they were before it
abbrev pub after_system : Stage → SystemPlan → Stage
after_system s x = record {
  entities = fold with_change s.entities (flat_map (changes_at s.entities x) (entries s.entities));
  issues = s.issues ++ flat_map (issues_at s.entities x) (entries s.entities);
}

-- ---- all systems

abbrev pub after_slot : Stage → Option SystemPlan → Stage
after_slot s None = s
after_slot s (Some x) = after_system s x

-- the systems of rules in ascending number, from the entities that were merged
unfoldable pub staged : Kept → Entities → Stage
staged rules merged = fold after_slot (record { entities = merged; issues = [] }) (plan_of rules).systems
