-- An object's runs brought together: its own entity, its extra entities, and what was left out. The runs of an object are
-- ascending by baker everywhere here.
use Rattle.std.specs.Prelude.{ℕ, ◌==◌, Bool, cond, List, [], ◌∷◌, ◌++◌, fold, flat_map}
use Rattle.std.specs.FinMap.{insert, empty}
use Rattle.eb_base.specs.declared.names.Name.{Name}
use Rattle.eb_base.specs.declared.names.Place.{Place}
use Rattle.eb_schema.specs.BakedEntities.{Entities, baked_entity}
use Rattle.eb_schema.specs.declared.rows.Cell.{Cell}
use Rattle.eb_eval.specs.declared.ids.RunId.{RunId}
use Rattle.eb_eval.specs.declared.issues.Issue.{Issue}
use Rattle.eb_eval.specs.declared.issues.Issue.TheVariants as issue
use Rattle.eb_eval.specs.declared.outcomes.Outcome.{Outcome}
use Rattle.eb_eval.specs.declared.outcomes.Outcome.TheVariants as outcome
use Rattle.eb_eval.specs.declared.outcomes.Output.{Output}
use Rattle.eb_eval.specs.Ran.{Ran}
use Rattle.eb_merge.specs.declared.merging.Merged.{Merged}
use Rattle.eb_merge.specs.declared.own_cells.Standing.{Standing}
use Rattle.eb_merge.specs.Standing.{with_gift, row_of, duplicates_of, too_many_of}

-- a run and what came of it
abbrev pub IdRun : Type 0
IdRun = RunId × Ran

-- what a run gives: nothing where it has a fault
abbrev pub outputs_of : Outcome → List Output
outputs_of (outcome.Made outputs) = outputs
outputs_of (outcome.Fault e) = []

-- whether an output is of the object's own entity; each other one is of an extra, whose number is of one baker alone
abbrev pub is_own : Output → Bool
is_own x = x.name.extra == 0

-- ---- the own entity

abbrev pub own_after_output : ℕ → List Standing → Output → List Standing
own_after_output baker xs x = cond (is_own x) (fold (with_gift baker) xs x.row) xs

abbrev pub own_after_run : List Standing → IdRun → List Standing
own_after_run xs r = fold (own_after_output r.0.baker) xs (outputs_of r.1.outcome)

-- the components that stand on the object's own entity
abbrev pub own_standing : List IdRun → List Standing
own_standing runs = fold own_after_run [] runs

-- all components that the object's own entity is given, in the order of the runs
abbrev pub own_cells : Output → List Cell
own_cells x = cond (is_own x) x.row []

abbrev pub given_cells : List IdRun → List Cell
given_cells runs = flat_map (λ r. flat_map own_cells (outputs_of r.1.outcome)) runs

-- ---- extras and faults

abbrev pub with_extra : Place → Entities → Output → Entities
with_extra place all x = cond (is_own x) all (insert all x.name (baked_entity place x.row))

abbrev pub with_extras : Place → Entities → Ran → Entities
with_extras place all r = fold (with_extra place) all (outputs_of r.outcome)

abbrev pub fault_in : RunId → Outcome → List Issue
fault_in id (outcome.Made outputs) = []
fault_in id (outcome.Fault e) = issue.Fault id e ∷ []

-- the fault of a run, if it has one
abbrev pub fault_of : IdRun → List Issue
fault_of r = fault_in r.0 r.1.outcome

-- ---- objects behind others

-- what was merged, with an own entity, whose row may be empty
abbrev pub with_own : Merged → Name → Place → List Standing → Merged
with_own m own place xs = record {
  entities = insert m.entities own (baked_entity place (row_of xs));
  faults = m.faults;
  duplicates = m.duplicates ++ duplicates_of own xs;
  too_many = m.too_many ++ too_many_of own xs;
}

-- with the extras of a run and its fault
abbrev pub with_run : Place → Merged → IdRun → Merged
with_run place m r = record {
  entities = with_extras place m.entities r.1;
  faults = m.faults ++ fault_of r;
  duplicates = m.duplicates;
  too_many = m.too_many;
}

-- with one more object: its own entity and its place, and its runs
abbrev pub with_object : Merged → Name → Place → List IdRun → Merged
with_object m own place runs = fold (with_run place) (with_own m own place (own_standing runs)) runs

-- no object
abbrev pub nothing_merged : Merged
nothing_merged = record { entities = empty; faults = []; duplicates = []; too_many = [] }

-- all that was left out, in the order in which it is listed
abbrev pub issues_of : Merged → List Issue
issues_of m = m.faults ++ m.duplicates ++ m.too_many
