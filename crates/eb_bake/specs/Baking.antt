-- What rules make of a project, and what an edit makes anew.
use Rattle.std.specs.Prelude.{◌≡◌, ⊤, ℕ, ◌+◌, Bool, true, false, List, ◌++◌, length, map, fold, Result, Ok, Err, refl}
use Rattle.std.specs.Coded.{Coded, code_by, coded×, coded_bool}
use Rattle.std.specs.Option.{unwrap_or}
use Rattle.eb_base.specs.declared.names.Place.{Place}
use Rattle.eb_scene.specs.declared.edits.Edit.{Edit}
use Rattle.eb_scene.specs.declared.edits.EditFault.{EditFault}
use Rattle.eb_scene.specs.declared.edits.EditFault.TheVariants as edit_fault
use Rattle.eb_scene.specs.Edits.{edited}
use Rattle.eb_scene.specs.Projects.{Content, section_in}
use Rattle.eb_scene.specs.contracts.projects.Project as project
use Rattle.eb_rules.specs.Kept.{Kept, coded_kept}
use Rattle.eb_eval.specs.Entities.{own_entity}
use Rattle.eb_eval.specs.Runs.{object_runs, runs_of}
use Rattle.eb_eval.specs.declared.issues.Issue.{Issue}
use Rattle.eb_merge.specs.Objects.{IdRun, with_object, nothing_merged}
use Rattle.eb_merge.specs.Objects as merging
use Rattle.eb_merge.specs.declared.merging.Merged.{Merged}
use Rattle.eb_rerun.specs.Recorded.{objects_in, ran_of, recorded, rerun}
use Rattle.eb_system.specs.Staged.{Stage}
use Rattle.eb_system.specs.Stages.{staged}
use Rattle.eb_bake.specs.Changed.{changed_names}
use Rattle.eb_bake.specs.declared.renewing.Bake.{Bake}
use Rattle.eb_bake.specs.declared.bakers.BakerFault.{BakerFault}
use Rattle.eb_bake.specs.declared.bakers.BakerFault.TheVariants as fault
use Rattle.eb_bake.specs.declared.renewing.Rebaked.{Rebaked}

-- ---- baking from nothing

-- the section that the entities of an object lie in
abbrev pub place_of : Content → ℕ × ℕ → Place
place_of g o = record { scene = o.0; section = unwrap_or (section_in g o.0 o.1) 0 }

-- the runs of an object, ascending by baker, and what came of each
abbrev pub runs_at : Kept → Content → ℕ × ℕ → List IdRun
runs_at rules g o = map (λ id. (id, ran_of rules g id)) (object_runs rules g o.0 o.1)

-- what was merged, with one more object
unfoldable pub with_object_of : Kept → Content → Merged → ℕ × ℕ → Merged
with_object_of rules g m o = with_object m (own_entity o.0 o.1) (place_of g o) (runs_at rules g o)

-- what the runs of a project give together, object by object
abbrev pub merged_of : Kept → Content → Merged
merged_of rules g = fold (with_object_of rules g) nothing_merged (objects_in g)

-- the entities after all systems, and what the systems left out
unfoldable pub staged_of : Kept → Content → Stage
staged_of rules g = staged rules (merged_of rules g).entities

-- all that was left out, in the order in which it is listed
unfoldable pub issues_of : Kept → Content → List Issue
issues_of rules g = merging.issues_of (merged_of rules g) ++ (staged_of rules g).issues

-- ---- a baker

-- what contracts see of a baker
pub record Bakery : Type 0 where
  pub rules : Kept
  pub project : Content
  pub spent : Bool

abbrev pub coded_bakery : Coded Bakery
coded_bakery = code_by (Kept × (Content × Bool)) (coded× coded_kept (coded× project.the_row.coded coded_bool))
    (λ b. (b.rules, (b.project, b.spent))) (λ p. record { rules = p.0; project = p.1.0; spent = p.1.1 }) (λ _. refl)

abbrev pub bakery : Kept → Content → Bakery
bakery rules project = record { rules = rules; project = project; spent = false }

-- what a baker keeps beside its project
pub record IsBake (rules : Kept) (g : Content) (bake : Bake) : Type 0 where
  pub runs : bake.runs ≡ recorded rules g
  pub stages : bake.stages ≡ staged_of rules g
  pub issues : bake.issues ≡ issues_of rules g

-- ---- an edit

pub record IsRebaked (done : Rebaked) (g h : Bakery) (e : Edit) : Type 0 where
  pub project : edited g.project e ≡ Ok h.project
  pub rerun : done.rerun ≡ length (rerun g.rules g.project e h.project)
  pub runs : done.runs ≡ length (runs_of h.rules h.project)
  pub changed : done.changed ≡ changed_names (staged_of g.rules g.project).entities (staged_of h.rules h.project).entities
  pub live : h.spent ≡ false

abbrev pub is_memory : EditFault → Bool
is_memory edit_fault.Memory = true
is_memory refusal = false

-- why a baker doesn't do an edit that its project refuses
abbrev pub fault_of : EditFault → BakerFault
fault_of edit_fault.Memory = fault.Memory
fault_of refusal = fault.Edit refusal

-- what was made anew; or the refusal, which changes nothing; or want of memory, which spends the baker
abbrev pub Rebakes : Result Rebaked BakerFault → Bakery → Bakery → Edit → Type 0
Rebakes (Ok done) g h e = IsRebaked done g h e
Rebakes (Err fault.Memory) g h e = h.spent ≡ true
Rebakes (Err (fault.Edit edit_fault.Memory)) g h e = ⊥
Rebakes (Err (fault.Edit refusal)) g h e = (h ≡ g) × (edited g.project e ≡ Err refusal)

-- the runs that were evaluated are counted; a refusal evaluates none
abbrev pub Counts : Result Rebaked BakerFault → ℕ → ℕ → Type 0
Counts (Ok done) before after = after ≡ before + done.rerun
Counts (Err fault.Memory) before after = ⊤
Counts (Err (fault.Edit refusal)) before after = after ≡ before
