-- What an edit makes anew, where all runs are kept of the project before it.
use Rattle.std.proofs.Common.{◌≡◌, ℕ, List, length, ap, ◌∙◌, Bool, false}
use Rattle.std.specs.Prelude.{Ok}
use Rattle.std.specs.FinMap.{len}
use Rattle.eb_scene.specs.declared.edits.Edit.{Edit}
use Rattle.eb_scene.specs.declared.keys.Key.{Key}
use Rattle.eb_scene.specs.Edits.{edited}
use Rattle.eb_scene.specs.Projects.{Content}
use Rattle.eb_scene.specs.Touched.{touched}
use Rattle.eb_scene.specs.Validity.{IsValid}
use Rattle.eb_scene.proofs.ValidEdits.{valid_ascends}
use Rattle.eb_rules.specs.Kept.{Kept}
use Rattle.eb_eval.specs.declared.ids.RunId.{RunId}
use Rattle.eb_record.specs.Records as records
use Rattle.eb_rerun.specs.Again.{again, scene_gone}
use Rattle.eb_rerun.specs.Recorded.{recorded, rerun}
use Rattle.eb_rerun.proofs.Ascending.{run_count}
use Rattle.eb_rerun.proofs.Renewals.{again_is}
use Rattle.eb_system.specs.Staged.{Stage}
use Rattle.eb_bake.specs.Baking.{IsBake, IsRebaked, staged_of}
use Rattle.eb_bake.specs.Changed.{changed_names}
use Rattle.eb_bake.specs.declared.renewing.Bake.{Bake}
use Rattle.eb_bake.specs.declared.renewing.Rebaked.{Rebaked}

again_told : (rules : Kept) (g h : Content) (e : Edit) (kept : records.Kept) (gone : List (ℕ × ℕ)) (keys : List Key)
    → IsValid g → edited g e ≡ Ok h → kept ≡ recorded rules g → gone ≡ scene_gone g e → keys ≡ touched g e
    → length (again kept rules h gone keys) ≡ length (rerun rules g e h)
again_told rules g h e kept gone keys valid is runs objects touches =
    ap (λ (k : records.Kept). length (again k rules h gone keys)) runs
    ∙ ap (λ (os : List (ℕ × ℕ)). length (again (recorded rules g) rules h os keys)) objects
    ∙ ap (λ (ks : List Key). length (again (recorded rules g) rules h (scene_gone g e) ks)) touches
    ∙ ap (λ (ids : List RunId). length ids) (again_is rules g h e valid is)

-- what is answered to an edit, of what the runs that are kept answer
pub rebaked_told : (done : Rebaked) (spent : Bool) (rules : Kept) (g h : Content) (e : Edit) (before after : Bake) (gone : List (ℕ × ℕ)) (keys : List Key)
    → IsValid g → IsValid h → edited g e ≡ Ok h → IsBake rules g before → IsBake rules h after → gone ≡ scene_gone g e → keys ≡ touched g e
    → done.rerun ≡ length (again before.runs rules h gone keys) → done.runs ≡ len (recorded rules h)
    → done.changed ≡ changed_names before.stages.entities after.stages.entities → spent ≡ false
    → IsRebaked done (record { rules = rules; project = g; spent = spent }) (record { rules = rules; project = h; spent = spent }) e
rebaked_told done spent rules g h e before after gone keys valid valid_after is old new objects touches reruns runs changes live = record {
  project = is;
  rerun = reruns ∙ again_told rules g h e before.runs gone keys valid is old.runs objects touches;
  runs = runs ∙ run_count rules h (valid_ascends h valid_after);
  changed = changes ∙ ap (λ (s : Stage). changed_names s.entities after.stages.entities) old.stages
      ∙ ap (λ (s : Stage). changed_names (staged_of rules g).entities s.entities) new.stages;
  live = live;
}
