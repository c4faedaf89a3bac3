-- After each call on a project it is a valid one.
use Rattle.std.proofs.Common.{◌≡◌, ℕ, Result, Ok, Err, Some, sym, subst}
use Rattle.std.specs.Map.{set_value}
use Rattle.std.specs.BTreeMap.{is_at}
use Rattle.std.specs.Ordering.{nat_cmp}
use Rattle.eb_scene.specs.declared.edits.EditFault.{EditFault}
use Rattle.eb_scene.specs.Projects.{Content, Numbered, Objects, numbered}
use Rattle.eb_scene.specs.Edits.{Tells, on_scene}
use Rattle.eb_scene.specs.Validity.{IsScene, IsValid}
use Rattle.eb_scene.proofs.SceneFacts.{scene_told}
use Rattle.eb_scene.proofs.ValidEdits.{on_valid}

pub told_valid : {T : Type 0} (g h : Content) (want : Result Content EditFault) (result : Result T EditFault) → IsValid g → ((k : Content) → want ≡ Ok k → IsValid k) → Tells result g h want → IsValid h
told_valid g h want (Ok t) valid kept told = kept h told
told_valid g h want (Err e) valid kept told = subst IsValid (sym told.0) valid

pub scene_valid : {T : Type 0} (g : Content) (valid : IsValid g) (s : ℕ) (f : Objects → Result Objects EditFault) → ((es fs : Objects) → IsScene g.schema es → f es ≡ Ok fs → IsScene g.schema fs)
    → (result : Result T EditFault) (es new : Objects) (scenes : Numbered Objects) → numbered g.scenes s ≡ Some es → scenes ≡ set_value (is_at (nat_cmp s)) g.scenes new → Tells result es new (f es)
    → IsValid (record g { scenes = scenes })
scene_valid g valid s f kept result es new scenes there set told =
    told_valid g (record g { scenes = scenes }) (on_scene g s f) result valid (λ k is. on_valid g valid s f k kept is) (scene_told g s f result es new scenes there set told)
