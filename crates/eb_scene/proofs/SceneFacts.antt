-- An edit of one scene is an edit of the project.
use Rattle.std.proofs.Common.{◌≡◌, ℕ, Some, Result, Ok, Err, refl, sym, ap, ◌∙◌}
use Rattle.std.specs.Prelude.{OnErr}
use Rattle.std.specs.Map.{set_value}
use Rattle.std.specs.BTreeMap.{is_at}
use Rattle.std.specs.Ordering.{nat_cmp}
use Rattle.std.proofs.lemmas.Map.Steps.{set_value_same}
use Rattle.eb_scene.specs.declared.edits.EditFault.{EditFault}
use Rattle.eb_scene.specs.declared.edits.EditFault.TheVariants as fault
use Rattle.eb_scene.specs.Projects.{Content, Numbered, Objects, numbered}
use Rattle.eb_scene.specs.Fits.{Refuses}
use Rattle.eb_scene.specs.Edits.{Tells, put_scene, on_scene, on_scene_at}

-- a refusal that is passed on by f stays one
pub refuses_on : {S T : Type 0} (f : Result S EditFault → Result T EditFault) → ((e : EditFault) → f (Err e) ≡ Err e) → (e : EditFault) (r : Result S EditFault) → Refuses e r → Refuses e (f r)
refuses_on f passes fault.Memory r h = tt
refuses_on f passes e r h = ap f h ∙ passes e

pub scene_told : {T : Type 0} (g : Content) (s : ℕ) (f : Objects → Result Objects EditFault) (result : Result T EditFault) (es new : Objects) (scenes : Numbered Objects)
    → numbered g.scenes s ≡ Some es → scenes ≡ set_value (is_at (nat_cmp s)) g.scenes new → Tells result es new (f es)
    → Tells result g (record g { scenes = scenes }) (on_scene g s f)
scene_told g s f (Ok t) es new scenes there set told =
    ap (on_scene_at g s f) there ∙ ap (put_scene g s) told ∙ ap (λ w. Ok (record g { scenes = w })) (sym set)
scene_told g s f (Err e) es new scenes there set told =
    let same : scenes ≡ g.scenes = set ∙ ap (set_value (is_at (nat_cmp s)) g.scenes) told.0 ∙ set_value_same (is_at (nat_cmp s)) g.scenes es there in (
      ap (λ w. record g { scenes = w }) same,
      rw there (refuses_on (put_scene g s) (λ e. refl) e (f es) told.1),
    )

-- what is written back after a refusal is what was there
pub err_told : {X T E : Type 0} (r : Result T E) (es entries : Numbered X) (n : ℕ) (old new : X) → numbered es n ≡ Some old → entries ≡ set_value (is_at (nat_cmp n)) es new → OnErr r (new ≡ old) → OnErr r (entries ≡ es)
err_told (Ok t) es entries n old new there set same = tt
err_told (Err e) es entries n old new there set same = set ∙ ap (set_value (is_at (nat_cmp n)) es) same ∙ set_value_same (is_at (nat_cmp n)) es old there
