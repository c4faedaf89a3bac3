-- What an edit that isn't refused makes.
use Rattle.std.proofs.Common.{◌≡◌, ℕ, ◌+◌, length, List, [], ◌∷◌, Bool, true, false, ◌&&◌, not, cond, nat_lt, nat_le, Option, Some, None, is_some, Result, Ok, Err, if◌then◌else◌, refl, sym, ap, ◌∙◌, true≢false}
use Rattle.eb_scene.specs.declared.edits.EditFault.{EditFault}
use Rattle.eb_scene.specs.declared.edits.EditFault.TheVariants as fault
use Rattle.eb_scene.specs.Numbers.{has_number}
use Rattle.eb_scene.specs.Projects.{Content, Objects, numbered}
use Rattle.eb_scene.specs.Trees.{height, subtree, without_all}
use Rattle.eb_scene.specs.Projects.{most_depth, above}
use Rattle.eb_scene.specs.Tables.{with_numbered, changed}
use Rattle.eb_scene.specs.Edits.{put_scene, on_scene, on_scene_at, object_added, section_set, parent_set, object_removed, fresh, marked, parented, most_objects, is_past, is_there}
use Rattle.eb_scene.proofs.KeyFacts.{put_at}

-- ---- steps

-- a test that refuses has not
pub refused : {S : Type 0} (b : Bool) (e : EditFault) (r : Result S EditFault) (x : S) → (if b then Err e else r) ≡ Ok x → (b ≡ false) × (r ≡ Ok x)
refused true e r x h = absurd cc
refused false e r x h = (refl, h)

-- what isn't refused
abbrev pub accepted : {S : Type 0} → S → Result S EditFault
accepted x = Ok x

pub told_ok : {S : Type 0} (x y : S) → accepted x ≡ accepted y → y ≡ x
told_ok x y h = cc

pub nothing : {X : Type 0} (r : Option X) → is_some r ≡ false → r ≡ None
nothing None h = refl
nothing (Some x) h = absurd (true≢false h)

pub there : (b : Bool) → not b ≡ false → b ≡ true
there true h = refl
there false h = absurd (true≢false h)

-- ---- a scene

-- a change f of the objects of a scene that is there
pub record InScene (g h : Content) (s : ℕ) (f : Objects → Result Objects EditFault) : Type 0 where
  pub old : Objects
  pub new : Objects
  pub found : numbered g.scenes s ≡ Some old
  pub done : f old ≡ Ok new
  pub is : h ≡ put_at g s new

in_found : (g h : Content) (s : ℕ) (f : Objects → Result Objects EditFault) (es : Objects) (r : Result Objects EditFault) → numbered g.scenes s ≡ Some es → f es ≡ r → put_scene g s r ≡ Ok h → InScene g h s f
in_found g h s f es (Ok new) found done is = record { old = es; new = new; found = found; done = done; is = told_ok (put_at g s new) h is }
in_found g h s f es (Err e) found done is = absurd cc

in_scene_at : (g h : Content) (s : ℕ) (f : Objects → Result Objects EditFault) (r : Option Objects) → numbered g.scenes s ≡ r → on_scene_at g s f r ≡ Ok h → InScene g h s f
in_scene_at g h s f None found is = absurd cc
in_scene_at g h s f (Some es) found is = in_found g h s f es (f es) found refl is

pub in_scene : (g h : Content) (s : ℕ) (f : Objects → Result Objects EditFault) → on_scene g s f ≡ Ok h → InScene g h s f
in_scene g h s f is = in_scene_at g h s f (numbered g.scenes s) refl is

-- ---- objects

pub added_is : (es new : Objects) (n : ℕ) (parent mark : Option ℕ) → object_added es n parent mark ≡ Ok new → (numbered es n ≡ None) × (new ≡ with_numbered es n (fresh n parent mark))
added_is es new n parent mark h =
    let a = refused (is_some (numbered es n)) fault.ObjectTaken _ new h in
    let b = refused (not (is_there es parent)) fault.NoParent _ new a.1 in
    let c = refused (nat_le most_objects (length es)) fault.ObjectLimit _ new b.1 in
    let d = refused (nat_le most_depth (length (above most_depth es parent))) fault.DepthLimit _ new c.1 in
    let e = refused (is_past mark) fault.SectionRange _ new d.1 in
    (nothing (numbered es n) a.0, told_ok (with_numbered es n (fresh n parent mark)) new e.1)

pub section_is : (es new : Objects) (n : ℕ) (mark : Option ℕ) → section_set es n mark ≡ Ok new → new ≡ changed (marked mark) es n
section_is es new n mark h =
    let a = refused (not (is_some (numbered es n))) fault.NoObject _ new h in
    let b = refused (is_past mark) fault.SectionRange _ new a.1 in
    told_ok (changed (marked mark) es n) new b.1

pub parent_is : (es new : Objects) (n : ℕ) (parent : Option ℕ) → parent_set es n parent ≡ Ok new → new ≡ changed (parented parent) es n
parent_is es new n parent h =
    let a = refused (not (is_some (numbered es n))) fault.NoObject _ new h in
    let b = refused (not (is_there es parent)) fault.NoParent _ new a.1 in
    let c = refused (has_number (above most_depth es parent) n) fault.Cycle _ new b.1 in
    let d = refused (nat_lt most_depth (length (above most_depth es parent) + height most_depth es (n ∷ []))) fault.DepthLimit _ new c.1 in
    told_ok (changed (parented parent) es n) new d.1

pub removed_is : (es new : Objects) (n : ℕ) → object_removed es n ≡ Ok new → new ≡ without_all es (subtree most_depth es (n ∷ []))
removed_is es new n h =
    let a = refused (not (is_some (numbered es n))) fault.NoObject _ new h in
    told_ok (without_all es (subtree most_depth es (n ∷ []))) new a.1
