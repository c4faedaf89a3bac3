-- The runs around what an edit touched: all that objects near it may have.
use Rattle.std.proofs.Common.{◌≡◌, ℕ, zero, suc, ◌-◌, Bool, true, false, nat_eq, List, [], ◌∷◌, ◌++◌, length, Option, Some, None, refl, sym, ap, ◌∙◌, fold}
use Rattle.std.specs.Prelude.{◌&&◌, ◌||◌, slice_get}
use Rattle.std.specs.List.{list_any}
use Rattle.std.proofs.lemmas.List.Folds.{list_any-append}
use Rattle.eb_base.specs.declared.names.Name.{Name}
use Rattle.eb_scene.specs.Numbers.{has_number}
use Rattle.eb_scene.specs.Projects.{Content}
use Rattle.eb_scene.specs.Touched.{touched}
use Rattle.eb_scene.specs.declared.edits.Edit.{Edit}
use Rattle.eb_scene.specs.declared.keys.Key.{Key}
use Rattle.eb_scene.specs.declared.keys.Key.TheVariants.{Comp, Parent, Children, Exists, Asset}
use Rattle.eb_scene.proofs.LookUps.{equal, turned}
use Rattle.eb_eval.specs.Runs.{all_bakers, id_of}
use Rattle.eb_rerun.specs.Again.{around, is_last, is_near, is_of, last_of, object_of, objects_of_keys, put_unless, runs_around, scene_gone, with_object}
use Rattle.eb_rerun.specs.Recorded.{is_listed}
use Rattle.eb_rerun.proofs.Folded.{is_at}
use Rattle.eb_rerun.proofs.Recorded.{any_flat, any_map, at_run, no_more, one_number}

-- ---- the objects that keys are of

module _ (s n : ℕ) where
  abbrev is_it : ℕ × ℕ → Bool
  is_it o = nat_eq o.0 s && nat_eq o.1 n

  abbrev is_it_if : Option (ℕ × ℕ) → Bool
  is_it_if None = false
  is_it_if (Some o) = is_it o

  is_there : (os : List (ℕ × ℕ)) (i : ℕ) (o : ℕ × ℕ) → slice_get os i ≡ Some o → is_it o ≡ true → list_any is_it os ≡ true
  is_there [] i o at is = absurd (no at) where
    no : None ≡ Some o → ⊥
    no h = cc
  is_there (p ∷ os) zero o at is = ap (λ b. b || list_any is_it os) (ap is_it_if at ∙ is)
  is_there (p ∷ os) (suc i) o at is = ap (λ b. is_it p || b) (is_there os i o at is) ∙ either (is_it p) where
    either : (b : Bool) → (b || true) ≡ true
    either true = refl
    either false = refl

  two : (a b : Bool) → (a && b) ≡ true → (a ≡ true) × (b ≡ true)
  two true b h = (refl, h)
  two false b h = absurd (no h) where
    no : false ≡ true → ⊥
    no i = cc

  same_pair : (p o : ℕ × ℕ) → (nat_eq p.0 o.0 && nat_eq p.1 o.1) ≡ true → p ≡ o
  same_pair p o h = let hs = two (nat_eq p.0 o.0) (nat_eq p.1 o.1) h in λ i. (equal p.0 o.0 hs.0 i, equal p.1 o.1 hs.1 i)

  last_there : (last : Option (ℕ × ℕ)) (os : List (ℕ × ℕ)) (i : ℕ) (o : ℕ × ℕ) → slice_get os i ≡ last → is_last last o ≡ true → is_it o ≡ true → list_any is_it os ≡ true
  last_there None os i o at last is = absurd (no last) where
    no : false ≡ true → ⊥
    no h = cc
  last_there (Some p) os i o at last is = is_there os i p at (ap is_it (same_pair p o last) ∙ is)

  put_tested : (b it any : Bool) (os : List (ℕ × ℕ)) (o : ℕ × ℕ) → is_last (last_of os) o ≡ b → is_it o ≡ it → list_any is_it os ≡ any
      → list_any is_it (put_unless b os o) ≡ (any || it)
  put_tested true true any os o last is all = last_there (last_of os) os (length os - 1) o refl last is ∙ either any where
    either : (b : Bool) → true ≡ (b || true)
    either true = refl
    either false = refl
  put_tested true false any os o last is all = all ∙ either any where
    either : (b : Bool) → b ≡ (b || false)
    either true = refl
    either false = refl
  put_tested false it any os o last is all =
      list_any-append is_it os (o ∷ []) ∙ ap (λ x. x || (is_it o || false)) all ∙ ap (λ x. any || (x || false)) is ∙ ap (λ x. any || x) (or_false it) where
        or_false : (b : Bool) → (b || false) ≡ b
        or_false true = refl
        or_false false = refl

  one_tested_more : (os : List (ℕ × ℕ)) (o : Option (ℕ × ℕ)) → list_any is_it (with_object os o) ≡ (list_any is_it os || is_it_if o)
  one_tested_more os None = or_false (list_any is_it os) where
    or_false : (b : Bool) → b ≡ (b || false)
    or_false true = refl
    or_false false = refl
  one_tested_more os (Some o) = put_tested (is_last (last_of os) o) (is_it o) (list_any is_it os) os o refl refl refl

  key_tested : (k : Key) → is_it_if (object_of k) ≡ is_of s n k
  key_tested (Comp t m kind) = refl
  key_tested (Parent t m) = refl
  key_tested (Children t m) = refl
  key_tested (Exists t m) = refl
  key_tested (Asset m) = refl

  keys_tested : (keys : List Key) (os : List (ℕ × ℕ)) → list_any is_it (fold (λ os k. with_object os (object_of k)) os keys) ≡ (list_any is_it os || list_any (is_of s n) keys)
  keys_tested [] os = or_false (list_any is_it os) where
    or_false : (b : Bool) → b ≡ (b || false)
    or_false true = refl
    or_false false = refl
  keys_tested (k ∷ keys) os =
      keys_tested keys (with_object os (object_of k))
      ∙ ap (λ b. b || list_any (is_of s n) keys) (one_tested_more os (object_of k) ∙ ap (λ b. list_any is_it os || b) (key_tested k))
      ∙ joined (list_any is_it os) (is_of s n k) (list_any (is_of s n) keys) where
        joined : (a b c : Bool) → ((a || b) || c) ≡ (a || (b || c))
        joined true b c = refl
        joined false b c = refl

-- ---- the runs around objects

and_true : (b : Bool) → b ≡ (b && true)
and_true true = refl
and_true false = refl

regrouped : (p s o b : Bool) → (((p && s) && o) && (b && true)) ≡ ((p && b) && (s && o))
regrouped true true true true = refl
regrouped true true true false = refl
regrouped true true false b = sym (no_more b)
regrouped true false o b = sym (no_more b)
regrouped false s o b = refl

any_beside : {X : Type 0} (c : Bool) (p : X → Bool) (xs : List X) → list_any (λ x. c && p x) xs ≡ (c && list_any p xs)
any_beside true p xs = refl
any_beside false p [] = refl
any_beside false p (x ∷ xs) = any_beside false p xs

pub same_tests : {X : Type 0} (p r : X → Bool) → ((x : X) → p x ≡ r x) → (xs : List X) → list_any p xs ≡ list_any r xs
same_tests p r same [] = refl
same_tests p r same (x ∷ xs) = ap (λ b. b || list_any p xs) (same x) ∙ ap (λ b. r x || b) (same_tests p r same xs)

around_object : (q : Name) (o : ℕ × ℕ) → list_any (is_at q) (runs_around o) ≡ (is_listed q && is_it q.scene q.object o)
around_object q o =
    any_map (is_at q) (id_of o.0 o.1) all_bakers
    ∙ one_number q.extra ((nat_eq q.play 0 && nat_eq q.scene o.0) && nat_eq q.object o.1) (λ b. is_at q (id_of o.0 o.1 b)) (λ b. true)
    (λ b. at_run q o.0 o.1 b ∙ and_true (((nat_eq q.play 0 && nat_eq q.scene o.0) && nat_eq q.object o.1) && nat_eq q.extra b)) all_bakers
    ∙ regrouped (nat_eq q.play 0) (nat_eq q.scene o.0) (nat_eq q.object o.1) (has_number all_bakers q.extra)
    ∙ ap (λ b. is_listed q && (b && nat_eq q.object o.1)) (turned q.scene o.0) ∙ ap (λ b. is_listed q && (nat_eq o.0 q.scene && b)) (turned q.object o.1)

-- a name is that of a run around it exactly where it may be that of a run, and of an object near it
pub near_is : (g : Content) (e : Edit) (q : Name) → list_any (is_at q) (around (scene_gone g e) (touched g e)) ≡ (is_listed q && is_near g e q.scene q.object)
near_is g e q =
    let it = is_it q.scene q.object in
    let objects = scene_gone g e ++ objects_of_keys (touched g e) in
    any_flat (is_at q) runs_around objects
    ∙ same_tests (λ o. list_any (is_at q) (runs_around o)) (λ o. is_listed q && it o) (around_object q) objects
    ∙ any_beside (is_listed q) it objects
    ∙ ap (λ b. is_listed q && b) (list_any-append it (scene_gone g e) (objects_of_keys (touched g e))
    ∙ ap (λ b. list_any it (scene_gone g e) || b) (keys_tested q.scene q.object (touched g e) []))
