-- Keys in lists, and what the answer of a key looks at.
use Rattle.std.proofs.Common.{◌≡◌, ℕ, List, [], ◌∷◌, ◌++◌, Bool, true, false, ◌&&◌, ◌||◌, cond, nat_eq, Option, Some, None, option_map, option_and_then, is_some, refl, sym, ap, ◌∙◌, true≢false}
use Rattle.std.specs.Option.{unwrap_or}
use Rattle.std.specs.List.{list_any}
use Rattle.std.specs.Map.{set_value}
use Rattle.std.specs.BTreeMap.{is_at}
use Rattle.std.specs.Ordering.{nat_cmp}
use Rattle.eb_scene.specs.declared.keys.Key.{Key}
use Rattle.eb_scene.specs.declared.keys.Key.TheVariants.{Comp, Parent, Children, Exists, Asset}
use Rattle.eb_scene.specs.Projects.{Content, Objects, numbered, objects_of, part_of, parent_at, children_of}
use Rattle.eb_scene.specs.Answers.{Answer, Values, Above, Below, There, answer, same_key, has_key, has_object_of}
use Rattle.eb_scene.proofs.Children.{either}
use Rattle.eb_scene.proofs.LookUps.{equal, found_set, found_set_apart}

-- ---- tests

or_false : (a b : Bool) → a ≡ false → b ≡ false → (a || b) ≡ false
or_false true b h k = h
or_false false b h k = k

pub second_false : (a b : Bool) → a ≡ true → (a && b) ≡ false → b ≡ false
second_false true b is h = h
second_false false b is h = absurd (true≢false (sym is))

pub others_false : (a b c : Bool) → a ≡ true → (a && b && c) ≡ false → (b && c) ≡ false
others_false true b c is h = h
others_false false b c is h = absurd (true≢false (sym is))

-- ---- keys in lists

pub any_both : {X : Type 0} (test : X → Bool) (xs ys : List X) → list_any test (xs ++ ys) ≡ false → (list_any test xs ≡ false) × (list_any test ys ≡ false)
any_both test [] ys h = (refl, h)
any_both test (x ∷ xs) ys h =
    let parts = either (test x) (list_any test (xs ++ ys)) h in
    let rest = any_both test xs ys parts.1 in
    (or_false (test x) (list_any test xs) parts.0 rest.0, rest.1)

pub has_both : (xs ys : List Key) (k : Key) → has_key (xs ++ ys) k ≡ false → (has_key xs k ≡ false) × (has_key ys k ≡ false)
has_both xs ys k h = any_both (same_key k) xs ys h

-- ---- answers

-- the scene of a key, 0 for an asset
abbrev pub scene_of : Key → ℕ
scene_of (Comp s n kind) = s
scene_of (Parent s n) = s
scene_of (Children s n) = s
scene_of (Exists s n) = s
scene_of (Asset n) = 0

-- what a scene with these objects answers
abbrev pub told : Objects → Key → Answer
told es (Comp s n kind) = Values (option_map (λ p. p.values) (option_and_then (λ o. part_of o.components kind) (numbered es n)))
told es (Parent s n) = Above (parent_at es n)
told es (Children s n) = Below (children_of es n)
told es (Exists s n) = There (is_some (numbered es n))
told es (Asset n) = There false

pub answers_told : (g h : Content) (k : Key) → h.assets ≡ g.assets → told (objects_of h (scene_of k)) k ≡ told (objects_of g (scene_of k)) k → answer h k ≡ answer g k
answers_told g h (Comp s n kind) assets same = same
answers_told g h (Parent s n) assets same = same
answers_told g h (Children s n) assets same = same
answers_told g h (Exists s n) assets same = same
answers_told g h (Asset n) assets same = ap (λ a. Values (numbered a n)) assets

-- whether the object whose parent is asked for is among these
abbrev pub asks : Objects → Key → Bool
asks es (Comp s n kind) = true
asks es (Parent s n) = is_some (numbered es n)
asks es (Children s n) = true
asks es (Exists s n) = true
asks es (Asset n) = true

asked : (g : Content) (k : Key) → has_object_of g k ≡ true → asks (objects_of g (scene_of k)) k ≡ true
asked g (Comp s n kind) h = refl
asked g (Parent s n) h = h
asked g (Children s n) h = refl
asked g (Exists s n) h = refl
asked g (Asset n) h = refl

-- ---- one scene

-- where the objects es of scene s become new, a key that isn't among these is answered as before
abbrev pub Spares : ℕ → Objects → Objects → List Key → Type 0
Spares s es new keys = (k : Key) → nat_eq (scene_of k) s ≡ true → asks es k ≡ true → has_key keys k ≡ false → told new k ≡ told es k

-- the project with these objects in a scene that is there
abbrev pub put_at : Content → ℕ → Objects → Content
put_at g s new = record g { scenes = set_value (is_at (nat_cmp s)) g.scenes new }

pub objects_put_apart : (g : Content) (s t : ℕ) (new : Objects) → nat_eq t s ≡ false → objects_of (put_at g s new) t ≡ objects_of g t
objects_put_apart g s t new apart = ap (λ r. unwrap_or r []) (found_set_apart s t new g.scenes apart)

pub objects_put : (g : Content) (s t : ℕ) (es new : Objects) → nat_eq t s ≡ true → numbered g.scenes s ≡ Some es → objects_of (put_at g s new) t ≡ new
objects_put g s t es new here there = ap (objects_of (put_at g s new)) (equal t s here) ∙ ap (λ r. unwrap_or r []) (found_set s es new g.scenes there)

pub objects_there : (g : Content) (s t : ℕ) (es : Objects) → nat_eq t s ≡ true → numbered g.scenes s ≡ Some es → objects_of g t ≡ es
objects_there g s t es here there = ap (objects_of g) (equal t s here) ∙ ap (λ r. unwrap_or r []) there

spared_where : (b : Bool) (g : Content) (s : ℕ) (es new : Objects) (keys : List Key) (k : Key) → nat_eq (scene_of k) s ≡ b → numbered g.scenes s ≡ Some es → Spares s es new keys
    → has_object_of g k ≡ true → has_key keys k ≡ false → told (objects_of (put_at g s new) (scene_of k)) k ≡ told (objects_of g (scene_of k)) k
spared_where true g s es new keys k here there spares object apart =
    let old : objects_of g (scene_of k) ≡ es = objects_there g s (scene_of k) es here there in
    ap (λ os. told os k) (objects_put g s (scene_of k) es new here there)
    ∙ spares k here (ap (λ os. asks os k) (sym old) ∙ asked g k object) apart ∙ ap (λ os. told os k) (sym old)
spared_where false g s es new keys k here there spares object apart = ap (λ os. told os k) (objects_put_apart g s (scene_of k) new here)

pub spared : (g : Content) (s : ℕ) (es new : Objects) (keys : List Key) (k : Key) → numbered g.scenes s ≡ Some es → Spares s es new keys
    → has_object_of g k ≡ true → has_key keys k ≡ false → answer (put_at g s new) k ≡ answer g k
spared g s es new keys k there spares object apart =
    answers_told g (put_at g s new) k refl (spared_where (nat_eq (scene_of k) s) g s es new keys k refl there spares object apart)
