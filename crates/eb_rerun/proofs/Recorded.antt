-- The run of a name among the runs of a project.
use Rattle.std.proofs.Common.{◌≡◌, ℕ, List, [], ◌∷◌, map, Bool, true, false, cond, nat_eq, Option, Some, None, refl, sym, ap, ◌∙◌, flat_map}
use Rattle.std.specs.Prelude.{◌||◌, ◌&&◌}
use Rattle.std.specs.FinMap.{empty, get, get-empty}
use Rattle.std.specs.List.{list_any}
use Rattle.std.specs.Map.{keys_of}
use Rattle.std.specs.Option.{option_map_or, unwrap_or}
use Rattle.std.proofs.lemmas.List.Folds.{list_any-append}
use Rattle.eb_base.proofs.NameOrder.{names_same}
use Rattle.eb_base.specs.Names.{name_cmp}
use Rattle.eb_base.specs.declared.names.Name.{Name}
use Rattle.eb_scene.specs.Numbers.{has_number}
use Rattle.eb_scene.specs.Projects.{Content, Numbered, numbered, object_in, objects_of}
use Rattle.eb_scene.proofs.Children.{at_is}
use Rattle.eb_scene.proofs.LookUps.{equal, turned}
use Rattle.eb_rules.specs.Kept.{Kept}
use Rattle.eb_rules.specs.declared.plans.BakerPlan.{BakerPlan}
use Rattle.eb_eval.specs.Runs.{all_bakers, baker_of, bakes, bakes_where, id_of, is_run, object_runs, runs_of, scene_runs}
use Rattle.eb_record.specs.Records.{run_name, run_of}
use Rattle.eb_rerun.specs.Recorded.{has_run, ran_of, recorded}
use Rattle.eb_rerun.proofs.Folded.{is_at, picked, put_got}

-- ---- tests

pub no_more : (b : Bool) → (b && false) ≡ false
no_more true = refl
no_more false = refl

-- ---- one number of a list

-- c: what holds beside it; e: the number is the first; among: it is later
next_number : (c e among x y : Bool) → (e ≡ true → x ≡ y) → (((c && e) && x) || (c && (among && y))) ≡ (c && ((e || among) && y))
next_number true true among x y same = ap (λ b. b || (among && y)) (same refl) ∙ either y among where
  either : (y among : Bool) → (y || (among && y)) ≡ y
  either true among = refl
  either false among = no_more among
next_number true false among x y same = refl
next_number false e among x y same = refl

pub one_number : (k : ℕ) (c : Bool) (t f : ℕ → Bool) → ((n : ℕ) → t n ≡ ((c && nat_eq k n) && f n)) → (ns : List ℕ) → list_any t ns ≡ (c && (has_number ns k && f k))
one_number k c t f each [] = sym (no_more c)
one_number k c t f each (n ∷ ns) =
    ap (λ b. b || list_any t ns) (each n) ∙ ap (λ b. ((c && nat_eq k n) && f n) || b) (one_number k c t f each ns)
    ∙ next_number c (nat_eq k n) (has_number ns k) (f n) (f k) (λ h. ap f (sym (equal k n h)))
    ∙ ap (λ b. c && ((b || has_number ns k) && f k)) (turned k n)

-- ---- lists of lists

pub any_map : {X Y : Type 0} (p : Y → Bool) (f : X → Y) (xs : List X) → list_any p (map f xs) ≡ list_any (λ x. p (f x)) xs
any_map p f [] = refl
any_map p f (x ∷ xs) = ap (λ b. p (f x) || b) (any_map p f xs)

pub any_flat : {X Y : Type 0} (p : Y → Bool) (f : X → List Y) (xs : List X) → list_any p (flat_map f xs) ≡ list_any (λ x. list_any p (f x)) xs
any_flat p f [] = refl
any_flat p f (x ∷ xs) = list_any-append p (f x) (flat_map f xs) ∙ ap (λ b. list_any p (f x) || b) (any_flat p f xs)

-- ---- the run of a name

regrouped : (p s o e : Bool) → (p && (s && (o && e))) ≡ (((p && s) && o) && e)
regrouped true true o e = refl
regrouped true false o e = refl
regrouped false s o e = refl

module _ (q : Name) where
  abbrev is_baked : Bool
  is_baked = nat_eq q.play 0

  abbrev is_in : ℕ → Bool
  is_in s = is_baked && nat_eq q.scene s

  abbrev is_of_object : ℕ → ℕ → Bool
  is_of_object s n = is_in s && nat_eq q.object n

  pub at_run : (s n b : ℕ) → is_at q (id_of s n b) ≡ (is_of_object s n && nat_eq q.extra b)
  at_run s n b = sym (names_same q (run_name (id_of s n b))) ∙ regrouped is_baked (nat_eq q.scene s) (nat_eq q.object n) (nat_eq q.extra b)

module _ (rules : Kept) (g : Content) (q : Name) where
  abbrev by_baker : ℕ → ℕ → Bool
  by_baker s n = has_number all_bakers q.extra && is_run rules g (id_of s n q.extra)

  of_object : (s n : ℕ) → list_any (is_at q) (object_runs rules g s n) ≡ (is_of_object q s n && by_baker s n)
  of_object s n =
      picked (is_at q) (is_run rules g) (map (id_of s n) all_bakers) ∙ any_map (λ id. is_at q id && is_run rules g id) (id_of s n) all_bakers
      ∙ one_number q.extra (is_of_object q s n) (λ b. is_at q (id_of s n b) && is_run rules g (id_of s n b)) (λ b. is_run rules g (id_of s n b))
      (λ b. ap (λ x. x && is_run rules g (id_of s n b)) (at_run q s n b)) all_bakers

  abbrev by_object : ℕ → Bool
  by_object s = has_number (keys_of (objects_of g s)) q.object && by_baker s q.object

  of_scene : (s : ℕ) → list_any (is_at q) (scene_runs rules g s) ≡ (is_in q s && by_object s)
  of_scene s =
      any_flat (is_at q) (object_runs rules g s) (keys_of (objects_of g s))
      ∙ one_number q.object (is_in q s) (λ n. list_any (is_at q) (object_runs rules g s n)) (by_baker s) (of_object s) (keys_of (objects_of g s))

  of_project : list_any (is_at q) (runs_of rules g) ≡ (is_baked q && (has_number (keys_of g.scenes) q.scene && by_object q.scene))
  of_project =
      any_flat (is_at q) (scene_runs rules g) (keys_of g.scenes)
      ∙ one_number q.scene (is_baked q) (λ s. list_any (is_at q) (scene_runs rules g s)) by_object of_scene (keys_of g.scenes)

-- ---- objects that aren't there have no runs

first_no : (a b : Bool) → (a || b) ≡ false → a ≡ false
first_no false b h = refl
first_no true b h = h

second_no : (a b : Bool) → (a || b) ≡ false → b ≡ false
second_no false b h = h
second_no true b h = absurd (true-no h) where
  true-no : true ≡ false → ⊥
  true-no h = cc

pub absent : {X : Type 0} (n : ℕ) (es : Numbered X) → has_number (keys_of es) n ≡ false → numbered es n ≡ None
absent n [] missed = refl
absent n (e ∷ es) missed =
    ap (λ b. cond b (Some e.1) (numbered es n)) (at_is n e.0 ∙ first_no (nat_eq e.0 n) (has_number (keys_of es) n) missed)
    ∙ absent n es (second_no (nat_eq e.0 n) (has_number (keys_of es) n) missed)

no_baker : (x : Option BakerPlan) → bakes x [] ≡ false
no_baker None = refl
no_baker (Some x) = refl

no_run_where : (rules : Kept) (first : Bool) (b : ℕ) → bakes_where first rules b [] ≡ false
no_run_where rules true b = refl
no_run_where rules false b = no_baker (baker_of rules b)

pub no_run : (rules : Kept) (g : Content) (s n b : ℕ) → object_in g s n ≡ None → is_run rules g (id_of s n b) ≡ false
no_run rules g s n b none = ap (λ o. bakes_where (nat_eq b 0) rules b (option_map_or (λ x. x.components) o [])) none ∙ no_run_where rules (nat_eq b 0) b

-- p: it is baked; hs, ho: scene and object are there; b: there may be such a baker; r: it is a run
told : (p hs ho b r : Bool) → (hs ≡ false → r ≡ false) → (ho ≡ false → r ≡ false) → (p && (hs && (ho && (b && r)))) ≡ ((p && b) && r)
told false hs ho b r scene object = refl
told true true true b r scene object = refl
told true true false b r scene object = sym (ap (λ x. b && x) (object refl) ∙ no_more b)
told true false ho b r scene object = sym (ap (λ x. b && x) (scene refl) ∙ no_more b)

-- a name is that of one of the runs of a project exactly where it may be that of a run, and the project has it
pub listed : (rules : Kept) (g : Content) (q : Name) → list_any (is_at q) (runs_of rules g) ≡ has_run rules g q
listed rules g q =
    of_project rules g q
    ∙ told (nat_eq q.play 0) (has_number (keys_of g.scenes) q.scene) (has_number (keys_of (objects_of g q.scene)) q.object) (has_number all_bakers q.extra) (is_run rules g (run_of q))
    (λ h. no_run rules g q.scene q.object q.extra (ap (λ r. numbered (unwrap_or r []) q.object) (absent q.scene g.scenes h)))
    (λ h. no_run rules g q.scene q.object q.extra (absent q.object (objects_of g q.scene) h))

always : {X : Type 0} (p : X → Bool) (xs : List X) → list_any (λ x. p x && true) xs ≡ list_any p xs
always p [] = refl
always p (x ∷ xs) = ap (λ b. b || list_any (λ x. p x && true) xs) (and_true (p x)) ∙ ap (λ b. p x || b) (always p xs) where
  and_true : (b : Bool) → (b && true) ≡ b
  and_true true = refl
  and_true false = refl

-- what is under a name among all runs of a project
pub found : (rules : Kept) (g : Content) (q : Name) → get (recorded rules g) q ≡ cond (has_run rules g q) (Some (ran_of rules g (run_of q))) None
unfolding recorded
found rules g q =
    put_got (λ id. true) (ran_of rules g) (runs_of rules g) empty q
    ∙ ap (λ b. cond b (Some (ran_of rules g (run_of q))) (get (empty {R = name_cmp}) q)) (always (is_at q) (runs_of rules g) ∙ listed rules g q)
    ∙ ap (cond (has_run rules g q) (Some (ran_of rules g (run_of q)))) (get-empty name_cmp q)
