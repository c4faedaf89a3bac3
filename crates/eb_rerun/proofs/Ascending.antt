-- The runs of a project ascend by their names, so what is kept of them stands in their order.
use Rattle.std.proofs.Common.{◌≡◌, ℕ, zero, suc, ◌+◌, ◌<◌, List, [], ◌∷◌, ◌++◌, map, length, Bool, true, false, cond, T, nat_cmp, Ordering, Less, Equal, Some, None, refl, sym, ap, ◌∙◌, subst, fold, flat_map, arith}
use Rattle.std.specs.Prelude.{◌&&◌, ◌||◌}
use Rattle.std.specs.FinMap.{FinMap, empty, entries, find, from_sorted, insert, is_sorted, len, entries-from_sorted, get-empty, get-from_sorted, len-entries, same_map}
use Rattle.std.specs.FinMap.Entries.{below_all}
use Rattle.std.specs.List.{filter, list_any, AllByRecursion}
use Rattle.std.specs.List.Sorted.{IsStrictlySortedBy}
use Rattle.std.specs.Map.{keys_of}
use Rattle.std.specs.Ordering.{is_lt, ordering_then}
use Rattle.std.proofs.lemmas.Bool.Decides.{nat_tests}
use Rattle.std.proofs.lemmas.List.{length-map}
use Rattle.eb_base.proofs.NameOrder.{exact_names, names_total}
use Rattle.eb_base.specs.Names.{name_cmp}
use Rattle.eb_base.specs.declared.names.Name.{Name}
use Rattle.eb_scene.specs.Projects.{Content, IsAscending, objects_of}
use Rattle.eb_rules.specs.Kept.{Kept}
use Rattle.eb_eval.specs.Runs.{all_bakers, id_of, is_run, most_bakers, numbers_from, object_runs, runs_of, scene_runs}
use Rattle.eb_eval.specs.declared.ids.RunId.{RunId}
use Rattle.eb_record.specs.Records.{run_name, run_of}
use Rattle.eb_rerun.specs.Recorded.{ran_of, recorded}
use Rattle.eb_rerun.proofs.Folded.{is_at, meant, put_got}

-- ---- runs in order

abbrev Below : RunId → RunId → Type 0
Below a b = name_cmp (run_name a) (run_name b) ≡ Less

-- each run is below those behind it
abbrev pub Rises : List RunId → Type 0
Rises [] = Unit {0}
Rises (id ∷ ids) = AllByRecursion (Below id) ids × Rises ids

all_both : {X : Type 0} (P : X → Type 0) (xs ys : List X) → AllByRecursion P xs → AllByRecursion P ys → AllByRecursion P (xs ++ ys)
all_both P [] ys h k = k
all_both P (x ∷ xs) ys h k = (h.0, all_both P xs ys h.1 k)

all_more : {X : Type 0} (P Q : X → Type 0) → ((x : X) → P x → Q x) → (xs : List X) → AllByRecursion P xs → AllByRecursion Q xs
all_more P Q more [] h = tt
all_more P Q more (x ∷ xs) h = (more x h.0, all_more P Q more xs h.1)

all_picked : {X : Type 0} (P : X → Type 0) (p : X → Bool) (xs : List X) → AllByRecursion P xs → AllByRecursion P (filter p xs)
all_picked P p [] h = tt
all_picked P p (x ∷ xs) h = picked_more (p x) (all_picked P p xs h.1) where
  picked_more : (b : Bool) → AllByRecursion P (filter p xs) → AllByRecursion P (cond b (x ∷ filter p xs) (filter p xs))
  picked_more true later = (h.0, later)
  picked_more false later = later

pub rises_picked : (p : RunId → Bool) (ids : List RunId) → Rises ids → Rises (filter p ids)
rises_picked p [] h = tt
rises_picked p (id ∷ ids) h = picked_more (p id) (rises_picked p ids h.1) where
  picked_more : (b : Bool) → Rises (filter p ids) → Rises (cond b (id ∷ filter p ids) (filter p ids))
  picked_more true later = (all_picked (Below id) p ids h.0, later)
  picked_more false later = later

rises_both : (xs ys : List RunId) → Rises xs → Rises ys → AllByRecursion (λ a. AllByRecursion (Below a) ys) xs → Rises (xs ++ ys)
rises_both [] ys h k across = k
rises_both (x ∷ xs) ys h k across = (all_both (Below x) xs ys h.0 across.0, rises_both xs ys h.1 k across.1)

-- lists in a row, each of which has a number
module _ (P : ℕ → RunId → Type 0) (lower : (m k : ℕ) (a b : RunId) → P m a → P k b → nat_cmp m k ≡ Less → Below a b) (f : ℕ → List RunId)
    (each : (m : ℕ) → AllByRecursion (P m) (f m)) (each_rises : (m : ℕ) → Rises (f m)) where
  below_rest : (m : ℕ) (a : RunId) → P m a → (ks : List ℕ) → AllByRecursion (λ k. nat_cmp m k ≡ Less) ks → AllByRecursion (Below a) (flat_map f ks)
  below_rest m a is [] h = tt
  below_rest m a is (k ∷ ks) h =
      all_both (Below a) (f k) (flat_map f ks) (all_more (P k) (Below a) (λ b there. lower m k a b is there h.0) (f k) (each k)) (below_rest m a is ks h.1)

  rises_in_a_row : (ms : List ℕ) → IsStrictlySortedBy nat_cmp ms → Rises (flat_map f ms)
  unfolding IsStrictlySortedBy
  rises_in_a_row [] up = tt
  rises_in_a_row (m ∷ ms) up =
      rises_both (f m) (flat_map f ms) (each_rises m) (rises_in_a_row ms up.1)
      (all_more (P m) (λ a. AllByRecursion (Below a) (flat_map f ms)) (λ a is. below_rest m a is ms up.0) (f m) (each m))

-- ---- the runs of a project

itself : (n : ℕ) → nat_cmp n n ≡ Equal
itself n = grind (arith, nat_tests)

equal_first : (r s : Ordering) → r ≡ Equal → ordering_then r s ≡ s
equal_first r s h = ap (λ x. ordering_then x s) h

lower_scene : (m k : ℕ) (a b : RunId) → a.scene ≡ m → b.scene ≡ k → nat_cmp m k ≡ Less → Below a b
lower_scene m k a b there here less =
    let first : nat_cmp a.scene b.scene ≡ Less = ap (λ x. nat_cmp x b.scene) there ∙ ap (nat_cmp m) here ∙ less in
    ap (λ r. ordering_then r (ordering_then (nat_cmp a.object b.object) (nat_cmp a.baker b.baker))) first

lower_object : (s m k : ℕ) (a b : RunId) → (a.scene ≡ s) × (a.object ≡ m) → (b.scene ≡ s) × (b.object ≡ k) → nat_cmp m k ≡ Less → Below a b
lower_object s m k a b there here less =
    let scene : nat_cmp a.scene b.scene ≡ Equal = ap (λ x. nat_cmp x b.scene) there.0 ∙ ap (nat_cmp s) here.0 ∙ itself s in
    let object : nat_cmp a.object b.object ≡ Less = ap (λ x. nat_cmp x b.object) there.1 ∙ ap (nat_cmp m) here.1 ∙ less in
    equal_first (nat_cmp a.scene b.scene) _ scene ∙ ap (λ r. ordering_then r (nat_cmp a.baker b.baker)) object

lower_baker : (s n b c : ℕ) → nat_cmp b c ≡ Less → Below (id_of s n b) (id_of s n c)
lower_baker s n b c less = equal_first (nat_cmp s s) _ (itself s) ∙ equal_first (nat_cmp n n) _ (itself n) ∙ less

lower_bakers : (s n b m more : ℕ) → b < m → AllByRecursion (Below (id_of s n b)) (map (id_of s n) (numbers_from m more))
unfolding numbers_from
lower_bakers s n b m zero low = tt
lower_bakers s n b m (suc more) low =
    let less : nat_cmp b m ≡ Less = grind (arith, nat_tests, low) in
    (lower_baker s n b m less, lower_bakers s n b (m + 1) more (omega arith))

bakers_rise : (s n m more : ℕ) → Rises (map (id_of s n) (numbers_from m more))
unfolding numbers_from
bakers_rise s n m zero = tt
bakers_rise s n m (suc more) = (lower_bakers s n m (m + 1) more (omega arith), bakers_rise s n (m + 1) more)

of_object : (s n : ℕ) (bs : List ℕ) → AllByRecursion (λ (id : RunId). (id.scene ≡ s) × (id.object ≡ n)) (map (id_of s n) bs)
of_object s n [] = tt
of_object s n (b ∷ bs) = ((refl, refl), of_object s n bs)

of_row : (P : RunId → Type 0) (f : ℕ → List RunId) → ((n : ℕ) → AllByRecursion P (f n)) → (ns : List ℕ) → AllByRecursion P (flat_map f ns)
of_row P f each [] = tt
of_row P f each (n ∷ ns) = all_both P (f n) (flat_map f ns) (each n) (of_row P f each ns)

module _ (rules : Kept) (g : Content) where
  in_object : (s n : ℕ) → AllByRecursion (λ (id : RunId). (id.scene ≡ s) × (id.object ≡ n)) (object_runs rules g s n)
  in_object s n = all_picked (λ id. (id.scene ≡ s) × (id.object ≡ n)) (is_run rules g) (map (id_of s n) all_bakers) (of_object s n all_bakers)

  object_rises : (s n : ℕ) → Rises (object_runs rules g s n)
  object_rises s n = rises_picked (is_run rules g) (map (id_of s n) all_bakers) (bakers_rise s n 0 most_bakers)

  in_scene : (s : ℕ) → AllByRecursion (λ (id : RunId). id.scene ≡ s) (scene_runs rules g s)
  in_scene s =
      of_row (λ id. id.scene ≡ s) (object_runs rules g s)
      (λ n. all_more (λ (id : RunId). (id.scene ≡ s) × (id.object ≡ n)) (λ id. id.scene ≡ s) (λ id h. h.0) (object_runs rules g s n) (in_object s n)) (keys_of (objects_of g s))

  scene_rises : IsAscending g → (s : ℕ) → Rises (scene_runs rules g s)
  scene_rises up s =
      rises_in_a_row (λ n id. (id.scene ≡ s) × (id.object ≡ n)) (lower_object s) (object_runs rules g s) (in_object s) (object_rises s) (keys_of (objects_of g s)) (up.objects s)

  pub rising : IsAscending g → Rises (runs_of rules g)
  rising up = rises_in_a_row (λ s id. id.scene ≡ s) lower_scene (scene_runs rules g) in_scene (scene_rises up) (keys_of g.scenes) up.scenes

-- ---- maps of runs in order

both : (a b : Bool) → T a → T b → T (a && b)
both true b h k = k
both false b h k = absurd h

module _ {V : Type 0} (v : RunId → V) where
  abbrev entry : RunId → Name × V
  entry id = (run_name id, v id)

  below_entries : (id : RunId) (ids : List RunId) → AllByRecursion (Below id) ids → T (below_all name_cmp (run_name id) (map entry ids))
  below_entries id [] h = tt
  below_entries id (j ∷ ids) h = both _ _ (subst (λ r. T (is_lt r)) (sym h.0) tt) (below_entries id ids h.1)

  sorted_entries : (ids : List RunId) → Rises ids → T (is_sorted name_cmp (map entry ids))
  sorted_entries [] h = tt
  sorted_entries (id ∷ ids) h = both _ _ (below_entries id ids h.0) (sorted_entries ids h.1)

  found_entry : (q : Name) (ids : List RunId) → find name_cmp q (map entry ids) ≡ cond (list_any (λ id. is_at q id && true) ids) (Some (v (run_of q))) None
  found_entry q [] = refl
  found_entry q (id ∷ ids) = first_where (is_at q id) refl (found_entry q ids) where
    first_where : (b : Bool) → is_at q id ≡ b → find name_cmp q (map entry ids) ≡ cond (list_any (λ i. is_at q i && true) ids) (Some (v (run_of q))) None
        → cond b (Some (v id)) (find name_cmp q (map entry ids)) ≡ cond ((b && true) || list_any (λ i. is_at q i && true) ids) (Some (v (run_of q))) None
    first_where true h later = ap (λ i. Some (v i)) (sym (meant q id h))
    first_where false h later = later

  -- the map of ascending runs has them in their order
  pub put_in_order : (ids : List RunId) → Rises ids → entries (fold (λ (m : FinMap name_cmp V) id. insert m (run_name id) (v id)) empty ids) ≡ map entry ids
  put_in_order ids up =
      let sorted = sorted_entries ids up in
      ap entries (same_map names_total exact_names (fold (λ (m : FinMap name_cmp V) id. insert m (run_name id) (v id)) empty ids) (from_sorted (map entry ids))
      (λ q. put_got (λ id. true) v ids empty q
      ∙ ap (cond (list_any (λ id. is_at q id && true) ids) (Some (v (run_of q)))) (get-empty name_cmp q)
      ∙ sym (get-from_sorted name_cmp (map entry ids) q sorted ∙ found_entry q ids)))
      ∙ entries-from_sorted name_cmp (map entry ids) sorted

pub recorded_in_order : (rules : Kept) (g : Content) → IsAscending g → entries (recorded rules g) ≡ map (λ id. (run_name id, ran_of rules g id)) (runs_of rules g)
unfolding recorded
recorded_in_order rules g up = put_in_order (ran_of rules g) (runs_of rules g) (rising rules g up)

pub run_count : (rules : Kept) (g : Content) → IsAscending g → len (recorded rules g) ≡ length (runs_of rules g)
run_count rules g up = len-entries (recorded rules g) ∙ ap length (recorded_in_order rules g up) ∙ length-map (runs_of rules g) (λ id. (run_name id, ran_of rules g id))
