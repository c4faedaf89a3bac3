-- What a run reads is touched where it answers otherwise; so a run that isn't made anew keeps what it gave.
use mathlib.Core.Logic.{inl, inr}
use Rattle.std.proofs.Common.{◌≡◌, Bool, true, false, true≢false, ◌&&◌, ◌||◌, not, List, [], ◌∷◌, Ok, refl, sym, ◌∙◌, subst, ⊎_elim}
use Rattle.std.specs.List.{Contains, list_all, list_any}
use Rattle.eb_scene.specs.Answers.{answer, has_key, has_object_of, has_scene_of, same_key}
use Rattle.eb_scene.specs.Edits.{edited}
use Rattle.eb_scene.specs.Projects.{Content}
use Rattle.eb_scene.specs.Touched.{touched}
use Rattle.eb_scene.specs.Validity.{IsValid}
use Rattle.eb_scene.specs.declared.edits.Edit.{Edit}
use Rattle.eb_scene.specs.declared.keys.Key.{Key}
use Rattle.eb_scene.proofs.SameKeys.{told_apart}
use Rattle.eb_scene.proofs.TouchedEdits.{spares_all}
use Rattle.eb_scene.proofs.ValidEdits.{valid_ascends}
use Rattle.eb_rules.specs.Kept.{Kept}
use Rattle.eb_meaning.specs.Asks.{asked}
use Rattle.eb_eval.specs.declared.ids.RunId.{RunId}
use Rattle.eb_eval.specs.Runs.{is_run, reads_of_run, run_asks}
use Rattle.eb_eval.specs.Reruns.{BakesAlike, is_rerun, meets}
use Rattle.eb_eval.proofs.KeysInOrder.{ordered_from}
use Rattle.eb_eval.proofs.RunKeys.{run_fits}
use Rattle.eb_eval.proofs.RunsAlike.{bake_alike}
use Rattle.eb_eval.proofs.SortedLists.{In, in_list}

-- ---- tests

left_of : (a b : Bool) → (a && b) ≡ true → a ≡ true
left_of true b h = refl
left_of false b h = h

right_of : (a b : Bool) → (a && b) ≡ true → b ≡ true
right_of true b h = h
right_of false b h = absurd (true≢false (sym h))

neither : (a b : Bool) → (a || b) ≡ false → (a ≡ false) × (b ≡ false)
neither true b h = absurd (true≢false h)
neither false b h = (refl, h)

each_passes : {K : Type 0} (p : K → Bool) (xs : List K) (x : K) → list_all p xs ≡ true → In xs x → p x ≡ true
each_passes p [] x all h = absurd h
each_passes p (y ∷ ys) x all h = ⊎_elim (λ e. subst (λ z. p z ≡ true) e (left_of (p y) _ all)) (λ later. each_passes p ys x (right_of (p y) _ all) later) h

none_passes : {K : Type 0} (p : K → Bool) (xs : List K) (x : K) → list_any p xs ≡ false → In xs x → p x ≡ false
none_passes p [] x none h = absurd h
none_passes p (y ∷ ys) x none h = ⊎_elim (λ e. subst (λ z. p z ≡ false) e (neither (p y) _ none).0) (λ later. none_passes p ys x (neither (p y) _ none).1 later) h

-- a test that none passes is passed by none of them, and the other way round
is_none : {K : Type 0} (p : K → Bool) (xs : List K) → ((x : K) → In xs x → p x ≡ false) → list_any p xs ≡ false
is_none p [] each = refl
is_none p (y ∷ ys) each = both_false (p y) (list_any p ys) (each y (inl refl)) (is_none p ys (λ x h. each x (inr h)))
  where
    both_false : (a b : Bool) → a ≡ false → b ≡ false → (a || b) ≡ false
    both_false true b h k = h
    both_false false b h k = k

-- ---- what is read and answers otherwise is touched

pub spared : (g h : Content) (e : Edit) (rules : Kept) (id : RunId) (k : Key) → IsValid g → edited g e ≡ Ok h → is_run rules g id ≡ true → is_run rules h id ≡ true
    → Contains (reads_of_run g rules id) k → has_key (touched g e) k ≡ false → answer h k ≡ answer g k
spared g h e rules id k valid is here there read free =
    let fits = each_passes (λ j. has_scene_of h j && has_object_of g j) (asked (answer g) (run_asks rules id)) k (run_fits g h rules id valid here there)
    (in_list (asked (answer g) (run_asks rules id)) k (ordered_from (asked (answer g) (run_asks rules id)) k read)) in
    spares_all g h e k (valid_ascends g valid) is (left_of _ _ fits) (right_of (has_scene_of h k) _ fits) free

-- ---- what isn't made anew

some_passes : {K : Type 0} (p : K → Bool) (xs : List K) (x : K) → p x ≡ true → In xs x → list_any p xs ≡ true
some_passes p [] x is h = absurd h
some_passes p (y ∷ ys) x is h = ⊎_elim (λ e. first (p y) (list_any p ys) (subst (λ z. p z ≡ true) (sym e) is)) (λ later. more (p y) (list_any p ys) (some_passes p ys x is later)) h
  where
    first : (a b : Bool) → a ≡ true → (a || b) ≡ true
    first true b i = refl
    first false b i = absurd (true≢false (sym i))

    more : (a b : Bool) → b ≡ true → (a || b) ≡ true
    more true b i = refl
    more false b i = i

unlike : (keys : List Key) (k j : Key) (b : Bool) → same_key k j ≡ b → In keys k → has_key keys j ≡ false → b ≡ false
unlike keys k j false is here free = refl
unlike keys k j true is here free =
    let met : has_key keys j ≡ true = some_passes (same_key j) keys j ((told_apart j j).1 refl) (subst (In keys) ((told_apart k j).0 is) here) in
    absurd (true≢false (sym met ∙ free))

-- a key of one list isn't in the other, where they have none in common
apart : (keys others : List Key) (k : Key) → meets keys others ≡ false → In keys k → has_key others k ≡ false
apart keys others k none here =
    is_none (same_key k) others (λ j there. unlike keys k j (same_key k j) refl here (none_passes (has_key keys) others j none there))

not_false : (b : Bool) → not b ≡ false → b ≡ true
not_false true h = refl
not_false false h = absurd (true≢false h)

pub kept : (g h : Content) (e : Edit) (rules : Kept) (id : RunId) → IsValid g → edited g e ≡ Ok h → is_run rules h id ≡ true → is_rerun g rules e id ≡ false → BakesAlike g h rules id
kept g h e rules id valid is there stays =
    let both = neither (not (is_run rules g id)) _ stays in
    bake_alike g h rules id (λ k read. spared g h e rules id k valid is (not_false (is_run rules g id) both.0) there read
    (apart (reads_of_run g rules id) (touched g e) k both.1 (in_list (reads_of_run g rules id) k read)))
