-- The runs of an object among those that are kept of its project.
use Rattle.std.proofs.Common.{◌≡◌, ℕ, List, [], ◌∷◌, ◌++◌, map, Bool, true, false, cond, Some, None, refl, ap, ◌∙◌}
use Rattle.std.specs.Prelude.{◌||◌, ◌&&◌}
use Rattle.std.specs.List.{filter, AllByRecursion}
use Rattle.eb_scene.specs.Numbers.{has_number}
use Rattle.eb_scene.specs.Projects.{Content}
use Rattle.eb_scene.proofs.LookUps.{itself}
use Rattle.eb_rules.specs.Kept.{Kept}
use Rattle.eb_eval.specs.Runs.{all_bakers, id_of, is_run, object_runs}
use Rattle.eb_eval.specs.declared.ids.RunId.{RunId}
use Rattle.eb_eval.specs.Entities.{own_entity}
use Rattle.eb_merge.specs.Objects.{IdRun, with_object}
use Rattle.eb_merge.specs.declared.merging.Merged.{Merged}
use Rattle.eb_record.specs.Records.{run_name}
use Rattle.eb_record.specs.Records as records
use Rattle.eb_rerun.specs.Recorded.{ran_of, recorded}
use Rattle.eb_rerun.proofs.Recorded.{found}
use Rattle.eb_bake.specs.Baking.{place_of, runs_at, with_object_of}
use Rattle.eb_bake.specs.Recalled.{beside, kept_run, kept_runs}

-- ---- the bakers that there may be

among_more : (a b : Bool) → b ≡ true → (a || b) ≡ true
among_more true b h = refl
among_more false b h = h

all_among : (bs cs : List ℕ) → ((b : ℕ) → has_number bs b ≡ true → has_number cs b ≡ true) → AllByRecursion (λ b. has_number cs b ≡ true) bs
all_among [] cs h = tt
all_among (b ∷ bs) cs h = (h b (ap (λ x. x || has_number bs b) (itself b)), all_among bs cs (λ c is. h c (among_more _ _ is)))

-- ---- one object

module _ (rules : Kept) (g : Content) (s n : ℕ) where
  abbrev told : RunId → IdRun
  told id = (id, ran_of rules g id)

  one_found : (r : Bool) (b : ℕ) → has_number all_bakers b ≡ true → is_run rules g (id_of s n b) ≡ r
      → kept_run (recorded rules g) (id_of s n b) ≡ cond r (told (id_of s n b) ∷ []) []
  one_found r b among is =
      ap (beside (id_of s n b)) (found rules g (run_name (id_of s n b)) ∙ ap (λ x. cond x (Some (ran_of rules g (id_of s n b))) None) (ap (λ x. x && is_run rules g (id_of s n b)) among ∙ is))
      ∙ either r where
        either : (r : Bool) → beside (id_of s n b) (cond r (Some (ran_of rules g (id_of s n b))) None) ≡ cond r (told (id_of s n b) ∷ []) []
        either true = refl
        either false = refl

  abbrev among : List ℕ → List RunId
  among bs = filter (is_run rules g) (map (id_of s n) bs)

  next_found : (r : Bool) (b : ℕ) (bs : List ℕ) → has_number all_bakers b ≡ true → is_run rules g (id_of s n b) ≡ r
      → kept_runs (recorded rules g) (among bs) ≡ map told (among bs)
      → kept_runs (recorded rules g) (cond r (id_of s n b ∷ among bs) (among bs)) ≡ map told (cond r (id_of s n b ∷ among bs) (among bs))
  next_found true b bs is_baker is later = ap (λ xs. xs ++ kept_runs (recorded rules g) (among bs)) (one_found true b is_baker is) ∙ ap (λ xs. told (id_of s n b) ∷ xs) later
  next_found false b bs is_baker is later = later

  all_found : (bs : List ℕ) → AllByRecursion (λ b. has_number all_bakers b ≡ true) bs → kept_runs (recorded rules g) (among bs) ≡ map told (among bs)
  all_found [] bakers = refl
  all_found (b ∷ bs) bakers = next_found (is_run rules g (id_of s n b)) b bs bakers.0 refl (all_found bs bakers.1)

-- where all runs of a project are kept, each run of an object is among them
object_found : (kept : records.Kept) (rules : Kept) (g : Content) (o : ℕ × ℕ) → kept ≡ recorded rules g → kept_runs kept (object_runs rules g o.0 o.1) ≡ runs_at rules g o
object_found kept rules g o is =
    ap (λ (k : records.Kept). kept_runs k (object_runs rules g o.0 o.1)) is
    ∙ all_found rules g o.0 o.1 all_bakers (all_among all_bakers all_bakers (λ b is. is))

-- so what is kept gives what the object's runs give
pub object_merged : (kept : records.Kept) (rules : Kept) (g : Content) (m : Merged) (s n : ℕ) → kept ≡ recorded rules g
    → with_object m (own_entity s n) (place_of g (s, n)) (kept_runs kept (object_runs rules g s n)) ≡ with_object_of rules g m (s, n)
unfolding with_object_of
object_merged kept rules g m s n is = ap (with_object m (own_entity s n) (place_of g (s, n))) (object_found kept rules g (s, n) is)
