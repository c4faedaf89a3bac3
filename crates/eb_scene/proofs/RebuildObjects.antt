-- The objects of a scene are made again: first all of them, then the parent of each.
use Rattle.std.proofs.Common.{◌≡◌, ℕ, ◌+◌, ◌<◌, ◌≤◌, ◌⊎◌, inl, inr, List, [], ◌∷◌, ◌++◌, length, map, Bool, true, false, cond, not, nat_eq, nat_le, nat_lt, is_some, Option, Some, None, Result, Ok, Err, refl, sym, ap, subst, ◌∙◌, true≢false, append_assoc, append-nil, length-append, arith, if◌then◌else◌}
use Rattle.std.specs.Prelude.{option_and_then}
use Rattle.std.specs.Map.{keys_of}
use Rattle.std.specs.BTreeMap.{is_at}
use Rattle.std.specs.List.{AllByRecursion}
use Rattle.std.specs.List.Sorted.{IsStrictlySortedBy}
use Rattle.std.specs.Ordering.{nat_cmp}
use Rattle.std.proofs.lemmas.Bool.{cases_Bool}
use Rattle.std.proofs.lemmas.Bool.Decides.{nat_tests}
use Rattle.eb_schema.specs.Schemas.{Types}
use Rattle.eb_scene.specs.declared.objects.Object.{Object}
use Rattle.eb_scene.specs.declared.objects.Given.{Given}
use Rattle.eb_scene.specs.declared.edits.EditFault.{EditFault}
use Rattle.eb_scene.specs.declared.edits.EditFault.TheVariants as fault
use Rattle.eb_scene.specs.Numbers.{has_number}
use Rattle.eb_scene.specs.Projects.{Content, Numbered, Objects, numbered, parent_at, above, most_depth}
use Rattle.eb_scene.specs.Trees.{height}
use Rattle.eb_scene.specs.Edits.{is_there, is_past, fresh, parented, most_objects, object_added, parent_set, put_scene, on_scene, on_scene_at}
use Rattle.eb_scene.specs.Validity.{IsScene}
use Rattle.eb_scene.specs.Rebuilding.{object_edits, parent_edit, parent_edits}
use Rattle.eb_scene.proofs.TreeFacts.{above_none}
use Rattle.eb_scene.proofs.ValidTables.{set_at}
use Rattle.eb_scene.proofs.RebuildSteps.{Steps, steps_then, steps_to, IsPast, past_front, absent_past, found_past, put_past, set_past, change_past}
use Rattle.eb_scene.proofs.RebuildTrees.{no_cycle, no_depth}

-- a rule that isn't broken
pub skip : {S : Type 0} (b : Bool) (e : EditFault) (r x : Result S EditFault) → b ≡ false → r ≡ x → (if b then Err e else r) ≡ x
skip true e r x h later = absurd (true≢false h)
skip false e r x h later = later

-- an object without parent and components, and one with its parent
abbrev pub bare : ℕ × Object → ℕ × Object
bare e = (e.0, fresh e.0 None e.1.mark)

abbrev pub hung : ℕ × Object → ℕ × Object
hung e = (e.0, fresh e.0 e.1.parent e.1.mark)

-- ---- what is there goes by the numbers alone

there_where : (b c : Bool) (x y : Object) (r q : Option Object) → b ≡ c → is_some r ≡ is_some q → is_some (cond b (Some x) r) ≡ is_some (cond c (Some y) q)
there_where true true x y r q same later = refl
there_where true false x y r q same later = absurd (true≢false same)
there_where false true x y r q same later = absurd (true≢false (sym same))
there_where false false x y r q same later = later

same_there : (xs ys : Objects) → keys_of xs ≡ keys_of ys → (n : ℕ) → is_some (numbered xs n) ≡ is_some (numbered ys n)
same_there [] [] same n = refl
same_there [] (y ∷ ys) same n = cc
same_there (x ∷ xs) [] same n = cc
same_there (x ∷ xs) (y ∷ ys) same n =
    let key : x.0 ≡ y.0 = cc in
    let keys : keys_of xs ≡ keys_of ys = cc in
    there_where (is_at (nat_cmp n) x.0) (is_at (nat_cmp n) y.0) x.1 y.1 (numbered xs n) (numbered ys n) (ap (is_at (nat_cmp n)) key) (same_there xs ys keys n)

-- ---- one edit

added_step : (acc : Objects) (n : ℕ) (mark : Option ℕ) → IsPast n acc → length acc < most_objects → is_past mark ≡ false → object_added acc n None mark ≡ Ok (acc ++ (n, fresh n None mark) ∷ [])
added_step acc n mark past room low =
    let way : length (above most_depth acc None) ≡ 0 = ap length (above_none acc most_depth) in
    let free : nat_le most_objects (length acc) ≡ false = grind (arith, nat_tests) in
    let flat : nat_le most_depth (length (above most_depth acc None)) ≡ false = grind (arith, nat_tests) in
    skip (is_some (numbered acc n)) fault.ObjectTaken _ _ (ap is_some (absent_past n acc past))
    (skip (nat_le most_objects (length acc)) fault.ObjectLimit _ _ free
    (skip (nat_le most_depth (length (above most_depth acc None))) fault.DepthLimit _ _ flat
    (skip (is_past mark) fault.SectionRange _ _ low
    (ap (λ es. Ok es) (put_past n acc (fresh n None mark) past)))))

module _ (acc tail : Objects) (n : ℕ) (mark : Option ℕ) (past : IsPast n acc) where
  -- before the object has its parent, and after
  abbrev before : Objects
  before = acc ++ (n, fresh n None mark) ∷ tail

  abbrev after : Option ℕ → Objects
  after q = acc ++ (n, fresh n q mark) ∷ tail

  hang_step : (p : ℕ) → is_some (numbered before p) ≡ true → has_number (above most_depth before (Some p)) n ≡ false
      → length (above most_depth before (Some p)) + height most_depth before (n ∷ []) ≤ most_depth → parent_set before n (Some p) ≡ Ok (after (Some p))
  hang_step p there beside fits =
      let flat : nat_lt most_depth (length (above most_depth before (Some p)) + height most_depth before (n ∷ [])) ≡ false = grind (arith, nat_tests) in
      skip (not (is_some (numbered before n))) fault.NoObject _ _ (ap (λ r. not (is_some r)) (found_past n acc (fresh n None mark) tail past))
      (skip (not (is_there before (Some p))) fault.NoParent _ _ (ap not there)
      (skip (has_number (above most_depth before (Some p)) n) fault.Cycle _ _ beside
      (skip (nat_lt most_depth (length (above most_depth before (Some p)) + height most_depth before (n ∷ []))) fault.DepthLimit _ _ flat
      (ap (λ es. Ok es) (change_past (parented (Some p)) n acc (fresh n None mark) tail past)))))

  after_look : (q : Option ℕ) (m : ℕ) → numbered (after q) m ≡ cond (nat_eq m n) (Some (fresh n q mark)) (numbered before m)
  after_look q m =
      ap (λ es. numbered es m) (sym (set_past n acc (fresh n None mark) (fresh n q mark) tail past))
      ∙ set_at n m (fresh n None mark) (fresh n q mark) before (found_past n acc (fresh n None mark) tail past)

  -- each other one has the parent that it had
  after_each : (es : Objects) (q : Option ℕ) → parent_at es n ≡ q → ((m : ℕ) → (parent_at before m ≡ None) ⊎ (parent_at before m ≡ parent_at es m))
      → (m : ℕ) → (parent_at (after q) m ≡ None) ⊎ (parent_at (after q) m ≡ parent_at es m)
  after_each es q over each m =
      elim (cases_Bool (nat_eq m n)) [
        | inl is ↦
            let same : n ≡ m = grind (arith, nat_tests) in
            inr (ap (option_and_then (λ o. o.parent)) (after_look q m ∙ ap (λ b. cond b (Some (fresh n q mark)) (numbered before m)) is) ∙ sym over ∙ ap (parent_at es) same)
        | inr is ↦
            let old : parent_at (after q) m ≡ parent_at before m = ap (option_and_then (λ o. o.parent)) (after_look q m ∙ ap (λ b. cond b (Some (fresh n q mark)) (numbered before m)) is) in
            elim (each m) [ inl gone ↦ inl (old ∙ gone) | inr kept ↦ inr (old ∙ kept) ]
      ]

-- the keys of a list with another thing at one place
keys_middle : (acc tail : Objects) (n : ℕ) (x y : Object) → keys_of (acc ++ (n, x) ∷ tail) ≡ keys_of (acc ++ (n, y) ∷ tail)
keys_middle [] tail n x y = refl
keys_middle (e ∷ acc) tail n x y = ap (λ ks. e.0 ∷ ks) (keys_middle acc tail n x y)

-- ---- the objects of the last scene

module _ (types : Types) (assets : Numbered (List Given)) (done : Numbered Objects) (s : ℕ) (behind : IsPast s done) where
  -- the project with these objects in the scene
  abbrev pub at : Objects → Content
  at es = record { schema = types; scenes = done ++ (s, es) ∷ []; assets = assets }

  pub on_last : (f : Objects → Result Objects EditFault) (es fs : Objects) → f es ≡ Ok fs → on_scene (at es) s f ≡ Ok (at fs)
  on_last f es fs h =
      ap (on_scene_at (at es) s f) (found_past s done es [] behind) ∙ ap (put_scene (at es) s) h
      ∙ ap (λ (scenes : Numbered Objects). Ok (record (at es) { scenes = scenes })) (set_past s done es fs [] behind)

  pub objects_made : (acc rest : Objects) → IsStrictlySortedBy nat_cmp (keys_of (acc ++ map bare rest)) → length (acc ++ map bare rest) ≤ most_objects → AllByRecursion (λ e. is_past e.1.mark ≡ false) rest
      → Steps (at acc) (object_edits s rest) (at (acc ++ map bare rest))
  objects_made acc [] sorted few marks = ap at (sym (append-nil acc))
  objects_made acc (e ∷ rest) sorted few marks =
      let next : Objects = acc ++ bare e ∷ [] in
      let whole : next ++ map bare rest ≡ acc ++ bare e ∷ map bare rest = append_assoc acc (bare e ∷ []) (map bare rest) in
      let count : length (acc ++ bare e ∷ map bare rest) ≡ length acc + length (bare e ∷ map bare rest) = length-append acc (bare e ∷ map bare rest) in
      let room : length acc < most_objects = omega (arith, count, few) in (
        at next,
        on_last (λ es. object_added es e.0 None e.1.mark) acc next (added_step acc e.0 e.1.mark (past_front acc e.0 (fresh e.0 None e.1.mark) (map bare rest) sorted) room marks.0),
        steps_to (at next) _ _ (object_edits s rest) (ap at whole)
            (objects_made next rest (subst (λ es. IsStrictlySortedBy nat_cmp (keys_of es)) (sym whole) sorted) (subst (λ es. length es ≤ most_objects) (sym whole) few) marks.1),
      )

  module _ (es : Objects) (scene : IsScene types es) where
    -- each object of these has its own parent or none
    abbrev pub Halfway : Objects → Type 0
    Halfway fs = (keys_of fs ≡ keys_of es) × ((m : ℕ) → (parent_at fs m ≡ None) ⊎ (parent_at fs m ≡ parent_at es m))

    hung_one : (acc tail : Objects) (n : ℕ) (q mark : Option ℕ) → parent_at es n ≡ q → Halfway (acc ++ (n, fresh n None mark) ∷ tail)
        → Steps (at (acc ++ (n, fresh n None mark) ∷ tail)) (parent_edit s n q) (at (acc ++ (n, fresh n q mark) ∷ tail))
    hung_one acc tail n None mark over half = refl
    hung_one acc tail n (Some p) mark over half =
        let fs : Objects = acc ++ (n, fresh n None mark) ∷ tail in
        let sorted : IsStrictlySortedBy nat_cmp (keys_of fs) = subst (IsStrictlySortedBy nat_cmp) (sym half.0) scene.order in
        let past = past_front acc n (fresh n None mark) tail sorted in
        let there : is_some (numbered fs p) ≡ true = same_there fs es half.0 p ∙ ap (is_there es) (sym over) ∙ scene.parents n in (
          at (acc ++ (n, fresh n (Some p) mark) ∷ tail),
          on_last (λ xs. parent_set xs n (Some p)) fs (acc ++ (n, fresh n (Some p) mark) ∷ tail)
              (hang_step acc tail n mark past p there (no_cycle most_depth es fs scene.depths half.1 n p over) (no_depth most_depth es fs scene.depths half.1 sorted n p over)),
          refl,
        )

    halfway_on : (acc tail : Objects) (n : ℕ) (q mark : Option ℕ) → parent_at es n ≡ q → Halfway (acc ++ (n, fresh n None mark) ∷ tail) → Halfway (acc ++ (n, fresh n q mark) ∷ tail)
    halfway_on acc tail n q mark over half =
        let sorted : IsStrictlySortedBy nat_cmp (keys_of (acc ++ (n, fresh n None mark) ∷ tail)) = subst (IsStrictlySortedBy nat_cmp) (sym half.0) scene.order in
        let past = past_front acc n (fresh n None mark) tail sorted in
        (keys_middle acc tail n (fresh n q mark) (fresh n None mark) ∙ half.0, after_each acc tail n mark past es q over half.1)

    pub parents_set : (acc rest : Objects) → AllByRecursion (λ e. parent_at es e.0 ≡ e.1.parent) rest → Halfway (acc ++ map bare rest) → Steps (at (acc ++ map bare rest)) (parent_edits s rest) (at (acc ++ map hung rest))
    parents_set acc [] overs half = refl
    parents_set acc (e ∷ rest) overs half =
        let next : Objects = acc ++ hung e ∷ [] in
        let whole : next ++ map bare rest ≡ acc ++ hung e ∷ map bare rest = append_assoc acc (hung e ∷ []) (map bare rest) in
        let final : next ++ map hung rest ≡ acc ++ hung e ∷ map hung rest = append_assoc acc (hung e ∷ []) (map hung rest) in
        let later = parents_set next rest overs.1 (subst Halfway (sym whole) (halfway_on acc (map bare rest) e.0 e.1.parent e.1.mark overs.0 half)) in
        steps_then _ _ _ (parent_edit s e.0 e.1.parent) (parent_edits s rest) (hung_one acc (map bare rest) e.0 e.1.parent e.1.mark overs.0 half)
        (subst (λ g. Steps g (parent_edits s rest) (at (acc ++ map hung (e ∷ rest)))) (ap at whole) (steps_to (at (next ++ map bare rest)) _ _ (parent_edits s rest) (ap at final) later))
