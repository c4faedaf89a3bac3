-- What an edit evaluates and takes away brings the runs that are kept up to the new project.
use Rattle.std.proofs.Common.{◌≡◌, Bool, true, false, cond, nat_eq, List, [], ◌∷◌, map, Some, None, refl, sym, ap, ◌∙◌, fold}
use Rattle.std.specs.Prelude.{◌&&◌, ◌||◌, not, is_some, Ok}
use Rattle.std.specs.FinMap.{empty, entries, get, insert, get-empty, same_map}
use Rattle.std.specs.List.{filter, list_any}
use Rattle.eb_base.proofs.NameOrder.{exact_names, names_total}
use Rattle.eb_base.specs.Names.{name_cmp}
use Rattle.eb_base.specs.declared.names.Name.{Name}
use Rattle.eb_scene.specs.Edits.{edited}
use Rattle.eb_scene.specs.Numbers.{has_number}
use Rattle.eb_scene.specs.Projects.{Content, IsAscending}
use Rattle.eb_scene.specs.Touched.{touched}
use Rattle.eb_scene.specs.Validity.{IsValid}
use Rattle.eb_scene.specs.declared.edits.Edit.{Edit}
use Rattle.eb_scene.specs.declared.keys.Key.{Key}
use Rattle.eb_scene.proofs.Ascending.{edited_ascends}
use Rattle.eb_scene.proofs.ValidEdits.{valid_ascends}
use Rattle.eb_rules.specs.Kept.{Kept}
use Rattle.eb_eval.specs.Ran.{Ran}
use Rattle.eb_eval.specs.Reruns.{is_rerun, meets}
use Rattle.eb_eval.specs.Runs.{all_bakers, is_run, reads_of_run, runs_of}
use Rattle.eb_eval.specs.declared.ids.RunId.{RunId}
use Rattle.eb_eval.proofs.Touching.{kept}
use Rattle.eb_record.specs.Records.{looked_at, readers_of, run_name, run_of}
use Rattle.eb_rerun.specs.Again.{RunSet, again, around, chosen, cleared, is_near, renewed, scene_gone, undone, with_present}
use Rattle.eb_rerun.specs.Recorded.{rerun, has_run, is_listed, ran_of, recorded}
use Rattle.eb_rerun.proofs.Ascending.{Rises, put_in_order, recorded_in_order, rises_picked, rising}
use Rattle.eb_rerun.proofs.Folded.{is_at, one_tested, picked, put_got, taken_left}
use Rattle.eb_rerun.proofs.NearFacts.{near_is, same_tests}
use Rattle.eb_rerun.proofs.Recorded.{found, listed}
use Rattle.eb_rerun.proofs.Untouched.{same_runs}

-- ---- the readers of what was touched

named : (rules : Kept) (g : Content) (keys : List Key) (ids : List RunId)
    → map (λ (e : Name × Ran). run_of e.0) (filter (looked_at keys) (map (λ id. (run_name id, ran_of rules g id)) ids)) ≡ filter (λ id. meets (reads_of_run g rules id) keys) ids
named rules g keys [] = refl
named rules g keys (id ∷ ids) =
    one_named (meets (reads_of_run g rules id) keys) id (filter (looked_at keys) (map (λ id. (run_name id, ran_of rules g id)) ids)) (filter (λ id. meets (reads_of_run g rules id) keys) ids) (named rules g keys ids) where
      one_named : (b : Bool) (id : RunId) (es : List (Name × Ran)) (ids : List RunId) → map (λ (e : Name × Ran). run_of e.0) es ≡ ids
          → map (λ (e : Name × Ran). run_of e.0) (cond b ((run_name id, ran_of rules g id) ∷ es) es) ≡ cond b (id ∷ ids) ids
      one_named true id es ids later = ap (λ xs. id ∷ xs) later
      one_named false id es ids later = later

-- of the runs of a project those that read a touched key
readers : (rules : Kept) (g : Content) (keys : List Key) → IsAscending g → readers_of (recorded rules g) keys ≡ filter (λ id. meets (reads_of_run g rules id) keys) (runs_of rules g)
unfolding readers_of
readers rules g keys up =
    ap (λ (es : List (Name × Ran)). map (λ e. run_of e.0) (filter (looked_at keys) es)) (recorded_in_order rules g up) ∙ named rules g keys (runs_of rules g)

swap_tests : (a b c : Bool) → ((a && b) && c) ≡ (a && (c && b))
swap_tests true true true = refl
swap_tests true true false = refl
swap_tests true false true = refl
swap_tests true false false = refl
swap_tests false b c = refl

-- a test of the run of a name, among the readers
reader_tested : (rules : Kept) (g : Content) (keys : List Key) (q : Name) (f : RunId → Bool) → IsAscending g
    → list_any (λ id. is_at q id && f id) (readers_of (recorded rules g) keys) ≡ (has_run rules g q && (meets (reads_of_run g rules (run_of q)) keys && f (run_of q)))
reader_tested rules g keys q f up =
    let reads : RunId → Bool = λ id. meets (reads_of_run g rules id) keys in
    ap (list_any (λ id. is_at q id && f id)) (readers rules g keys up)
    ∙ picked (λ id. is_at q id && f id) reads (runs_of rules g)
    ∙ same_tests (λ id. (is_at q id && f id) && reads id) (λ id. is_at q id && (reads id && f id)) (λ id. swap_tests (is_at q id) (f id) (reads id)) (runs_of rules g)
    ∙ one_tested q (λ id. reads id && f id) (runs_of rules g)
    ∙ ap (λ b. b && (reads (run_of q) && f (run_of q))) (listed rules g q)

-- ---- choices

-- l: it can be a run's name; i, j: it is a run before, and after; m: it read what was touched; o: it is around
again_told : (l i j m o : Bool) → (l ≡ true → o ≡ false → j ≡ i) → (((l && i) && (m && j)) || ((l && o) && (not (l && i) && j))) ≡ ((l && j) && (not i || m))
again_told false i j m o near = refl
again_told true true true true o near = refl
again_told true true true false true near = refl
again_told true true true false false near = refl
again_told true true false true true near = refl
again_told true true false true false near = refl
again_told true true false false true near = refl
again_told true true false false false near = refl
again_told true false true m true near = refl
again_told true false true m false near = absurd (no (near refl refl)) where
  no : true ≡ false → ⊥
  no h = cc
again_told true false false m true near = refl
again_told true false false m false near = refl

-- what is under a name afterwards
kept_told : {X : Type 0} (l i j m o : Bool) (x y : X) → (l ≡ true → o ≡ false → j ≡ i) → (l ≡ true → i ≡ true → j ≡ true → m ≡ false → x ≡ y)
    → cond ((l && j) && (not i || m)) (Some y) (cond ((l && o) && not j) None (cond ((l && i) && m) None (cond (l && i) (Some x) None))) ≡ cond (l && j) (Some y) None
kept_told false i true m o x y near same = refl
kept_told false i false m o x y near same = refl
kept_told true true true true o x y near same = refl
kept_told true true true false true x y near same = ap Some (same refl refl refl refl)
kept_told true true true false false x y near same = ap Some (same refl refl refl refl)
kept_told true true false true true x y near same = refl
kept_told true true false true false x y near same = refl
kept_told true true false false true x y near same = refl
kept_told true true false false false x y near same = absurd (no (near refl refl)) where
  no : false ≡ true → ⊥
  no h = cc
kept_told true false true m true x y near same = refl
kept_told true false true m false x y near same = refl
kept_told true false false m true x y near same = refl
kept_told true false false m false x y near same = refl

-- ---- the runs that an edit makes anew

module _ (rules : Kept) (g h : Content) (e : Edit) (q : Name) where
  -- whether the run of the name read what the edit touches
  abbrev read_it : Bool
  read_it = meets (reads_of_run g rules (run_of q)) (touched g e)

  abbrev near : Bool
  near = is_near g e q.scene q.object

  -- where a name may be that of a run, an object that isn't near keeps it
  spared : IsValid g → edited g e ≡ Ok h → is_listed q ≡ true → near ≡ false → is_run rules h (run_of q) ≡ is_run rules g (run_of q)
  spared valid is one far = same_runs rules g h e valid is q.scene q.object far q.extra

  is_kept : is_some (get (recorded rules g) (run_name (run_of q))) ≡ (has_number all_bakers q.extra && is_run rules g (run_of q))
  is_kept = ap is_some (found rules g (run_name (run_of q))) ∙ some_where (has_number all_bakers q.extra && is_run rules g (run_of q)) where
    some_where : (b : Bool) → is_some (cond b (Some (ran_of rules g (run_of q))) None) ≡ b
    some_where true = refl
    some_where false = refl

  -- a test of whether it is kept, beside that it may be a run's name
  kept_beside : (p b o i j : Bool) → (((p && b) && o) && (not (b && i) && j)) ≡ (((p && b) && o) && (not ((p && b) && i) && j))
  kept_beside true b o i j = refl
  kept_beside false b o i j = refl

  -- the runs that are chosen are those that the edit makes anew
  chosen_is : IsValid g → edited g e ≡ Ok h
      → get (chosen (recorded rules g) rules h (readers_of (recorded rules g) (touched g e)) (around (scene_gone g e) (touched g e))) q
      ≡ cond (has_run rules h q && is_rerun g rules e (run_of q)) (Some (run_of q)) None
  chosen_is valid is =
      let kept_before = recorded rules g in
      let readers_before = readers_of kept_before (touched g e) in
      let near_it = around (scene_gone g e) (touched g e) in
      let here : RunId → Bool = is_run rules h in
      let new : RunId → Bool = λ id. not (is_some (get kept_before (run_name id))) && is_run rules h id in
      let present = fold (with_present rules h) empty readers_before in
      let l = is_listed q in
      let i = is_run rules g (run_of q) in
      let j = is_run rules h (run_of q) in
      let among_new : list_any (λ id. is_at q id && new id) near_it ≡ ((l && near) && (not (l && i) && j)) = one_tested q new near_it ∙ ap (λ b. b && new (run_of q)) (near_is g e q)
      ∙ ap (λ b. (l && near) && (not b && j)) is_kept
      ∙ kept_beside (nat_eq q.play 0) (has_number all_bakers q.extra) near i j in
      let among_read : list_any (λ id. is_at q id && here id) readers_before ≡ ((l && i) && (read_it && j)) = reader_tested rules g (touched g e) q here (valid_ascends g valid) in
      put_got new (λ id. id) near_it present q
      ∙ ap (cond (list_any (λ id. is_at q id && new id) near_it) (Some (run_of q))) (put_got here (λ id. id) readers_before empty q ∙ ap (cond (list_any (λ id. is_at q id && here id) readers_before) (Some (run_of q))) (get-empty name_cmp q))
      ∙ joined (list_any (λ id. is_at q id && new id) near_it) (list_any (λ id. is_at q id && here id) readers_before) (run_of q)
      ∙ ap (λ b. cond (b || list_any (λ id. is_at q id && new id) near_it) (Some (run_of q)) None) among_read
      ∙ ap (λ b. cond (((l && i) && (read_it && j)) || b) (Some (run_of q)) None) among_new
      ∙ ap (λ b. cond b (Some (run_of q)) None) (again_told l i j read_it near (spared valid is))
    where
      joined : (a b : Bool) (id : RunId) → cond a (Some id) (cond b (Some id) None) ≡ cond (b || a) (Some id) None
      joined true true id = refl
      joined true false id = refl
      joined false true id = refl
      joined false false id = refl

-- a test among the runs that an edit makes anew
rerun_tested : (rules : Kept) (g h : Content) (e : Edit) (q : Name) → list_any (λ id. is_at q id && true) (rerun rules g e h) ≡ (has_run rules h q && is_rerun g rules e (run_of q))
unfolding rerun
rerun_tested rules g h e q =
    picked (λ id. is_at q id && true) (is_rerun g rules e) (runs_of rules h)
    ∙ same_tests (λ id. (is_at q id && true) && is_rerun g rules e id) (λ id. is_at q id && is_rerun g rules e id) (λ id. dropped (is_at q id) (is_rerun g rules e id)) (runs_of rules h)
    ∙ one_tested q (is_rerun g rules e) (runs_of rules h)
    ∙ ap (λ b. b && is_rerun g rules e (run_of q)) (listed rules h q) where
      dropped : (a b : Bool) → ((a && true) && b) ≡ (a && b)
      dropped true b = refl
      dropped false b = refl

itself_all : (ids : List RunId) → map (λ (e : Name × RunId). e.1) (map (λ id. (run_name id, id)) ids) ≡ ids
itself_all [] = refl
itself_all (id ∷ ids) = ap (λ xs. id ∷ xs) (itself_all ids)

rises_rerun : (rules : Kept) (g h : Content) (e : Edit) → IsValid g → edited g e ≡ Ok h → Rises (rerun rules g e h)
unfolding rerun
rises_rerun rules g h e valid is = rises_picked (is_rerun g rules e) (runs_of rules h) (rising rules h (edited_ascends g h e (valid_ascends g valid) is))

pub again_is : (rules : Kept) (g h : Content) (e : Edit) → IsValid g → edited g e ≡ Ok h → again (recorded rules g) rules h (scene_gone g e) (touched g e) ≡ rerun rules g e h
unfolding again
again_is rules g h e valid is =
    let ids = rerun rules g e h in
    let up = rises_rerun rules g h e valid is in
    let set = chosen (recorded rules g) rules h (readers_of (recorded rules g) (touched g e)) (around (scene_gone g e) (touched g e)) in
    let whole : RunSet = fold (λ (m : RunSet) id. insert m (run_name id) id) empty ids in
    let same : set ≡ whole = same_map names_total exact_names set whole (λ q.
    chosen_is rules g h e q valid is
    ∙ sym (put_got (λ id. true) (λ id. id) ids empty q ∙ ap (cond (list_any (λ id. is_at q id && true) ids) (Some (run_of q))) (get-empty name_cmp q)
    ∙ ap (λ b. cond b (Some (run_of q)) None) (rerun_tested rules g h e q))) in
    ap (λ (m : RunSet). map (λ (e : Name × RunId). e.1) (entries m)) same
    ∙ ap (λ (es : List (Name × RunId)). map (λ (e : Name × RunId). e.1) es) (put_in_order (λ id. id) ids up)
    ∙ itself_all ids

-- ---- what is kept afterwards

-- a run that stays gives the same
stays : (rules : Kept) (g h : Content) (e : Edit) (q : Name) → IsValid g → edited g e ≡ Ok h → is_run rules g (run_of q) ≡ true → is_run rules h (run_of q) ≡ true
    → read_it rules g h e q ≡ false → ran_of rules g (run_of q) ≡ ran_of rules h (run_of q)
stays rules g h e q valid is here there unread =
    let alike = kept g h e rules (run_of q) valid is there (ap (λ b. not b || read_it rules g h e q) here ∙ unread) in
    λ i. record { keys = sym alike.1 i; outcome = sym alike.0 i }

always : (a : Bool) → (a && true) ≡ a
always true = refl
always false = refl

cleared_is : (rules : Kept) (g h : Content) (e : Edit) (q : Name) → IsAscending g
    → get (cleared (recorded rules g) rules h (scene_gone g e) (touched g e)) q
    ≡ cond ((is_listed q && near rules g h e q) && not (is_run rules h (run_of q))) None (cond (has_run rules g q && read_it rules g h e q) None (get (recorded rules g) q))
cleared_is rules g h e q up =
    let readers_before = readers_of (recorded rules g) (touched g e) in
    let near_it = around (scene_gone g e) (touched g e) in
    let gone : RunId → Bool = λ id. not (is_run rules h id) in
    taken_left gone near_it (fold undone (recorded rules g) readers_before) q
    ∙ ap (λ b. cond b None (get (fold undone (recorded rules g) readers_before) q)) (one_tested q gone near_it ∙ ap (λ b. b && gone (run_of q)) (near_is g e q))
    ∙ ap (cond ((is_listed q && near rules g h e q) && gone (run_of q)) None)
    (taken_left (λ id. true) readers_before (recorded rules g) q
    ∙ ap (λ b. cond b None (get (recorded rules g) q)) (reader_tested rules g (touched g e) q (λ id. true) up ∙ ap (λ b. has_run rules g q && b) (always (read_it rules g h e q))))

pub renewed_is : (rules : Kept) (g h : Content) (e : Edit) → IsValid g → edited g e ≡ Ok h → renewed (recorded rules g) rules h (scene_gone g e) (touched g e) ≡ recorded rules h
unfolding renewed
renewed_is rules g h e valid is =
    same_map names_total exact_names (renewed (recorded rules g) rules h (scene_gone g e) (touched g e)) (recorded rules h) (λ q.
    let before = cleared (recorded rules g) rules h (scene_gone g e) (touched g e) in
    let l = is_listed q in
    let i = is_run rules g (run_of q) in
    let j = is_run rules h (run_of q) in
    put_got (λ id. true) (ran_of rules h) (again (recorded rules g) rules h (scene_gone g e) (touched g e)) before q
    ∙ ap (λ b. cond b (Some (ran_of rules h (run_of q))) (get before q))
    (ap (list_any (λ id. is_at q id && true)) (again_is rules g h e valid is) ∙ rerun_tested rules g h e q)
    ∙ ap (cond (has_run rules h q && is_rerun g rules e (run_of q)) (Some (ran_of rules h (run_of q))))
    (cleared_is rules g h e q (valid_ascends g valid)
    ∙ ap (λ o. cond ((l && near rules g h e q) && not j) None (cond (has_run rules g q && read_it rules g h e q) None o)) (found rules g q))
    ∙ kept_told l i j (read_it rules g h e q) (near rules g h e q) (ran_of rules g (run_of q)) (ran_of rules h (run_of q)) (spared rules g h e q valid is)
    (λ one here there unread. stays rules g h e q valid is here there unread)
    ∙ sym (found rules h q))
