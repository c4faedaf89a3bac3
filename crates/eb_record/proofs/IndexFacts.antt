-- The index stays right where a run and its looks come and go.
use Rattle.std.proofs.Common.{◌≡◌, ℕ, suc, zero, Bool, true, false, ◌&&◌, ◌||◌, cond, List, [], ◌∷◌, take, Option, Some, None, refl, sym, ap, ◌∙◌, true≢false, ◌≢◌}
use Rattle.std.specs.Cmp.{eq_by_cmp_equiv}
use Rattle.std.specs.FinMap.{empty, get, insert, remove, get-empty, get-insert, get-remove, same_map}
use Rattle.std.specs.List.{list_any}
use Rattle.std.specs.Ordering.{ordering_then, eq_by_cmp, is_eq}
use Rattle.std.specs.declared.cmp.Ordering.{Ordering}
use Rattle.std.specs.declared.cmp.Ordering.TheVariants.{Less, Equal, Greater}
use Rattle.std.proofs.lemmas.Map.Views.{tells_apart}
use Rattle.eb_base.specs.Names.{name_cmp}
use Rattle.eb_base.specs.declared.names.Name.{Name}
use Rattle.eb_base.proofs.NameOrder.{names_total, exact_names}
use Rattle.eb_scene.specs.declared.keys.Key.{Key}
use Rattle.eb_eval.specs.Ran.{Ran}
use Rattle.eb_eval.specs.declared.ids.RunId.{RunId}
use Rattle.eb_record.specs.Readers.{Index, IsIndex, has_read, key_name, look_at, look_cmp, with_looks, without_looks}
use Rattle.eb_record.specs.Records.{Kept, run_name, run_of}
use Rattle.eb_record.specs.declared.looks.Look.{Look}
use Rattle.eb_record.proofs.LookOrder.{looks_total, exact_looks}

-- ---- looks of one run

-- whether a look is that of a run at one of these keys
abbrev is_look : RunId → List Key → Look → Bool
is_look id keys l = list_any (λ k. eq_by_cmp look_cmp l (look_at id k)) keys

pub either : {A : Type 0} (a b : Bool) (x y : A) → cond b x (cond a x y) ≡ cond (a || b) x y
either true true x y = refl
either true false x y = refl
either false b x y = refl

get-with : (id : RunId) (keys : List Key) (m : Index) (l : Look) → get (with_looks id m keys) l ≡ cond (is_look id keys l) (Some id) (get m l)
get-with id [] m l = refl
get-with id (k ∷ ks) m l =
    get-with id ks (insert m (look_at id k) id) l
    ∙ ap (cond (is_look id ks l) (Some id)) (get-insert looks_total m (look_at id k) id l)
    ∙ either (eq_by_cmp look_cmp l (look_at id k)) (is_look id ks l) (Some id) (get m l)

get-without : (id : RunId) (keys : List Key) (m : Index) (l : Look) → get (without_looks id m keys) l ≡ cond (is_look id keys l) None (get m l)
get-without id [] m l = refl
get-without id (k ∷ ks) m l =
    get-without id ks (remove m (look_at id k)) l
    ∙ ap (cond (is_look id ks l) None) (get-remove looks_total m (look_at id k) l)
    ∙ either (eq_by_cmp look_cmp l (look_at id k)) (is_look id ks l) None (get m l)

-- ---- some looks, taken away again

more_so : (a b c : Bool) → (b ≡ true → c ≡ true) → (a || b) ≡ true → (a || c) ≡ true
more_so true b c f h = refl
more_so false b c f h = f h

front_has : {X : Type 0} (p : X → Bool) (n : ℕ) (xs : List X) → list_any p (take n xs) ≡ true → list_any p xs ≡ true
front_has p zero xs h = absurd (true≢false (sym h))
front_has p (suc n) [] h = h
front_has p (suc n) (x ∷ xs) h = more_so (p x) (list_any p (take n xs)) (list_any p xs) (front_has p n xs) h

gone_where : {A : Type 0} (b c : Bool) (x : Option A) (o : Option A) → (c ≡ true → b ≡ true) → cond b None (cond c x o) ≡ cond b None o
gone_where true c x o h = refl
gone_where false false x o h = refl
gone_where false true x o h = ap (λ b. cond b o x) (h refl)

pub some_gone : (id : RunId) (keys : List Key) (n : ℕ) (m : Index) → without_looks id (with_looks id m (take n keys)) keys ≡ without_looks id m keys
some_gone id keys n m = same_map looks_total exact_looks _ _ (λ l.
    get-without id keys (with_looks id m (take n keys)) l
    ∙ ap (cond (is_look id keys l) None) (get-with id (take n keys) m l)
    ∙ gone_where (is_look id keys l) (is_look id (take n keys) l) (Some id) (get m l) (front_has (λ k. eq_by_cmp look_cmp l (look_at id k)) n keys)
    ∙ sym (get-without id keys m l))

-- ---- the looks of a run among all looks

turned : (r s : Ordering) → is_eq (ordering_then r s) ≡ (is_eq s && is_eq r)
turned Less Less = refl
turned Less Equal = refl
turned Less Greater = refl
turned Equal Less = refl
turned Equal Equal = refl
turned Equal Greater = refl
turned Greater Less = refl
turned Greater Equal = refl
turned Greater Greater = refl

any_where : {X : Type 0} (b : Bool) (p : X → Bool) (xs : List X) → list_any (λ x. b && p x) xs ≡ (b && list_any p xs)
any_where true p xs = refl
any_where false p [] = refl
any_where false p (x ∷ xs) = any_where false p xs

pub any_same : {X : Type 0} (p q : X → Bool) → ((x : X) → p x ≡ q x) → (xs : List X) → list_any p xs ≡ list_any q xs
any_same p q same [] = refl
any_same p q same (x ∷ xs) = ap (λ b. b || list_any p xs) (same x) ∙ ap (λ b. q x || b) (any_same p q same xs)

look_parts : (id : RunId) (keys : List Key) (l : Look) → is_look id keys l ≡ (eq_by_cmp name_cmp l.run (run_name id) && list_any (λ k. eq_by_cmp name_cmp l.key (key_name k)) keys)
look_parts id keys l =
    any_same (λ k. eq_by_cmp look_cmp l (look_at id k)) (λ k. eq_by_cmp name_cmp l.run (run_name id) && eq_by_cmp name_cmp l.key (key_name k))
    (λ k. turned (name_cmp l.key (key_name k)) (name_cmp l.run (run_name id))) keys
    ∙ any_where (eq_by_cmp name_cmp l.run (run_name id)) (λ k. eq_by_cmp name_cmp l.key (key_name k)) keys

-- what an index has at a look
abbrev at : Option Ran → Look → Option RunId
at o l = cond (has_read o l.key) (Some (run_of l.run)) None

-- a look's run, where its name is that of this run
run_is : (id : RunId) (l : Look) → eq_by_cmp name_cmp l.run (run_name id) ≡ true → run_of l.run ≡ id
run_is id l h = ap run_of (tells_apart exact_names l.run (run_name id) h)

kept_at : (kept : Kept) (id : RunId) (l : Look) (o : Option Ran) → get kept (run_name id) ≡ o → eq_by_cmp name_cmp l.run (run_name id) ≡ true → get kept l.run ≡ o
kept_at kept id l o there h = ap (get kept) (tells_apart exact_names l.run (run_name id) h) ∙ there

-- ---- no run

pub none_indexed : IsIndex empty empty
none_indexed = record { exact = λ l. get-empty look_cmp l ∙ sym (ap (λ o. at o l) (get-empty name_cmp l.run)) }

-- ---- a run comes

put_where : (e h : Bool) (id : RunId) (ran : Ran) (o : Option Ran) (l : Look) → has_read (Some ran) l.key ≡ h → (e ≡ true → o ≡ None) → (e ≡ true → run_of l.run ≡ id)
    → cond (e && h) (Some id) (at o l) ≡ at (cond e (Some ran) o) l
put_where false h id ran o l has none is = refl
put_where true h id ran o l has none is =
    ap (λ x. cond h (Some id) (at x l)) (none refl) ∙ ap (λ x. cond h (Some x) None) (sym (is refl)) ∙ ap (λ b. cond b (Some (run_of l.run)) None) (sym has)

pub put_indexed : (looks : Index) (kept : Kept) (id : RunId) (ran : Ran) → IsIndex looks kept → get kept (run_name id) ≡ None
    → IsIndex (with_looks id looks ran.keys) (insert kept (run_name id) ran)
put_indexed looks kept id ran index new = record {
  exact = λ l.
      get-with id ran.keys looks l
      ∙ ap (λ b. cond b (Some id) (get looks l)) (look_parts id ran.keys l)
      ∙ ap (cond (eq_by_cmp name_cmp l.run (run_name id) && has_read (Some ran) l.key) (Some id)) (index.exact l)
      ∙ put_where (eq_by_cmp name_cmp l.run (run_name id)) (has_read (Some ran) l.key) id ran (get kept l.run) l refl (kept_at kept id l None new) (run_is id l)
      ∙ sym (ap (λ o. at o l) (get-insert names_total kept (run_name id) ran l.run));
}

-- ---- a run goes

taken_where : (e h : Bool) (ran : Ran) (o : Option Ran) (l : Look) → has_read (Some ran) l.key ≡ h → (e ≡ true → o ≡ Some ran)
    → cond (e && h) None (at o l) ≡ at (cond e None o) l
taken_where false h ran o l has is = refl
taken_where true true ran o l has is = refl
taken_where true false ran o l has is = ap (λ x. at x l) (is refl) ∙ ap (λ b. cond b (Some (run_of l.run)) None) has

pub taken_indexed : (looks : Index) (kept : Kept) (id : RunId) (ran : Ran) → IsIndex looks kept → get kept (run_name id) ≡ Some ran
    → IsIndex (without_looks id looks ran.keys) (remove kept (run_name id))
taken_indexed looks kept id ran index there = record {
  exact = λ l.
      get-without id ran.keys looks l
      ∙ ap (λ b. cond b None (get looks l)) (look_parts id ran.keys l)
      ∙ ap (cond (eq_by_cmp name_cmp l.run (run_name id) && has_read (Some ran) l.key) None) (index.exact l)
      ∙ taken_where (eq_by_cmp name_cmp l.run (run_name id)) (has_read (Some ran) l.key) ran (get kept l.run) l refl (kept_at kept id l (Some ran) there)
      ∙ sym (ap (λ o. at o l) (get-remove names_total kept (run_name id) l.run));
}

-- ---- a run isn't there

kept_where : (e h : Bool) (o : Option Ran) (l : Look) → (e ≡ true → o ≡ None) → cond (e && h) None (at o l) ≡ at o l
kept_where false h o l none = refl
kept_where true true o l none = sym (ap (λ x. at x l) (none refl))
kept_where true false o l none = refl

pub none_taken_indexed : (looks : Index) (kept : Kept) (id : RunId) (keys : List Key) → IsIndex looks kept → get kept (run_name id) ≡ None
    → IsIndex (without_looks id looks keys) kept
none_taken_indexed looks kept id keys index none = record {
  exact = λ l.
      get-without id keys looks l
      ∙ ap (λ b. cond b None (get looks l)) (look_parts id keys l)
      ∙ ap (cond (eq_by_cmp name_cmp l.run (run_name id) && list_any (λ k. eq_by_cmp name_cmp l.key (key_name k)) keys) None) (index.exact l)
      ∙ kept_where (eq_by_cmp name_cmp l.run (run_name id)) (list_any (λ k. eq_by_cmp name_cmp l.key (key_name k)) keys) (get kept l.run) l (kept_at kept id l None none);
}

-- ---- the kept runs

pub is_gone : (kept : Kept) (n : Name) → get (remove kept n) n ≡ None
is_gone kept n = get-remove names_total kept n n ∙ ap (λ b. cond b None (get kept n)) ((eq_by_cmp_equiv names_total).refl n)

pub is_there : (kept : Kept) (n : Name) (ran : Ran) → get (insert kept n ran) n ≡ Some ran
is_there kept n ran = get-insert names_total kept n ran n ∙ ap (λ b. cond b (Some ran) (get kept n)) ((eq_by_cmp_equiv names_total).refl n)

none_where : (e : Bool) (o : Option Ran) → (e ≡ true → o ≡ None) → cond e None o ≡ o
none_where false o none = refl
none_where true o none = sym (none refl)

name_at : (kept : Kept) (n q : Name) → get kept n ≡ None → eq_by_cmp name_cmp q n ≡ true → get kept q ≡ None
name_at kept n q none h = ap (get kept) (tells_apart exact_names q n h) ∙ none

pub none_taken : (kept : Kept) (n : Name) → get kept n ≡ None → remove kept n ≡ kept
none_taken kept n none = same_map names_total exact_names _ _ (λ q.
    get-remove names_total kept n q ∙ none_where (eq_by_cmp name_cmp q n) (get kept q) (name_at kept n q none))

twice : {A : Type 0} (e : Bool) (x y z : A) → cond e x (cond e y z) ≡ cond e x z
twice true x y z = refl
twice false x y z = refl

pub put_and_taken : (kept : Kept) (n : Name) (ran : Ran) → get kept n ≡ None → remove (insert kept n ran) n ≡ kept
put_and_taken kept n ran none = same_map names_total exact_names _ _ (λ q.
    get-remove names_total (insert kept n ran) n q ∙ ap (cond (eq_by_cmp name_cmp q n) None) (get-insert names_total kept n ran q)
    ∙ twice (eq_by_cmp name_cmp q n) None (Some ran) (get kept q) ∙ none_where (eq_by_cmp name_cmp q n) (get kept q) (name_at kept n q none))

pub taken_and_put : (kept : Kept) (n : Name) (ran : Ran) → insert (remove kept n) n ran ≡ insert kept n ran
taken_and_put kept n ran = same_map names_total exact_names _ _ (λ q.
    get-insert names_total (remove kept n) n ran q ∙ ap (cond (eq_by_cmp name_cmp q n) (Some ran)) (get-remove names_total kept n q)
    ∙ twice (eq_by_cmp name_cmp q n) (Some ran) None (get kept q) ∙ sym (get-insert names_total kept n ran q))

-- ---- other runs

apart_where : {A : Type 0} (e : Bool) (x y : A) → (e ≡ true → ⊥) → cond e x y ≡ y
apart_where true x y h = absurd (h refl)
apart_where false x y h = refl

names_apart : (id other : RunId) → other ≢ id → eq_by_cmp name_cmp (run_name other) (run_name id) ≡ true → ⊥
names_apart id other apart h = apart (ap run_of (tells_apart exact_names (run_name other) (run_name id) h))

pub others_put : (kept : Kept) (id other : RunId) (ran : Ran) → other ≢ id → get (insert kept (run_name id) ran) (run_name other) ≡ get kept (run_name other)
others_put kept id other ran apart =
    get-insert names_total kept (run_name id) ran (run_name other)
    ∙ apart_where (eq_by_cmp name_cmp (run_name other) (run_name id)) (Some ran) (get kept (run_name other)) (names_apart id other apart)

pub others_taken : (kept : Kept) (id other : RunId) → other ≢ id → get (remove kept (run_name id)) (run_name other) ≡ get kept (run_name other)
others_taken kept id other apart =
    get-remove names_total kept (run_name id) (run_name other)
    ∙ apart_where (eq_by_cmp name_cmp (run_name other) (run_name id)) None (get kept (run_name other)) (names_apart id other apart)
