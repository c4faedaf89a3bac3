-- What is found in a right index is what the kept runs tell: those that looked at one of the keys.
use Rattle.std.proofs.Common.{◌≡◌, Bool, true, false, ◌&&◌, cond, List, [], ◌∷◌, map, Option, Some, None, option_map, refl, sym, ap, T, ◌∙◌, true≢false}
use Rattle.std.specs.FinMap.{empty, entries, get, values, get-empty, get-entries, get-insert, entries_sorted}
use Rattle.std.specs.FinMap.Entries.{find, is_sorted, below_all, same_entries}
use Rattle.std.specs.List.{filter, fold, list_any}
use Rattle.std.specs.Option.{option_or}
use Rattle.std.specs.Ordering.{ordering_then, eq_by_cmp, is_eq, is_lt}
use Rattle.std.specs.declared.cmp.Ordering.{Ordering}
use Rattle.std.specs.declared.cmp.Ordering.TheVariants.{Less, Equal, Greater}
use Rattle.std.proofs.lemmas.Map.Lookups.{CmpEqualImpliesEq}
use Rattle.std.proofs.lemmas.Map.Views.{tells_apart}
use Rattle.eb_base.specs.Maps.{passing}
use Rattle.eb_base.specs.Names.{name_cmp}
use Rattle.eb_base.specs.declared.names.Name.{Name}
use Rattle.eb_base.proofs.NameOrder.{names_total, exact_names}
use Rattle.eb_scene.specs.Answers.{has_key, same_key}
use Rattle.eb_scene.specs.declared.keys.Key.{Key}
use Rattle.eb_eval.specs.Ran.{Ran}
use Rattle.eb_eval.specs.Reruns.{meets}
use Rattle.eb_eval.specs.declared.ids.RunId.{RunId}
use Rattle.eb_record.specs.Readers.{Found, Index, IsIndex, found_in, has_read, key_name, look_cmp, with_readers, with_run}
use Rattle.eb_record.specs.Records.{Kept, looked_at, readers_of, run_of}
use Rattle.eb_record.specs.declared.looks.Look.{Look}
use Rattle.eb_record.proofs.IndexFacts.{any_same, either}
use Rattle.eb_record.proofs.LookOrder.{exact_looks, same_named}

-- ---- entries in order

is_less : (r : Ordering) → T (is_lt r) → is_eq r ≡ false
is_less Less h = refl
is_less Equal h = absurd h
is_less Greater h = absurd h

first : (a b : Bool) → T (a && b) → T a
first true b h = tt
first false b h = absurd h

second : (a b : Bool) → T (a && b) → T b
second true b h = h
second false b h = absurd h

both : (a b : Bool) → T a → T b → T (a && b)
both true b h k = k
both false b h k = absurd h

none_below : {K X : Type 0} (R : K → K → Ordering) (q : K) (es : List (K × X)) → T (below_all R q es) → find R q es ≡ None
none_below R q [] h = refl
none_below R q (e ∷ es) h =
    ap (λ b. cond b (Some e.1) (find R q es)) (is_less (R q e.0) (first (is_lt (R q e.0)) (below_all R q es) h))
    ∙ none_below R q es (second (is_lt (R q e.0)) (below_all R q es) h)

-- behind the entry of a key there is none
none_behind : {K X : Type 0} (R : K → K → Ordering) → CmpEqualImpliesEq R → (q : K) (e : K × X) (es : List (K × X)) → T (is_sorted R (e ∷ es)) → eq_by_cmp R q e.0 ≡ true → find R q es ≡ None
none_behind R exact q e es s h =
    ap (λ k. find R k es) (tells_apart exact q e.0 h) ∙ none_below R e.0 es (first (below_all R e.0 es) (is_sorted R es) s)

-- ---- the looks at one key

later : {A : Type 0} (v : Bool) (o p : Option A) (x : A) → (v ≡ true → o ≡ None) → option_or o (cond v (Some x) p) ≡ option_or (cond v (Some x) o) p
later false o p x none = refl
later true o p x none = ap (λ r. option_or r (Some x)) (none refl)

tied : (r s : Ordering) → is_eq r ≡ true → is_eq (ordering_then r s) ≡ is_eq s
tied Less s h = absurd (true≢false (sym h))
tied Equal s h = refl
tied Greater s h = absurd (true≢false (sym h))

untied : (r s : Ordering) → is_eq r ≡ false → is_eq (ordering_then r s) ≡ false
untied Less s h = refl
untied Equal s h = absurd (true≢false h)
untied Greater s h = refl

abbrev at_key : Name → Look × RunId → Bool
at_key k e = eq_by_cmp name_cmp k e.0.key

abbrev look : Name → Name → Look
look k n = record { key = k; run = n }

-- one entry more
entry_where : (u : Bool) (k n : Name) (e : Look × RunId) (es : List (Look × RunId)) (m : Found) → at_key k e ≡ u → T (is_sorted look_cmp (e ∷ es))
    → ((f : Found) → get (fold with_run f (filter (at_key k) es)) n ≡ option_or (find look_cmp (look k n) es) (get f n))
    → get (fold with_run m (cond u (e ∷ filter (at_key k) es) (filter (at_key k) es))) n ≡ option_or (find look_cmp (look k n) (e ∷ es)) (get m n)
entry_where true k n e es m h s rest =
    let same = tied (name_cmp k e.0.key) (name_cmp n e.0.run) h in
    rest (with_run m e)
    ∙ ap (option_or (find look_cmp (look k n) es)) (get-insert names_total m e.0.run e.1 n)
    ∙ later (eq_by_cmp name_cmp n e.0.run) (find look_cmp (look k n) es) (get m n) e.1 (λ t. none_behind look_cmp exact_looks (look k n) e es s (same ∙ t))
    ∙ ap (λ b. option_or (cond b (Some e.1) (find look_cmp (look k n) es)) (get m n)) (sym same)
entry_where false k n e es m h s rest =
    rest m ∙ ap (λ b. option_or (cond b (Some e.1) (find look_cmp (look k n) es)) (get m n)) (sym (untied (name_cmp k e.0.key) (name_cmp n e.0.run) h))

under_found : (k n : Name) (es : List (Look × RunId)) (m : Found) → T (is_sorted look_cmp es)
    → get (fold with_run m (filter (at_key k) es)) n ≡ option_or (find look_cmp (look k n) es) (get m n)
under_found k n [] m s = refl
under_found k n (e ∷ es) m s =
    entry_where (at_key k e) k n e es m refl s (λ f. under_found k n es f (second (below_all look_cmp e.0 es) (is_sorted look_cmp es) s))

or_where : {A : Type 0} (b : Bool) (x : A) (p : Option A) → option_or (cond b (Some x) None) p ≡ cond b (Some x) p
or_where true x p = refl
or_where false x p = refl

found_one : (looks : Index) (kept : Kept) → IsIndex looks kept → (m : Found) (k : Key) (n : Name)
    → get (with_readers looks m k) n ≡ cond (has_read (get kept n) (key_name k)) (Some (run_of n)) (get m n)
found_one looks kept index m k n =
    under_found (key_name k) n (entries looks) m (entries_sorted looks)
    ∙ ap (λ o. option_or o (get m n)) (sym (get-entries looks (look (key_name k) n)) ∙ index.exact (look (key_name k) n))
    ∙ or_where (has_read (get kept n) (key_name k)) (run_of n) (get m n)

-- ---- the looks at all keys

found_all : (looks : Index) (kept : Kept) → IsIndex looks kept → (keys : List Key) (m : Found) (n : Name)
    → get (fold (with_readers looks) m keys) n ≡ cond (list_any (λ k. has_read (get kept n) (key_name k)) keys) (Some (run_of n)) (get m n)
found_all looks kept index [] m n = refl
found_all looks kept index (k ∷ ks) m n =
    found_all looks kept index ks (with_readers looks m k) n
    ∙ ap (cond (list_any (λ x. has_read (get kept n) (key_name x)) ks) (Some (run_of n))) (found_one looks kept index m k n)
    ∙ either (has_read (get kept n) (key_name k)) (list_any (λ x. has_read (get kept n) (key_name x)) ks) (Some (run_of n)) (get m n)

none_any : {X : Type 0} (xs : List X) → list_any (λ _. false) xs ≡ false
none_any [] = refl
none_any (x ∷ xs) = none_any xs

map_where : {A B : Type 0} (b : Bool) (x : A) (y : B) → cond b (Some y) None ≡ option_map (λ _. y) (cond b (Some x) None)
map_where true x y = refl
map_where false x y = refl

keys_met : (o : Option Ran) (keys : List Key) (id : RunId)
    → cond (list_any (λ k. has_read o (key_name k)) keys) (Some id) None ≡ option_map (λ _. id) (passing (λ ran. meets ran.keys keys) o)
keys_met None keys id = ap (λ b. cond b (Some id) None) (none_any keys)
keys_met (Some ran) keys id =
    ap (λ b. cond b (Some id) None) (any_same (λ k. has_read (Some ran) (key_name k)) (has_key ran.keys)
    (λ k. any_same (λ j. eq_by_cmp name_cmp (key_name k) (key_name j)) (same_key k) (same_named k) ran.keys) keys)
    ∙ map_where (meets ran.keys keys) ran id

-- ---- entries that pass a test, each with what its key makes

module _ {K X Y : Type 0} (R : K → K → Ordering) (p : K × X → Bool) (f : K → Y) where
  abbrev shown : List (K × X) → List (K × Y)
  shown es = map {B = K × Y} (λ (e : K × X). (e.0, f e.0)) (filter p es)

  below_shown : (k : K) (es : List (K × X)) → T (below_all R k es) → T (below_all R k (shown es))
  below_shown k [] h = tt
  below_shown k (e ∷ es) h =
      let rest = below_shown k es (second (is_lt (R k e.0)) (below_all R k es) h) in
      elim (p e) as (λ b. T (below_all R k (map {B = K × Y} (λ (d : K × X). (d.0, f d.0)) (cond b (e ∷ filter p es) (filter p es))))) [
        | true ↦ both (is_lt (R k e.0)) (below_all R k (shown es)) (first (is_lt (R k e.0)) (below_all R k es) h) rest
        | false ↦ rest
      ]

  sorted_shown : (es : List (K × X)) → T (is_sorted R es) → T (is_sorted R (shown es))
  sorted_shown [] h = tt
  sorted_shown (e ∷ es) h =
      let rest = sorted_shown es (second (below_all R e.0 es) (is_sorted R es) h) in
      elim (p e) as (λ b. T (is_sorted R (map {B = K × Y} (λ (d : K × X). (d.0, f d.0)) (cond b (e ∷ filter p es) (filter p es))))) [
        | true ↦ both (below_all R e.0 (shown es)) (is_sorted R (shown es)) (below_shown e.0 es (first (below_all R e.0 es) (is_sorted R es) h)) rest
        | false ↦ rest
      ]

  abbrev made : K → Option X → Option Y
  made q o = option_map (λ _. f q) (passing (λ x. p (q, x)) o)

  find_where : CmpEqualImpliesEq R → (b t : Bool) (q : K) (e : K × X) (es : List (K × X)) → p e ≡ b → eq_by_cmp R q e.0 ≡ t → T (is_sorted R (e ∷ es))
      → find R q (shown es) ≡ made q (find R q es)
      → find R q (map {B = K × Y} (λ (d : K × X). (d.0, f d.0)) (cond b (e ∷ filter p es) (filter p es))) ≡ made q (cond t (Some e.1) (find R q es))
  find_where exact true true q e es passes here s rest =
      let same = tells_apart exact q e.0 here in
      ap (λ c. cond c (Some (f e.0)) (find R q (shown es))) here ∙ ap (λ k. Some (f k)) (sym same)
      ∙ ap (λ c. option_map (λ _. f q) (cond c (Some e.1) None)) (sym (ap (λ k. p (k, e.1)) same ∙ passes))
  find_where exact false true q e es passes here s rest =
      rest ∙ ap (made q) (none_behind R exact q e es s here)
      ∙ ap (λ c. option_map (λ _. f q) (cond c (Some e.1) None)) (sym (ap (λ k. p (k, e.1)) (tells_apart exact q e.0 here) ∙ passes))
  find_where exact true false q e es passes here s rest = ap (λ c. cond c (Some (f e.0)) (find R q (shown es))) here ∙ rest
  find_where exact false false q e es passes here s rest = rest

  find_shown : CmpEqualImpliesEq R → (q : K) (es : List (K × X)) → T (is_sorted R es) → find R q (shown es) ≡ made q (find R q es)
  find_shown exact q [] s = refl
  find_shown exact q (e ∷ es) s =
      find_where exact (p e) (eq_by_cmp R q e.0) q e es refl refl s (find_shown exact q es (second (below_all R e.0 es) (is_sorted R es) s))

  seconds : (es : List (K × X)) → map (λ e. e.1) (map {B = K × Y} (λ (e : K × X). (e.0, f e.0)) es) ≡ map (λ e. f e.0) es
  seconds [] = refl
  seconds (e ∷ es) = ap (λ ys. f e.0 ∷ ys) (seconds es)

-- ---- all that is found

found_entries : (looks : Index) (kept : Kept) (keys : List Key) → IsIndex looks kept
    → entries (found_in looks keys) ≡ shown name_cmp (looked_at keys) run_of (entries kept)
found_entries looks kept keys index =
    same_entries name_cmp names_total exact_names _ _ (entries_sorted (found_in looks keys)) (sorted_shown name_cmp (looked_at keys) run_of (entries kept) (entries_sorted kept)) (λ q.
    sym (get-entries (found_in looks keys) q)
    ∙ found_all looks kept index keys empty q
    ∙ ap (cond (list_any (λ k. has_read (get kept q) (key_name k)) keys) (Some (run_of q))) (get-empty name_cmp q)
    ∙ keys_met (get kept q) keys (run_of q)
    ∙ ap (made name_cmp (looked_at keys) run_of q) (get-entries kept q)
    ∙ sym (find_shown name_cmp (looked_at keys) run_of exact_names q (entries kept) (entries_sorted kept)))

pub readers_found : (looks : Index) (kept : Kept) (keys : List Key) → IsIndex looks kept → values (found_in looks keys) ≡ readers_of kept keys
unfolding readers_of
readers_found looks kept keys index =
    ap (map (λ e. e.1)) (found_entries looks kept keys index) ∙ seconds name_cmp (looked_at keys) run_of (filter (looked_at keys) (entries kept))
