-- What a map of entries has at a key, and what changes where one entry changes: for any exact total order of keys.
use Rattle.std.proofs.Common.{◌≡◌, Bool, true, false, cond, ◌&&◌, List, [], ◌∷◌, map, refl, sym, ◌∙◌, ap, T, subst}
use Rattle.std.specs.Prelude.{Option, Some, None, option_map, is_some}
use Rattle.std.specs.Cmp.{IsTotalOrder, eq_by_cmp_equiv}
use Rattle.std.specs.Ordering.{eq_by_cmp, is_lt}
use Rattle.std.specs.declared.cmp.Ordering.{Ordering}
use Rattle.std.specs.declared.cmp.Ordering.TheVariants.{Less}
use Rattle.std.specs.BTreeMap.{is_at}
use Rattle.std.specs.Map.{lookup, keys_of}
use Rattle.std.specs.List.{AllByRecursion}
use Rattle.std.specs.List.Sorted.{IsStrictlySortedBy}
use Rattle.std.specs.FinMap.{FinMap, get, insert, remove, entries, from_entries, from_sorted, get-from_entries, get-insert, get-remove, get-entries, get-from_sorted, get-retain_keys, get_tied, entries_sorted, entries-from_sorted, same_map}
use Rattle.std.specs.FinMap.Entries.{find, is_sorted, below_all}
use Rattle.std.proofs.lemmas.Map.Lookups.{CmpEqualImpliesEq}
use Rattle.eb_base.specs.Maps.{map_values, passing, kept_values}

pub find-lookup : {K X : Type 0} (R : K → K → Ordering) (es : List (K × X)) (q : K) → find R q es ≡ lookup (is_at (R q)) es
find-lookup R [] q = refl
find-lookup R (e ∷ es) q = ap (cond (is_at (R q) e.0) (Some e.1)) (find-lookup R es q)

-- a look-up by an equality that agrees with the order
pub lookup-same : {K X : Type 0} (R : K → K → Ordering) (eq : K → K → Bool) → ((x y : K) → eq x y ≡ eq_by_cmp R x y) → (es : List (K × X)) (q : K) → lookup (eq q) es ≡ lookup (is_at (R q)) es
lookup-same R eq same [] q = refl
lookup-same {K} {X} R eq same (e ∷ es) q =
    ap (λ b. cond b (Some e.1) (lookup (eq q) es)) (same q e.0) ∙ ap (cond (is_at (R q) e.0) (Some e.1)) (lookup-same R eq same es q)

module _ {K X : Type 0} {R : K → K → Ordering} (o : IsTotalOrder R) where
  pub get-lookup : (es : List (K × X)) (q : K) → get (from_entries {R = R} es) q ≡ lookup (is_at (R q)) es
  get-lookup es q = get-from_entries o es q ∙ find-lookup R es q

  -- entries that differ at one key make maps that differ there
  pub one_put : CmpEqualImpliesEq R → (es fs : List (K × X)) (k : K) (x : X) → ((q : K) → lookup (is_at (R q)) fs ≡ cond (is_at (R k) q) (Some x) (lookup (is_at (R q)) es)) → from_entries {R = R} fs ≡ insert (from_entries es) k x
  one_put exact es fs k x h = same_map o exact _ _ (λ q.
      get-lookup fs q ∙ h q ∙ ap (λ b. cond b (Some x) (lookup (is_at (R q)) es)) ((eq_by_cmp_equiv o).symm k q)
      ∙ sym (get-insert o (from_entries es) k x q ∙ ap (cond (eq_by_cmp R q k) (Some x)) (get-lookup es q)))

  pub one_taken : CmpEqualImpliesEq R → (es fs : List (K × X)) (k : K) → ((q : K) → lookup (is_at (R q)) fs ≡ cond (is_at (R k) q) None (lookup (is_at (R q)) es)) → from_entries {R = R} fs ≡ remove (from_entries es) k
  one_taken exact es fs k h = same_map o exact _ _ (λ q.
      get-lookup fs q ∙ h q ∙ ap (λ b. cond b None (lookup (is_at (R q)) es)) ((eq_by_cmp_equiv o).symm k q)
      ∙ sym (get-remove o (from_entries es) k q ∙ ap (cond (eq_by_cmp R q k) None) (get-lookup es q)))

-- ---- entries in the keys' order are the map's

both : (a b : Bool) → T a → T b → T (a && b)
both true b p q = q
both false b p q = absurd p

is_less : (r : Ordering) → r ≡ Less → T (is_lt r)
is_less r e = subst (λ s. T (is_lt s)) (sym e) tt

above_all : {K X : Type 0} (R : K → K → Ordering) (k : K) (es : List (K × X)) → AllByRecursion (λ y. R k y ≡ Less) (keys_of es) → T (below_all R k es)
above_all R k [] h = tt
above_all R k (e ∷ es) h = both (is_lt (R k e.0)) (below_all R k es) (is_less (R k e.0) h.0) (above_all R k es h.1)

pub sorted_test : {K X : Type 0} (R : K → K → Ordering) (es : List (K × X)) → IsStrictlySortedBy R (keys_of es) → T (is_sorted R es)
unfolding IsStrictlySortedBy
sorted_test R [] h = tt
sorted_test R (e ∷ es) h = both (below_all R e.0 es) (is_sorted R es) (above_all R e.0 es h.0) (sorted_test R es h.1)

pub entries-from_entries : {K X : Type 0} {R : K → K → Ordering} → IsTotalOrder R → CmpEqualImpliesEq R → (es : List (K × X)) → IsStrictlySortedBy R (keys_of es) → entries (from_entries {R = R} es) ≡ es
entries-from_entries {R = R} o exact es h =
    let sorted = sorted_test R es h in
    let same : from_entries {R = R} es ≡ from_sorted {R = R} es = same_map o exact _ _ (λ q. get-from_entries o es q ∙ sym (get-from_sorted R es q sorted)) in
    ap entries same ∙ entries-from_sorted R es sorted

-- ---- maps that are made from maps

below_mapped : {K X Y : Type 0} (R : K → K → Ordering) (f : X → Y) (k : K) (es : List (K × X)) → below_all R k (map {B = K × Y} (λ (e : K × X). (e.0, f e.1)) es) ≡ below_all R k es
below_mapped R f k [] = refl
below_mapped R f k (e ∷ es) = ap (λ b. is_lt (R k e.0) && b) (below_mapped R f k es)

sorted_mapped : {K X Y : Type 0} (R : K → K → Ordering) (f : X → Y) (es : List (K × X)) → is_sorted R (map {B = K × Y} (λ (e : K × X). (e.0, f e.1)) es) ≡ is_sorted R es
sorted_mapped R f [] = refl
sorted_mapped R f (e ∷ es) = ap (λ b. b && is_sorted R (map (λ d. (d.0, f d.1)) es)) (below_mapped R f e.0 es) ∙ ap (λ b. below_all R e.0 es && b) (sorted_mapped R f es)

pub entries-map_values : {K X Y : Type 0} {R : K → K → Ordering} (f : X → Y) (m : FinMap R X) → entries (map_values f m) ≡ map {B = K × Y} (λ (e : K × X). (e.0, f e.1)) (entries m)
entries-map_values {R = R} f m = entries-from_sorted R _ (subst T (sym (sorted_mapped R f (entries m))) (entries_sorted m))

map_cond : {X Y : Type 0} (f : X → Y) (b : Bool) (x : X) (o : Option X) → cond b (Some (f x)) (option_map f o) ≡ option_map f (cond b (Some x) o)
map_cond f true x o = refl
map_cond f false x o = refl

find_mapped : {K X Y : Type 0} (R : K → K → Ordering) (f : X → Y) (q : K) (es : List (K × X)) → find R q (map {B = K × Y} (λ (e : K × X). (e.0, f e.1)) es) ≡ option_map f (find R q es)
find_mapped R f q [] = refl
find_mapped R f q (e ∷ es) = ap (cond (eq_by_cmp R q e.0) (Some (f e.1))) (find_mapped R f q es) ∙ map_cond f (eq_by_cmp R q e.0) e.1 (find R q es)

pub get-map_values : {K X Y : Type 0} {R : K → K → Ordering} (f : X → Y) (m : FinMap R X) (q : K) → get (map_values f m) q ≡ option_map f (get m q)
get-map_values {R = R} f m q =
    get-from_sorted R _ q (subst T (sym (sorted_mapped R f (entries m))) (entries_sorted m))
    ∙ find_mapped R f q (entries m) ∙ ap (option_map f) (sym (get-entries m q))

some_passing : {X : Type 0} (b : Bool) (x : X) → cond (is_some (cond b (Some x) None)) (Some x) None ≡ cond b (Some x) None
some_passing true x = refl
some_passing false x = refl

kept_passing : {X : Type 0} (p : X → Bool) (o : Option X) → cond (is_some (passing p o)) o None ≡ passing p o
kept_passing p None = refl
kept_passing p (Some x) = some_passing (p x) x

pub get-kept_values : {K X : Type 0} {R : K → K → Ordering} → IsTotalOrder R → (p : X → Bool) (m : FinMap R X) (q : K) → get (kept_values p m) q ≡ passing p (get m q)
get-kept_values o p m q =
    get-retain_keys m (λ k. is_some (passing p (get m k))) q (λ x tied. ap (λ v. is_some (passing p v)) (get_tied o m q x tied)) ∙ kept_passing p (get m q)
