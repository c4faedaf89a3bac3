-- Finite maps under an exact total order: what they have at a key after a change, and how they are built up from their entries.
use Rattle.std.proofs.Common.{◌≡◌, Bool, true, false, cond, ◌&&◌, List, [], ◌∷◌, refl, sym, ap, ◌∙◌, T, Ordering, Less, Equal, Greater}
use Rattle.std.specs.Prelude.{◌≢◌, Option, Some, None}
use Rattle.std.specs.Cmp.{IsTotalOrder, eq_by_cmp_equiv}
use Rattle.std.specs.List.{AllByRecursion}
use Rattle.std.specs.List.Sorted.{IsStrictlySortedBy}
use Rattle.std.specs.Map.{keys_of}
use Rattle.std.specs.Ordering.{eq_by_cmp, is_eq, is_lt}
use Rattle.std.specs.FinMap.{FinMap, get, insert, remove, empty, entries, keys, get-insert, get-remove, get-entries, get-empty, entries_sorted, same_map}
use Rattle.std.specs.FinMap.Entries.{find, is_sorted, below_all}
use Rattle.std.proofs.lemmas.Map.{lookup-none}
use Rattle.std.proofs.lemmas.Map.Entries.{none_past_head}
use Rattle.std.proofs.lemmas.Map.Keys.{IsDistinct-from_sorted}
use Rattle.std.proofs.lemmas.Map.Lookups.{CmpEqualImpliesEq}
use Rattle.eb_base.proofs.MapLaws.{find-lookup}

-- ---- the entries ascend

first : (a b : Bool) → T (a && b) → T a
first true b h = tt
first false b h = absurd h

second : (a b : Bool) → T (a && b) → T b
second true b h = h
second false b h = absurd h

less : (r : Ordering) → T (is_lt r) → r ≡ Less
less Less h = refl
less Equal h = absurd h
less Greater h = absurd h

above : {K X : Type 0} (R : K → K → Ordering) (k : K) (es : List (K × X)) → T (below_all R k es) → AllByRecursion (λ y. R k y ≡ Less) (keys_of es)
above R k [] h = tt
above R k (e ∷ es) h = (less (R k e.0) (first (is_lt (R k e.0)) (below_all R k es) h), above R k es (second (is_lt (R k e.0)) (below_all R k es) h))

ascending : {K X : Type 0} (R : K → K → Ordering) (es : List (K × X)) → T (is_sorted R es) → IsStrictlySortedBy R (keys_of es)
unfolding IsStrictlySortedBy
ascending R [] h = tt
ascending R (e ∷ es) h = (above R e.0 es (first (below_all R e.0 es) (is_sorted R es) h), ascending R es (second (below_all R e.0 es) (is_sorted R es) h))

pub keys_ascend : {K X : Type 0} {R : K → K → Ordering} (m : FinMap R X) → IsStrictlySortedBy R (keys m)
keys_ascend {R = R} m = ascending R (entries m) (entries_sorted m)

-- ---- one key

unequal : (r : Ordering) → (r ≡ Equal → ⊥) → is_eq r ≡ false
unequal Less h = refl
unequal Equal h = absurd (h refl)
unequal Greater h = refl

apart : {K : Type 0} {R : K → K → Ordering} → CmpEqualImpliesEq R → (k q : K) → q ≢ k → eq_by_cmp R q k ≡ false
apart {R = R} exact k q other = unequal (R q k) (λ e. other (exact q k e))

module _ {K X : Type 0} {R : K → K → Ordering} (o : IsTotalOrder R) where
  pub put_here : (m : FinMap R X) (k : K) (x : X) → get (insert m k x) k ≡ Some x
  put_here m k x = get-insert o m k x k ∙ ap (λ b. cond b (Some x) (get m k)) ((eq_by_cmp_equiv o).refl k)

  pub taken_here : (m : FinMap R X) (k : K) → get (remove m k) k ≡ None
  taken_here m k = get-remove o m k k ∙ ap (λ b. cond b None (get m k)) ((eq_by_cmp_equiv o).refl k)

  pub put_elsewhere : CmpEqualImpliesEq R → (m : FinMap R X) (k q : K) (x : X) → q ≢ k → get (insert m k x) q ≡ get m q
  put_elsewhere exact m k q x other = get-insert o m k x q ∙ ap (λ b. cond b (Some x) (get m q)) (apart exact k q other)

  pub taken_elsewhere : CmpEqualImpliesEq R → (m : FinMap R X) (k q : K) → q ≢ k → get (remove m k) q ≡ get m q
  taken_elsewhere exact m k q other = get-remove o m k q ∙ ap (λ b. cond b None (get m q)) (apart exact k q other)

-- ---- from its entries

-- the entries put in, one after the other
abbrev pub put_all : {K X : Type 0} {R : K → K → Ordering} → FinMap R X → List (K × X) → FinMap R X
put_all m [] = m
put_all m (e ∷ es) = put_all (insert m e.0 e.1) es

abbrev or_else : {X : Type 0} → Option X → Option X → Option X
or_else None other = other
or_else (Some x) other = Some x

where_put : {X : Type 0} (b : Bool) (x : X) (later here : Option X) → (b ≡ true → later ≡ None) → or_else later (cond b (Some x) here) ≡ or_else (cond b (Some x) later) here
where_put true x later here h = ap (λ l. or_else l (Some x)) (h refl)
where_put false x later here h = refl

or_nothing : {X : Type 0} (found : Option X) → or_else found None ≡ found
or_nothing None = refl
or_nothing (Some x) = refl

module _ {K X : Type 0} {R : K → K → Ordering} (o : IsTotalOrder R) where
  get-put_all : (es : List (K × X)) (m : FinMap R X) (q : K) → IsStrictlySortedBy R (keys_of es) → get (put_all m es) q ≡ or_else (find R q es) (get m q)
  unfolding IsStrictlySortedBy
  get-put_all [] m q h = refl
  get-put_all (e ∷ es) m q h =
      let alone = IsDistinct-from_sorted R (keys_of (e ∷ es)) h in
      get-put_all es (insert m e.0 e.1) q h.1 ∙ ap (or_else (find R q es)) (get-insert o m e.0 e.1 q)
      ∙ where_put (eq_by_cmp R q e.0) e.1 (find R q es) (get m q)
      (λ is. find-lookup R es q ∙ lookup-none (eq_by_cmp R q) es (none_past_head (eq_by_cmp_equiv o) q e es alone is))

  pub put_all-entries : CmpEqualImpliesEq R → (m : FinMap R X) → put_all empty (entries m) ≡ m
  put_all-entries exact m = same_map o exact _ _ (λ q.
      get-put_all (entries m) empty q (keys_ascend m) ∙ ap (or_else (find R q (entries m))) (get-empty R q) ∙ or_nothing _ ∙ sym (get-entries m q))
