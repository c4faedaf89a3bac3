-- A map that is kept by a hash, under an equality that agrees with an exact total order, is the finite map of its entries.
use Rattle.std.proofs.Common.{◌≡◌, ℕ, length, Bool, true, false, cond, ◌&&◌, List, [], ◌∷◌, map, refl, sym, ◌∙◌, ap, T, subst}
use Rattle.std.specs.Prelude.{Some, None}
use Rattle.std.specs.Cmp.{IsTotalOrder, eq_by_cmp_equiv}
use Rattle.std.specs.Ordering.{eq_by_cmp, is_eq, is_lt}
use Rattle.std.specs.declared.cmp.Ordering.{Ordering}
use Rattle.std.specs.declared.cmp.Ordering.TheVariants.{Less, Equal, Greater}
use Rattle.std.specs.List.{AllByRecursion, IsDistinct}
use Rattle.std.specs.List.Sorted.{IsPermutation, IsStrictlySortedBy}
use Rattle.std.specs.Map.{lookup, keys_of}
use Rattle.std.specs.FinMap.{get, insert, remove, keys, entries, from_entries, entries_sorted, get-entries, len, len-entries}
use Rattle.std.specs.FinMap.Entries.{is_sorted, below_all}
use Rattle.std.proofs.lemmas.List.{length-map}
use Rattle.std.proofs.lemmas.List.Sorted.{IsPermutation-map, length_permutation}
use Rattle.std.proofs.lemmas.Map.Keys.{IsDistinct-from_sorted}
use Rattle.std.proofs.lemmas.Map.Lookups.{CmpEqualImpliesEq, map_keys, hash_map_IsPermutation_from_get}
use Rattle.indexmap.specs.Layout.{hash_map}
use Rattle.eb_base.proofs.MapLaws.{find-lookup, get-lookup, lookup-same, one_put, one_taken}

module _ {K X : Type 0} {R : K → K → Ordering} (o : IsTotalOrder R) (eq : K → K → Bool) (same : (x y : K) → eq x y ≡ eq_by_cmp R x y) where
  pub get-hashed : (es : List (K × X)) (q : K) → lookup (eq q) es ≡ get (from_entries {R = R} es) q
  get-hashed es q = lookup-same R eq same es q ∙ sym (get-lookup o es q)

  pub put-hashed : CmpEqualImpliesEq R → (es fs : List (K × X)) (k : K) (x : X) → ((q : K) → lookup (eq q) fs ≡ cond (eq k q) (Some x) (lookup (eq q) es)) → from_entries {R = R} fs ≡ insert (from_entries es) k x
  put-hashed exact es fs k x h = one_put o exact es fs k x (λ q.
      sym (lookup-same R eq same fs q) ∙ h q ∙ ap (λ b. cond b (Some x) (lookup (eq q) es)) (same k q)
      ∙ ap (cond (eq_by_cmp R k q) (Some x)) (lookup-same R eq same es q))

  pub taken-hashed : CmpEqualImpliesEq R → (es fs : List (K × X)) (k : K) → ((q : K) → lookup (eq q) fs ≡ cond (eq k q) None (lookup (eq q) es)) → from_entries {R = R} fs ≡ remove (from_entries es) k
  taken-hashed exact es fs k h = one_taken o exact es fs k (λ q.
      sym (lookup-same R eq same fs q) ∙ h q ∙ ap (λ b. cond b None (lookup (eq q) es)) (same k q)
      ∙ ap (cond (eq_by_cmp R k q) None) (lookup-same R eq same es q))

-- ---- the keys of the finite map are those of the entries, in another order

first : (a b : Bool) → T (a && b) → T a
first true b h = tt
first false b h = absurd h

second : (a b : Bool) → T (a && b) → T b
second true b h = h
second false b h = absurd h

less : (r : Ordering) → T (is_lt r) → r ≡ Less
less Less h = refl
less Equal h = absurd h
less Greater h = absurd h

equal : (r : Ordering) → is_eq r ≡ true → r ≡ Equal
equal Less h = absurd (subst T (sym h) tt)
equal Equal h = refl
equal Greater h = absurd (subst T (sym h) tt)

below_keys : {K X : Type 0} (R : K → K → Ordering) (k : K) (es : List (K × X)) → T (below_all R k es) → AllByRecursion (λ y. R k y ≡ Less) (keys_of es)
below_keys R k [] h = tt
below_keys R k (e ∷ es) h = (less _ (first _ _ h), below_keys R k es (second _ _ h))

pub sorted_keys : {K X : Type 0} (R : K → K → Ordering) (es : List (K × X)) → T (is_sorted R es) → IsStrictlySortedBy R (keys_of es)
unfolding IsStrictlySortedBy
sorted_keys R [] h = tt
sorted_keys R (e ∷ es) h = (below_keys R e.0 es (first _ _ h), sorted_keys R es (second _ _ h))

same_keys : {K X : Type 0} (es : List (K × X)) → map (λ e. e.0) (map_keys (λ k. k) es) ≡ keys_of es
same_keys [] = refl
same_keys (e ∷ es) = ap (λ ks. e.0 ∷ ks) (same_keys es)

module _ {K X : Type 0} {R : K → K → Ordering} (o : IsTotalOrder R) (exact : CmpEqualImpliesEq R) (eq : K → K → Bool) (same : (x y : K) → eq x y ≡ eq_by_cmp R x y) where
  found : (es : List (K × X)) (q : K) → lookup (eq_by_cmp R q) (entries (from_entries {R = R} es)) ≡ lookup (eq_by_cmp R q) es
  found es q = sym (find-lookup R (entries (from_entries {R = R} es)) q) ∙ sym (get-entries (from_entries {R = R} es) q) ∙ get-lookup o es q

  reordered : (es : List (K × X)) → IsDistinct (eq_by_cmp R) (keys_of es) → IsPermutation (map_keys (λ k. k) (entries (from_entries {R = R} es))) (map_keys (λ k. k) es)
  reordered es d =
      hash_map_IsPermutation_from_get (eq_by_cmp_equiv o) {S = ℕ} {T = ℕ} (hash_map (entries (from_entries {R = R} es)) 0 0) (hash_map es 0 0)
      (IsDistinct-from_sorted R _ (sorted_keys R (entries (from_entries {R = R} es)) (entries_sorted (from_entries {R = R} es)))) d (found es)
      (λ k. k) (λ x y h. exact x y (equal _ h))

  pub listed-hashed : (es : List (K × X)) → IsDistinct eq (keys_of es) → IsPermutation (keys (from_entries {R = R} es)) (keys_of es)
  listed-hashed es d =
      subst (λ ks. IsPermutation (keys (from_entries {R = R} es)) ks) (same_keys es)
      (subst (λ ks. IsPermutation ks (map (λ e. e.0) (map_keys (λ k. k) es))) (same_keys (entries (from_entries {R = R} es)))
      (IsPermutation-map (λ e. e.0) _ _ (reordered es (subst (λ e. IsDistinct e (keys_of es)) (λ i x y. same x y i) d))))

  pub counted-hashed : (es : List (K × X)) → IsDistinct eq (keys_of es) → length es ≡ len (from_entries {R = R} es)
  counted-hashed es d =
      let m = from_entries {R = R} es in
      sym (length-map es (λ e. e.0)) ∙ length_permutation (keys m) (keys_of es) (listed-hashed es d) ∙ length-map (entries m) (λ e. e.0) ∙ sym (len-entries m)
