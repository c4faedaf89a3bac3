-- The order of keys is total and tells them apart; sorting keys and dropping what is doubled puts them in order.
use mathlib.Core.Logic.{inl, inr}
use Rattle.std.proofs.Common.{◌≡◌, Decides, ℕ, Bool, ◌&&◌, ◌==◌, true, false, List, [], ◌∷◌, refl, sym, ◌∙◌, ap, subst, ⊎_elim, cond}
use Rattle.std.specs.Cmp.{IsTotalOrder, IsEquivalence, nat_cmp_total}
use Rattle.std.specs.List.{Contains, dedup}
use Rattle.std.specs.List.Sorted.{IsStrictlySortedBy, IsSorted, IsPermutation}
use Rattle.std.specs.Ordering.{nat_cmp, eq_by_cmp, is_eq}
use Rattle.std.proofs.lemmas.Bool.Decides.{same_from_decides}
use Rattle.std.proofs.lemmas.Cmp.{on_total, then_total, tied_itself}
use Rattle.std.proofs.lemmas.List.Kept.{Contains-dedup, Contains-from_dedup, IsStrictlySortedBy-dedup}
use Rattle.std.proofs.lemmas.List.Sorted.{Contains-permutation, IsPermutation-sym}
use Rattle.std.proofs.lemmas.Map.Lookups.{CmpEqualImpliesEq, exact_pairs, exact_unsigned}
use Rattle.std.proofs.lemmas.Map.Views.{tells_apart}
use Rattle.eb_scene.specs.contracts.keys.KeyPartialEq.TheImpl.{ghosts}
use Rattle.eb_scene.specs.Answers.{same_key}
use Rattle.eb_scene.specs.declared.keys.Key.{Key}
use Rattle.eb_scene.specs.declared.keys.Key.TheVariants.{Comp, Parent, Children, Exists, Asset}
use Rattle.eb_scene.proofs.SameKeys.{told_apart}
use Rattle.eb_eval.specs.Keys.{variant_of, scene_of, number_of, kind_of, key_cmp, in_order}
use Rattle.eb_eval.proofs.SortedLists.{In, in_list, list_has, same_list, inserted_from, inserted_keeps, inserted_itself, inserted_sorted, nothing_sorted}

pub keys_total : IsTotalOrder key_cmp
keys_total = then_total (then_total (then_total (on_total variant_of nat_cmp_total) (on_total scene_of nat_cmp_total)) (on_total number_of nat_cmp_total)) (on_total kind_of nat_cmp_total)

-- ---- a key from its four numbers

abbrev Four : Type 0
Four = ((ℕ × ℕ) × ℕ) × ℕ

abbrev four_of : Key → Four
four_of k = (((variant_of k, scene_of k), number_of k), kind_of k)

abbrev key_from : Four → Key
key_from p = cond (p.0.0.0 == 0) (Comp p.0.0.1 p.0.1 p.1) (cond (p.0.0.0 == 1) (Parent p.0.0.1 p.0.1)
    (cond (p.0.0.0 == 2) (Children p.0.0.1 p.0.1) (cond (p.0.0.0 == 3) (Exists p.0.0.1 p.0.1) (Asset p.0.1))))

rebuilt : (k : Key) → key_from (four_of k) ≡ k
rebuilt (Comp s n kind) = refl
rebuilt (Parent s n) = refl
rebuilt (Children s n) = refl
rebuilt (Exists s n) = refl
rebuilt (Asset n) = refl

pub exact_keys : CmpEqualImpliesEq key_cmp
exact_keys j k h =
    let pairs = exact_pairs _ nat_cmp (exact_pairs _ nat_cmp (exact_pairs nat_cmp nat_cmp exact_unsigned exact_unsigned) exact_unsigned) exact_unsigned in
    sym (rebuilt j) ∙ ap key_from (pairs (four_of j) (four_of k) h) ∙ rebuilt k

-- ---- keys in order

sorted_order : (keys : List Key) → IsStrictlySortedBy key_cmp (in_order keys)
sorted_order [] = nothing_sorted key_cmp
sorted_order (k ∷ ks) = inserted_sorted key_cmp keys_total (in_order ks) k (sorted_order ks)

in_after : (keys : List Key) (z : Key) → In keys z → In (in_order keys) z
in_after [] z h = absurd h
in_after (k ∷ ks) z h =
    ⊎_elim (λ e. subst (In (in_order (k ∷ ks))) e (inserted_itself key_cmp exact_keys (in_order ks) k)) (λ later. inserted_keeps key_cmp (in_order ks) k z (in_after ks z later)) h

in_before : (keys : List Key) (z : Key) → In (in_order keys) z → In keys z
in_before [] z h = absurd h
in_before (k ∷ ks) z h = ⊎_elim (λ e. inl e) (λ later. inr (in_before ks z later)) (inserted_from key_cmp (in_order ks) k z h)

-- keys in order are the keys that there were
pub ordered_has : (keys : List Key) (k : Key) → Contains keys k → Contains (in_order keys) k
ordered_has keys k c = list_has (in_order keys) k (in_after keys k (in_list keys k c))

pub ordered_from : (keys : List Key) (k : Key) → Contains (in_order keys) k → Contains keys k
ordered_from keys k c = list_has keys k (in_before keys k (in_list (in_order keys) k c))

-- ---- the test of equal keys, as it is derived

and_in_a_row : (a b c : Bool) → (a && (b && c)) ≡ ((a && b) && c)
and_in_a_row true b c = refl
and_in_a_row false b c = refl

derived_same : (j k : Key) → ghosts.eq j k ≡ same_key j k
derived_same (Comp s n kind) (Comp t m other) = and_in_a_row (s == t) (n == m) (kind == other)
derived_same (Parent s n) (Parent t m) = refl
derived_same (Children s n) (Children t m) = refl
derived_same (Exists s n) (Exists t m) = refl
derived_same (Asset n) (Asset m) = refl
derived_same _ _ = refl

tells : (j k : Key) → Decides (ghosts.eq j k) (j ≡ k)
tells j k = rw (derived_same j k) (told_apart j k)

tied : (j k : Key) → Decides (is_eq (key_cmp j k)) (j ≡ k)
tied j k = (λ h. tells_apart exact_keys j k h, λ e. subst (λ x. is_eq (key_cmp j x) ≡ true) e (ap is_eq (tied_itself keys_total j)))

ties : (j k : Key) → ghosts.eq j k ≡ eq_by_cmp key_cmp j k
ties j k = same_from_decides (ghosts.eq j k) (is_eq (key_cmp j k)) (tells j k) (tied j k)

turned : (j k : Key) → Decides (ghosts.eq k j) (j ≡ k)
turned j k = (λ h. sym ((tells k j).0 h), λ e. (tells k j).1 (sym e))

laws : IsEquivalence ghosts.eq
laws = record {
  refl = λ k. (tells k k).1 refl;
  symm = λ j k. same_from_decides (ghosts.eq j k) (ghosts.eq k j) (tells j k) (turned j k);
  congr = λ j k x h. ap (λ y. ghosts.eq y x) ((tells j k).0 h);
}

-- ---- sorted, and without what is doubled

pub put_in_order : (keys sorted : List Key) → IsPermutation keys sorted → IsSorted key_cmp sorted → dedup ghosts.eq sorted ≡ in_order keys
put_in_order keys sorted moved s =
    same_list key_cmp keys_total (dedup ghosts.eq sorted) (in_order keys) (IsStrictlySortedBy-dedup keys_total ties sorted s) (sorted_order keys)
    (λ z h. in_after keys z (in_list keys z (Contains-permutation sorted keys z (IsPermutation-sym keys sorted moved) (Contains-from_dedup ghosts.eq sorted z (list_has (dedup ghosts.eq sorted) z h)))))
    (λ z h. in_list (dedup ghosts.eq sorted) z (Contains-dedup laws (λ j k. (tells j k).0) sorted z (Contains-permutation keys sorted z moved (list_has keys z (in_before keys z h)))))
