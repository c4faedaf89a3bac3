-- What a change of things under numbers keeps: what holds of each, what stands at each number, order and count.
use Rattle.std.proofs.Common.{◌≡◌, ℕ, suc, ◌≤◌, List, [], ◌∷◌, length, inl, inr, Bool, true, false, cond, nat_eq, is_some, Option, Some, None, Ordering, Less, Equal, Greater, is_eq, refl, sym, ap, subst, ◌∙◌, true≢false, arith}
use Rattle.std.specs.Map.{keys_of, set_value}
use Rattle.std.specs.BTreeMap.{is_at}
use Rattle.std.specs.List.{AllByRecursion}
use Rattle.std.specs.List.Sorted.{IsStrictlySortedBy}
use Rattle.std.specs.Ordering.{nat_cmp, match_ordering}
use Rattle.std.proofs.lemmas.Bool.{cases_Bool}
use Rattle.std.proofs.lemmas.Bool.Decides.{nat_tests}
use Rattle.std.proofs.lemmas.Cmp.{nat_cmp_total}
use Rattle.std.proofs.lemmas.Map.{lookup-none}
use Rattle.std.proofs.lemmas.Map.Keys.{sorted_tail}
use Rattle.std.proofs.lemmas.Map.Entries.{none_below_head}
use Rattle.eb_scene.specs.Projects.{numbered}
use Rattle.eb_scene.specs.Tables.{with_numbered, without_numbered, set_found, changed}
use Rattle.eb_schema.proofs.TypeOrderFacts.{IsBelow}
use Rattle.eb_scene.proofs.NumberFacts.{sorted_with_number}
use Rattle.eb_scene.proofs.Children.{at_is, keys_put, keys_changed}
use Rattle.eb_scene.proofs.LookUps.{equal, passed, met, found_put, found_put_apart, found_set, found_set_apart, found_gone, found_gone_apart}

-- ---- what holds of each

module _ {X : Type 0} (P : ℕ × X → Type 0) where
  put_where : (c : Ordering) (n : ℕ) (x : X) (e : ℕ × X) (es : List (ℕ × X)) → nat_cmp n e.0 ≡ c → P (n, x) → P e → AllByRecursion P es → AllByRecursion P (with_numbered es n x)
      → AllByRecursion P (match_ordering c ((n, x) ∷ e ∷ es) ((e.0, x) ∷ es) (e ∷ with_numbered es n x))
  put_where Less n x e es is here top rest later = (here, (top, rest))
  put_where Equal n x e es is here top rest later = let same : n ≡ e.0 = grind (arith, nat_tests) in (subst (λ k. P (k, x)) same here, rest)
  put_where Greater n x e es is here top rest later = (top, later)

  pub all_put : (n : ℕ) (x : X) (es : List (ℕ × X)) → P (n, x) → AllByRecursion P es → AllByRecursion P (with_numbered es n x)
  all_put n x [] here all = (here, tt)
  all_put n x (e ∷ es) here all = put_where (nat_cmp n e.0) n x e es refl here all.0 all.1 (all_put n x es here all.1)

  gone_where : (t : Bool) (n : ℕ) (e : ℕ × X) (es : List (ℕ × X)) → P e → AllByRecursion P es → AllByRecursion P (without_numbered es n) → AllByRecursion P (cond t es (e ∷ without_numbered es n))
  gone_where true n e es top rest later = rest
  gone_where false n e es top rest later = (top, later)

  pub all_gone : (n : ℕ) (es : List (ℕ × X)) → AllByRecursion P es → AllByRecursion P (without_numbered es n)
  all_gone n [] all = tt
  all_gone n (e ∷ es) all = gone_where (is_at (nat_cmp n) e.0) n e es all.0 all.1 (all_gone n es all.1)

  set_where : (t : Bool) (n : ℕ) (w : X) (e : ℕ × X) (es : List (ℕ × X)) → nat_eq e.0 n ≡ t → P (n, w) → P e → AllByRecursion P es → AllByRecursion P (set_value (is_at (nat_cmp n)) es w)
      → AllByRecursion P (cond t ((e.0, w) ∷ es) (e ∷ set_value (is_at (nat_cmp n)) es w))
  set_where true n w e es is here top rest later = let same : n ≡ e.0 = grind (arith, nat_tests) in (subst (λ k. P (k, w)) same here, rest)
  set_where false n w e es is here top rest later = (top, later)

  pub all_set : (n : ℕ) (w : X) (es : List (ℕ × X)) → P (n, w) → AllByRecursion P es → AllByRecursion P (set_value (is_at (nat_cmp n)) es w)
  all_set n w [] here all = tt
  all_set n w (e ∷ es) here all = set_where (is_at (nat_cmp n) e.0) n w e es (sym (at_is n e.0)) here all.0 all.1 (all_set n w es here all.1)

  found_where : (t : Bool) (n : ℕ) (x : X) (e : ℕ × X) (es : List (ℕ × X)) → nat_eq e.0 n ≡ t → P e → (numbered es n ≡ Some x → P (n, x)) → cond t (Some e.1) (numbered es n) ≡ Some x → P (n, x)
  found_where true n x e es is top later found =
      let same : e.0 ≡ n = grind (arith, nat_tests) in
      let value : e.1 ≡ x = cc in
      let both : e ≡ (n, x) = (λ i. (same i, value i)) in
      subst P both top
  found_where false n x e es is top later found = later found

  pub all_found : (n : ℕ) (x : X) (es : List (ℕ × X)) → AllByRecursion P es → numbered es n ≡ Some x → P (n, x)
  all_found n x [] all found = cc
  all_found n x (e ∷ es) all found = found_where (is_at (nat_cmp n) e.0) n x e es (sym (at_is n e.0)) all.0 (λ h. all_found n x es all.1 h) found

  changed_where : (f : X → X) (n : ℕ) (es : List (ℕ × X)) (r : Option X) → numbered es n ≡ r → ((x : X) → numbered es n ≡ Some x → P (n, x) → P (n, f x)) → AllByRecursion P es → AllByRecursion P (set_found f es n r)
  changed_where f n es None is kept all = all
  changed_where f n es (Some x) is kept all = all_set n (f x) es (kept x is (all_found n x es all is)) all

  pub all_changed : (f : X → X) (n : ℕ) (es : List (ℕ × X)) → ((x : X) → numbered es n ≡ Some x → P (n, x) → P (n, f x)) → AllByRecursion P es → AllByRecursion P (changed f es n)
  all_changed f n es kept all = changed_where f n es (numbered es n) refl kept all

-- ---- what stands at each number

module _ {X : Type 0} where
  pub put_at : (n m : ℕ) (x : X) (es : List (ℕ × X)) → numbered (with_numbered es n x) m ≡ cond (nat_eq m n) (Some x) (numbered es m)
  put_at n m x es =
      elim (cases_Bool (nat_eq m n)) [
        | inl is ↦ ap (numbered (with_numbered es n x)) (equal m n is) ∙ found_put n x es ∙ sym (ap (λ b. cond b (Some x) (numbered es m)) is)
        | inr is ↦ found_put_apart n m x es is ∙ sym (ap (λ b. cond b (Some x) (numbered es m)) is)
      ]

  pub set_at : (n m : ℕ) (o w : X) (es : List (ℕ × X)) → numbered es n ≡ Some o → numbered (set_value (is_at (nat_cmp n)) es w) m ≡ cond (nat_eq m n) (Some w) (numbered es m)
  set_at n m o w es found =
      elim (cases_Bool (nat_eq m n)) [
        | inl is ↦ ap (numbered (set_value (is_at (nat_cmp n)) es w)) (equal m n is) ∙ found_set n o w es found ∙ sym (ap (λ b. cond b (Some w) (numbered es m)) is)
        | inr is ↦ found_set_apart n m w es is ∙ sym (ap (λ b. cond b (Some w) (numbered es m)) is)
      ]

  pub gone_at : (n m : ℕ) (es : List (ℕ × X)) → IsStrictlySortedBy nat_cmp (keys_of es) → numbered (without_numbered es n) m ≡ cond (nat_eq m n) None (numbered es m)
  gone_at n m es sorted =
      elim (cases_Bool (nat_eq m n)) [
        | inl is ↦ ap (numbered (without_numbered es n)) (equal m n is) ∙ found_gone n es sorted ∙ sym (ap (λ b. cond b None (numbered es m)) is)
        | inr is ↦ found_gone_apart n m es is ∙ sym (ap (λ b. cond b None (numbered es m)) is)
      ]

  found_more : (e : ℕ × X) (es fs : List (ℕ × X)) → IsBelow e.0 (keys_of fs) → AllByRecursion (λ f. numbered es f.0 ≡ Some f.1) fs → AllByRecursion (λ f. numbered (e ∷ es) f.0 ≡ Some f.1) fs
  found_more e es [] below all = tt
  found_more e es (f ∷ fs) below all = let apart : nat_eq e.0 f.0 ≡ false = grind (arith, nat_tests, below.0) in (passed f.0 e es apart ∙ all.0, found_more e es fs below.1 all.1)

  -- each thing of an ascending list is found at its number
  pub each_numbered : (es : List (ℕ × X)) → IsStrictlySortedBy nat_cmp (keys_of es) → AllByRecursion (λ e. numbered es e.0 ≡ Some e.1) es
  unfolding IsStrictlySortedBy
  each_numbered [] sorted = tt
  each_numbered (e ∷ es) sorted = (met e.0 e.1 es, found_more e es es sorted.0 (each_numbered es sorted.1))

  -- ---- order

  pub order_put : (n : ℕ) (x : X) (es : List (ℕ × X)) → IsStrictlySortedBy nat_cmp (keys_of es) → IsStrictlySortedBy nat_cmp (keys_of (with_numbered es n x))
  order_put n x es sorted = subst (IsStrictlySortedBy nat_cmp) (sym (keys_put n x es)) (sorted_with_number n (keys_of es) sorted)

  pub order_changed : (f : X → X) (n : ℕ) (es : List (ℕ × X)) → IsStrictlySortedBy nat_cmp (keys_of es) → IsStrictlySortedBy nat_cmp (keys_of (changed f es n))
  order_changed f n es sorted = subst (IsStrictlySortedBy nat_cmp) (sym (keys_changed f es n)) sorted

  -- ---- count

  count_keys : (es fs : List (ℕ × X)) → keys_of es ≡ keys_of fs → length es ≡ length fs
  count_keys [] [] same = refl
  count_keys [] (f ∷ fs) same = cc
  count_keys (e ∷ es) [] same = cc
  count_keys (e ∷ es) (f ∷ fs) same = let rest : keys_of es ≡ keys_of fs = cc in ap suc (count_keys es fs rest)

  pub count_changed : (f : X → X) (n : ℕ) (es : List (ℕ × X)) → length (changed f es n) ≡ length es
  count_changed f n es = count_keys (changed f es n) es (keys_changed f es n)

  count_put_where : (c : Ordering) (n : ℕ) (x : X) (e : ℕ × X) (es : List (ℕ × X)) → length (with_numbered es n x) ≤ suc (length es)
      → length (match_ordering c ((n, x) ∷ e ∷ es) ((e.0, x) ∷ es) (e ∷ with_numbered es n x)) ≤ suc (suc (length es))
  count_put_where Less n x e es later = omega arith
  count_put_where Equal n x e es later = omega arith
  count_put_where Greater n x e es later = omega arith

  pub count_put : (n : ℕ) (x : X) (es : List (ℕ × X)) → length (with_numbered es n x) ≤ suc (length es)
  count_put n x [] = omega arith
  count_put n x (e ∷ es) = count_put_where (nat_cmp n e.0) n x e es (count_put n x es)

  count_again_where : (c : Ordering) (n : ℕ) (x : X) (e : ℕ × X) (es : List (ℕ × X)) → (c ≡ Less → ⊥) → (c ≡ Greater → length (with_numbered es n x) ≡ length es)
      → length (match_ordering c ((n, x) ∷ e ∷ es) ((e.0, x) ∷ es) (e ∷ with_numbered es n x)) ≡ suc (length es)
  count_again_where Less n x e es found later = absurd (found refl)
  count_again_where Equal n x e es found later = refl
  count_again_where Greater n x e es found later = ap suc (later refl)

  -- one that was there takes no room
  pub count_again : (n : ℕ) (x : X) (es : List (ℕ × X)) → IsStrictlySortedBy nat_cmp (keys_of es) → is_some (numbered es n) ≡ true → length (with_numbered es n x) ≡ length es
  count_again n x [] sorted there = absurd (true≢false (sym there))
  count_again n x (e ∷ es) sorted there =
      count_again_where (nat_cmp n e.0) n x e es
      (λ less.
      let none_there : numbered (e ∷ es) n ≡ None = lookup-none (is_at (nat_cmp n)) (e ∷ es) (none_below_head nat_cmp_total n e es sorted less) in
      absurd (true≢false (sym there ∙ ap is_some none_there)))
      (λ more.
      let later : numbered (e ∷ es) n ≡ numbered es n = ap (λ c. cond (is_eq c) (Some e.1) (numbered es n)) more in
      count_again n x es (sorted_tail nat_cmp e.0 (keys_of es) sorted) (sym (ap is_some later) ∙ there))

  count_gone_where : (t : Bool) (n : ℕ) (e : ℕ × X) (es : List (ℕ × X)) → length (without_numbered es n) ≤ length es → length (cond t es (e ∷ without_numbered es n)) ≤ suc (length es)
  count_gone_where true n e es later = omega arith
  count_gone_where false n e es later = omega arith

  pub count_gone : (n : ℕ) (es : List (ℕ × X)) → length (without_numbered es n) ≤ length es
  count_gone n [] = omega arith
  count_gone n (e ∷ es) = count_gone_where (is_at (nat_cmp n) e.0) n e es (count_gone n es)
