-- Going over an ascending list by its numbers, or by all numbers that it may have.
use Rattle.std.proofs.Common.{◌≡◌, ℕ, zero, suc, ◌+◌, ◌<◌, ◌≤◌, List, [], ◌∷◌, ◌++◌, Bool, true, false, cond, nat_eq, Option, Some, None, Ordering, Less, Equal, Greater, refl, sym, ap, subst, ◌∙◌, arith}
use Rattle.std.specs.Prelude.{flat_map}
use Rattle.std.specs.Map.{keys_of}
use Rattle.std.specs.BTreeMap.{is_at}
use Rattle.std.specs.List.{AllByRecursion}
use Rattle.std.specs.List.Sorted.{IsStrictlySortedBy}
use Rattle.std.specs.Ordering.{nat_cmp}
use Rattle.std.proofs.lemmas.Bool.Decides.{nat_tests}
use Rattle.std.proofs.lemmas.Cmp.{nat_cmp_total}
use Rattle.std.proofs.lemmas.Map.{lookup-none}
use Rattle.std.proofs.lemmas.Map.Keys.{sorted_head, sorted_tail}
use Rattle.std.proofs.lemmas.Map.Entries.{none_below_head}
use Rattle.eb_schema.proofs.TypeOrderFacts.{IsBelow}
use Rattle.eb_scene.specs.Projects.{numbered}
use Rattle.eb_scene.proofs.NumberFacts.{below_further}
use Rattle.eb_scene.proofs.LookUps.{passed, met}
use Rattle.eb_scene.proofs.ValidTables.{each_numbered}

-- so many numbers from this one on
abbrev pub numbers_from : ℕ → ℕ → List ℕ
numbers_from n zero = []
numbers_from n (suc count) = n ∷ numbers_from (n + 1) count

module _ {X Y : Type 0} (f : ℕ → Option X → List Y) where
  -- what f makes of each thing and its number
  abbrev pub made_of_each : List (ℕ × X) → List Y
  made_of_each es = flat_map (λ e. f e.0 (Some e.1)) es

  -- ---- by the numbers of the list

  by_keys_where : (es fs : List (ℕ × X)) → AllByRecursion (λ e. numbered es e.0 ≡ Some e.1) fs → flat_map (λ n. f n (numbered es n)) (keys_of fs) ≡ made_of_each fs
  by_keys_where es [] all = refl
  by_keys_where es (e ∷ fs) all = ap (λ r. f e.0 r ++ flat_map (λ n. f n (numbered es n)) (keys_of fs)) all.0 ∙ ap (λ ys. f e.0 (Some e.1) ++ ys) (by_keys_where es fs all.1)

  pub by_keys : (es : List (ℕ × X)) → IsStrictlySortedBy nat_cmp (keys_of es) → flat_map (λ n. f n (numbered es n)) (keys_of es) ≡ made_of_each es
  by_keys es sorted = by_keys_where es es (each_numbered es sorted)

  -- ---- by all numbers that it may have

  module _ (nothing : (n : ℕ) → f n None ≡ []) where
    -- n is none of the numbers from here on
    passed_by : (e : ℕ × X) (es : List (ℕ × X)) (n : ℕ) → e.0 < n → numbered (e ∷ es) n ≡ numbered es n
    passed_by e es n lt = passed n e es (grind (arith, nat_tests))

    later_looks : (look : ℕ → Option X) (e : ℕ × X) (es : List (ℕ × X)) (from : ℕ) → e.0 ≡ from → ((n : ℕ) → from ≤ n → look n ≡ numbered (e ∷ es) n) → (n : ℕ) → from + 1 ≤ n → look n ≡ numbered es n
    later_looks look e es from is same n le =
        let lower : from ≤ n = omega arith in
        let lt : e.0 < n = omega (arith, is) in
        same n lower ∙ passed_by e es n lt

    above_next : (k : ℕ) (ks : List ℕ) → IsBelow k ks → AllByRecursion (λ j. k + 1 ≤ j) ks
    above_next k [] below = tt
    above_next k (j ∷ ks) below = (grind (arith, nat_tests, below.0), above_next k ks below.1)

    shifted : (from count : ℕ) (ks : List ℕ) → AllByRecursion (λ k. k < from + suc count) ks → AllByRecursion (λ k. k < from + 1 + count) ks
    shifted from count [] all = tt
    shifted from count (k ∷ ks) all = let here = all.0 in (omega (arith, here), shifted from count ks all.1)

    nothing_left : (count from : ℕ) (look : ℕ → Option X) → ((n : ℕ) → from ≤ n → look n ≡ None) → flat_map (λ n. f n (look n)) (numbers_from from count) ≡ []
    nothing_left zero from look same = refl
    nothing_left (suc count) from look same =
        ap (λ r. f from r ++ flat_map (λ n. f n (look n)) (numbers_from (from + 1) count)) (same from (omega arith))
        ∙ ap (λ ys. ys ++ flat_map (λ n. f n (look n)) (numbers_from (from + 1) count)) (nothing from)
        ∙ nothing_left count (from + 1) look (λ n le. same n (omega arith))

    abbrev Within : ℕ → Type 0
    Within count = (from : ℕ) (look : ℕ → Option X) (es : List (ℕ × X)) → ((n : ℕ) → from ≤ n → look n ≡ numbered es n) → IsStrictlySortedBy nat_cmp (keys_of es)
        → AllByRecursion (λ k. from ≤ k) (keys_of es) → AllByRecursion (λ k. k < from + count) (keys_of es) → flat_map (λ n. f n (look n)) (numbers_from from count) ≡ made_of_each es

    within_where : (c : Ordering) (count from : ℕ) (look : ℕ → Option X) (e : ℕ × X) (es : List (ℕ × X)) → nat_cmp from e.0 ≡ c → ((n : ℕ) → from ≤ n → look n ≡ numbered (e ∷ es) n)
        → IsStrictlySortedBy nat_cmp (keys_of (e ∷ es)) → AllByRecursion (λ k. from ≤ k) (keys_of (e ∷ es)) → AllByRecursion (λ k. k < from + suc count) (keys_of (e ∷ es)) → Within count
        → flat_map (λ n. f n (look n)) (numbers_from from (suc count)) ≡ made_of_each (e ∷ es)
    within_where Less count from look e es is same sorted low high later =
        let below = sorted_head nat_cmp e.0 (keys_of es) sorted in
        let gone : look from ≡ None = same from (omega arith) ∙ lookup-none (is_at (nat_cmp from)) (e ∷ es) (none_below_head nat_cmp_total from e es sorted is) in
        ap (λ r. f from r ++ flat_map (λ n. f n (look n)) (numbers_from (from + 1) count)) gone
        ∙ ap (λ ys. ys ++ flat_map (λ n. f n (look n)) (numbers_from (from + 1) count)) (nothing from)
        ∙ later (from + 1) look (e ∷ es) (λ n le. same n (omega arith)) sorted (above_next from (keys_of (e ∷ es)) (is, below_further from e.0 (keys_of es) is below)) (shifted from count (keys_of (e ∷ es)) high)
    within_where Equal count from look e es is same sorted low high later =
        let key : e.0 ≡ from = grind (arith, nat_tests) in
        let below = sorted_head nat_cmp e.0 (keys_of es) sorted in
        let here : look from ≡ Some e.1 = same from (omega arith) ∙ ap (numbered (e ∷ es)) (sym key) ∙ met e.0 e.1 es in
        ap (λ r. f from r ++ flat_map (λ n. f n (look n)) (numbers_from (from + 1) count)) here
        ∙ ap (λ k. f k (Some e.1) ++ flat_map (λ n. f n (look n)) (numbers_from (from + 1) count)) (sym key)
        ∙ ap (λ ys. f e.0 (Some e.1) ++ ys)
        (later (from + 1) look es (later_looks look e es from key same) (sorted_tail nat_cmp e.0 (keys_of es) sorted)
        (above_next from (keys_of es) (subst (λ k. IsBelow k (keys_of es)) key below)) (shifted from count (keys_of es) high.1))
    within_where Greater count from look e es is same sorted low high later = let least = low.0 in absurd (grind (arith, nat_tests))

    within : (count : ℕ) → Within count
    within zero from look [] same sorted low high = refl
    within zero from look (e ∷ es) same sorted low high = let least = low.0 in let most = high.0 in absurd (omega (arith, least, most))
    within (suc count) from look [] same sorted low high = nothing_left (suc count) from look same
    within (suc count) from look (e ∷ es) same sorted low high = within_where (nat_cmp from e.0) count from look e es refl same sorted low high (within count)

    -- where all numbers of the list are among so many from this one on
    pub by_numbers : (from count : ℕ) (es : List (ℕ × X)) → IsStrictlySortedBy nat_cmp (keys_of es) → AllByRecursion (λ k. from ≤ k) (keys_of es) → AllByRecursion (λ k. k < from + count) (keys_of es)
        → flat_map (λ n. f n (numbered es n)) (numbers_from from count) ≡ made_of_each es
    by_numbers from count es sorted low high = within count from (numbered es) es (λ n le. refl) sorted low high
