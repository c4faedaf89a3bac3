-- How the numbers of bakers are gathered by their types.
use Rattle.std.proofs.Common.{◌≡◌, ℕ, zero, suc, ◌+◌, ◌-◌, ◌≤◌, ◌<◌, ◌==◌, Bool, true, false, List, [], ◌∷◌, ◌++◌, length, drop, get_or, Option, Some, None, refl, sym, ap, ◌∙◌, append_assoc, append-nil, arith, rules}
use Rattle.std.specs.Prelude.{option_map, slice_get, slice_set, slice_index_or}
use Rattle.std.proofs.lemmas.Bool.Decides.{nat_tests}
use Rattle.std.proofs.lemmas.List.{length-set, drop_more}
use Rattle.std.proofs.lemmas.Option.{slice_get_within}
use Rattle.eb_rules.specs.declared.plans.BakerPlan.{BakerPlan}
use Rattle.eb_rules.specs.Scopes.{is_in_all}
use Rattle.eb_rules.specs.Bakers.{filled, at_number, if_on, numbers_from, numbers_on, IsGathered, AreByType, is_on, Ascends}

-- the lists so far, and the numbers of what is left behind them, are those of all bakers
abbrev pub Gathers : ℕ → List (Option BakerPlan) → List (List ℕ) → List (Option BakerPlan) → Type 0
Gathers n left lists all = (k : ℕ) → k < 128 → option_map (λ ns. ns ++ numbers_from n (suc k) left) (slice_get lists k) ≡ Some (numbers_on (suc k) all)

-- one more behind the list at a place, or the same before what is behind it
noted_where : (lists : List (List ℕ)) (at k n : ℕ) (tail : List ℕ) (b : Bool) → (at == k) ≡ b → at < length lists
    → option_map (λ ns. ns ++ tail) (slice_get (slice_set lists at (slice_index_or lists at [] ++ n ∷ [])) k) ≡ option_map (λ ns. ns ++ if_on b n tail) (slice_get lists k)
noted_where [] at k n tail b e within = absurd (omega (arith, within))
noted_where (ns ∷ lists) zero zero n tail true e within = ap Some (append_assoc ns (n ∷ []) tail)
noted_where (ns ∷ lists) zero zero n tail false e within = absurd (search (rules, e))
noted_where (ns ∷ lists) zero (suc k) n tail true e within = absurd (grind (arith, nat_tests, e))
noted_where (ns ∷ lists) zero (suc k) n tail false e within = refl
noted_where (ns ∷ lists) (suc at) zero n tail true e within = absurd (grind (arith, nat_tests, e))
noted_where (ns ∷ lists) (suc at) zero n tail false e within = refl
noted_where (ns ∷ lists) (suc at) (suc k) n tail b e within = noted_where lists at k n tail b (same_test at k ∙ e) (omega (arith, within))
  where
    same_test : (a c : ℕ) → (a == c) ≡ (suc a == suc c)
    same_test a c = grind (arith, nat_tests)

gather_one : (n kind : ℕ) (x : BakerPlan) (left : List (Option BakerPlan)) (lists : List (List ℕ)) (all : List (Option BakerPlan)) → x.authoring ≡ kind → 0 < kind → kind ≤ 128 → length lists ≡ 128
    → Gathers n (Some x ∷ left) lists all → Gathers (n + 1) left (slice_set lists (kind - 1) (slice_index_or lists (kind - 1) [] ++ n ∷ [])) all
gather_one n kind x left lists all is some most many h k within =
    noted_where lists (kind - 1) k n (numbers_from (n + 1) (suc k) left) (x.authoring == suc k) (shifted kind x.authoring k is some) (omega (arith, some, most, many)) ∙ h k within
  where
    shifted : (kind given k : ℕ) → given ≡ kind → 0 < kind → ((kind - 1) == k) ≡ (given == suc k)
    shifted kind given k is some = grind (arith, nat_tests)

gather_where : (n : ℕ) (slot : Option BakerPlan) (left : List (Option BakerPlan)) (old new : List (List ℕ)) (all : List (Option BakerPlan)) → length old ≡ 128 → IsGathered slot n old new → Gathers n (slot ∷ left) old all → Gathers (n + 1) left new all
gather_where n None left old new all many is h = λ k within. rw is (h k within)
gather_where n (Some x) left old new all many is h = λ k within. rw is.is (gather_one n x.authoring x left old all refl is.some is.most many h k within)

pub item_next : {X : Type 0} (xs : List X) (i : ℕ) (x : X) → i < length xs → x ≡ get_or xs i x → drop i xs ≡ x ∷ drop (i + 1) xs
item_next xs i x within is = drop_more xs i x within ∙ ap (λ y. y ∷ drop (i + 1) xs) (sym is)

pub gather_next : (n : ℕ) (slot : Option BakerPlan) (left rest : List (Option BakerPlan)) (old new : List (List ℕ)) (all : List (Option BakerPlan)) → left ≡ slot ∷ rest → length old ≡ 128 → IsGathered slot n old new
    → Gathers n left old all → Gathers (n + 1) rest new all
gather_next n slot left rest old new all split many is h = gather_where n slot rest old new all many is (λ k within. rw split at (h k within))

pub gathered_many : (n : ℕ) (slot : Option BakerPlan) (old new : List (List ℕ)) → length old ≡ 128 → IsGathered slot n old new → length new ≡ 128
gathered_many n None old new many is = ap length is ∙ many
gathered_many n (Some x) old new many is = ap length is.is ∙ (length-set old (x.authoring - 1) _ ∙ many)

pub gathered : (n : ℕ) (lists : List (List ℕ)) (all : List (Option BakerPlan)) → Gathers n [] lists all → AreByType lists all
gathered n lists all h k within = all_of (slice_get lists k) (numbers_on (suc k) all) (h k within)
  where
    all_of : (o : Option (List ℕ)) (ns : List ℕ) → option_map (λ x. x ++ []) o ≡ Some ns → o ≡ Some ns
    all_of None ns e = absurd (search (rules, e))
    all_of (Some x) ns e = sym (ap Some (append-nil x)) ∙ e

-- each type has its list
pub no_gap : (lists shown : List (List ℕ)) (all : List (Option BakerPlan)) (n : ℕ) → AreByType lists all → shown ≡ lists → 0 < n → n ≤ 128 → length shown ≤ n - 1 → ⊥
no_gap lists shown all n are is some most short =
    let within : n - 1 < length lists = slice_get_within lists (n - 1) (numbers_on (suc (n - 1)) all) (are (n - 1) (omega (arith, some, most))) in
    let same = ap length is in
    omega (arith, within, same, short)

pub gather_first : (lists : List (List ℕ)) (all : List (Option BakerPlan)) → AreByType lists [] → Gathers 1 all lists all
gather_first lists all none k within = ap (option_map (λ ns. ns ++ numbers_on (suc k) all)) (none k within)

-- ---- which numbers are listed

-- a number that is listed, or stands among others
listed_where : (b : Bool) (m n : ℕ) (ns : List ℕ) → (m == n) ≡ false → is_in_all n (if_on b m ns) ≡ is_in_all n ns
listed_where true m n ns other = rw other refl
listed_where false m n ns other = refl

first_where : (b : Bool) (m : ℕ) (ns : List ℕ) → is_in_all m ns ≡ false → is_in_all m (if_on b m ns) ≡ b
first_where true m ns none = let same : (m == m) ≡ true = grind (arith, nat_tests) in rw same refl
first_where false m ns none = none

before_all : (m n kind : ℕ) (xs : List (Option BakerPlan)) → n < m → is_in_all n (numbers_from m kind xs) ≡ false
before_all m n kind [] low = refl
before_all m n kind (None ∷ xs) low = before_all (m + 1) n kind xs (omega (arith, low))
before_all m n kind (Some x ∷ xs) low = listed_where (x.authoring == kind) m n (numbers_from (m + 1) kind xs) (grind (arith, nat_tests, low)) ∙ before_all (m + 1) n kind xs (omega (arith, low))

at_place : (m n k kind : ℕ) (xs : List (Option BakerPlan)) → n ≡ m + k → is_in_all n (numbers_from m kind xs) ≡ is_on kind (filled (slice_get xs k))
at_place m n k kind [] e = refl
at_place m n zero kind (None ∷ xs) e = before_all (m + 1) n kind xs (omega (arith, e))
at_place m n (suc k) kind (None ∷ xs) e = at_place (m + 1) n k kind xs (omega (arith, e))
at_place m n zero kind (Some x ∷ xs) e =
    let same : n ≡ m = omega (arith, e) in rw same (first_where (x.authoring == kind) m (numbers_from (m + 1) kind xs) (before_all (m + 1) m kind xs (omega arith)))
at_place m n (suc k) kind (Some x ∷ xs) e =
    listed_where (x.authoring == kind) m n (numbers_from (m + 1) kind xs) (grind (arith, nat_tests, e)) ∙ at_place (m + 1) n k kind xs (omega (arith, e))

pub number_is_on : (kind n : ℕ) (bakers : List (Option BakerPlan)) → is_in_all n (numbers_on kind bakers) ≡ is_on kind (at_number n bakers)
number_is_on kind zero bakers = before_all 1 0 kind bakers (omega arith)
number_is_on kind (suc n) bakers = at_place 1 (suc n) n kind bakers (omega arith)

later : (m n : ℕ) (ns : List ℕ) → m ≤ n → Ascends n ns → Ascends m ns
later m n [] low up = tt
later m n (k ∷ ks) low up = let first = up.0 in (omega (arith, low, first), up.1)

ascend_where : (b : Bool) (m : ℕ) (ns : List ℕ) → Ascends (m + 1) ns → Ascends m (if_on b m ns)
ascend_where true m ns up = (omega arith, up)
ascend_where false m ns up = later m (m + 1) ns (omega arith) up

pub numbers_ascend : (m kind : ℕ) (xs : List (Option BakerPlan)) → Ascends m (numbers_from m kind xs)
numbers_ascend m kind [] = tt
numbers_ascend m kind (None ∷ xs) = later m (m + 1) (numbers_from (m + 1) kind xs) (omega arith) (numbers_ascend (m + 1) kind xs)
numbers_ascend m kind (Some x ∷ xs) = ascend_where (x.authoring == kind) m (numbers_from (m + 1) kind xs) (numbers_ascend (m + 1) kind xs)
