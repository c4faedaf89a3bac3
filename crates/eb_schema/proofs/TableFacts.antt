-- Indices of a list by number and by name: what one insert does to them.
use Rattle.std.proofs.Common.{◌≡◌, ℕ, zero, suc, ◌+◌, ◌-◌, ◌<◌, ◌≤◌, List, [], ◌∷◌, length, get_or, take, drop, Bool, true, false, cond, nat_eq, Option, Some, None, Ordering, Less, Equal, Greater, is_eq, nat_cmp, refl, sym, ap, ◌∙◌, drop-cons, zero-add, true≢false, arith, BTreeMap, Vec, Global}
use Rattle.std.specs.Prelude.{◌||◌, option_map}
use Rattle.std.specs.Str.{bytes_eq}
use Rattle.std.specs.Cmp.{IsTotalOrder, tied_itself, nat_cmp_total}
use Rattle.std.specs.Cmp.Lexicographic.{slice_cmp, nat_list_cmp_total}
use Rattle.std.specs.List.{slice_get, find, list_any}
use Rattle.std.specs.Option.{option_and_then}
use Rattle.std.specs.Map.{lookup}
use Rattle.std.specs.Ordering.{match_ordering}
use Rattle.std.specs.BTreeMap.{insert_entry, is_at, get}
use Rattle.std.proofs.Math.ListN.{drop_of_length-le}
use Rattle.std.proofs.lemmas.Bool.Decides.{nat_tests}
use Rattle.std.proofs.lemmas.Cmp.{nat_list_eq_equiv}
use Rattle.std.proofs.lemmas.Map.Text.{is_eq-slice_cmp}
use Rattle.std.proofs.lemmas.Map.Lookups.{CmpEqualImpliesEq, exact_unsigned, exact_bytes}
use Rattle.eb_schema.specs.Tables.{first_from, stands_before, under_name}

pub swap_tests : {V : Type 0} (a b : Bool) (v w : V) (o : Option V) → (a ≡ true → b ≡ true → ⊥) → cond b (Some w) (cond a (Some v) o) ≡ cond a (Some v) (cond b (Some w) o)
swap_tests true true v w o never = absurd (never refl refl)
swap_tests true false v w o never = refl
swap_tests false b v w o never = refl

pub one_test : {V : Type 0} (a b : Bool) (v w : V) (o : Option V) → a ≡ b → cond b (Some v) o ≡ cond a (Some v) (cond b (Some w) o)
one_test true true v w o same = refl
one_test true false v w o same = absurd (true≢false same)
one_test false true v w o same = absurd (true≢false (sym same))
one_test false false v w o same = refl

is_eq_true : (o : Ordering) → is_eq o ≡ true → o ≡ Equal
is_eq_true Less h = absurd (true≢false (sym h))
is_eq_true Equal h = refl
is_eq_true Greater h = absurd (true≢false (sym h))

-- keys are compared by what f reads of them
module _ {B K V : Type 0} (R : B → B → Ordering) (total : IsTotalOrder R) (exact : CmpEqualImpliesEq R) (f : K → B) (q : B) (k : K) (v : V) where
  abbrev pub found : List (K × V) → Option V
  found es = lookup (is_at (λ x. R q (f x))) es

  insert_where : (o : Ordering) (e : K × V) (es : List (K × V)) → R (f k) (f e.0) ≡ o → found (insert_entry (λ x y. R (f x) (f y)) es k v) ≡ cond (is_eq (R q (f k))) (Some v) (found es)
      → found (match_ordering o ((k, v) ∷ e ∷ es) ((e.0, v) ∷ es) (e ∷ insert_entry (λ x y. R (f x) (f y)) es k v)) ≡ cond (is_eq (R q (f k))) (Some v) (found (e ∷ es))
  insert_where Less e es is later = refl
  insert_where Equal e es is later =
      one_test (is_eq (R q (f k))) (is_eq (R q (f e.0))) v e.1 (found es) (ap (λ b. is_eq (R q b)) (exact _ _ is))
  insert_where Greater e es is later =
      ap (cond (is_eq (R q (f e.0))) (Some e.1)) later
      ∙ swap_tests (is_eq (R q (f k))) (is_eq (R q (f e.0))) v e.1 (found es)
      (λ a b. let same : f k ≡ f e.0 = sym (exact _ _ (is_eq_true _ a)) ∙ exact _ _ (is_eq_true _ b) in
      let tied : R (f k) (f e.0) ≡ Equal = ap (R (f k)) (sym same) ∙ tied_itself total (f k) in
      cc)

  pub lookup-insert_entry : (es : List (K × V)) → found (insert_entry (λ x y. R (f x) (f y)) es k v) ≡ cond (is_eq (R q (f k))) (Some v) (found es)
  lookup-insert_entry [] = refl
  lookup-insert_entry (e ∷ es) = insert_where _ e es refl (lookup-insert_entry es)

-- ---- the first of a list from its last part on

later_first : {X : Type 0} (test : X → Bool) (items : List X) (i : ℕ) (x : X) → 0 < i → i ≤ length items → x ≡ get_or items (i - 1) x
    → first_from (i - 1) test (drop (i - 1) items) ≡ cond (test x) (Some (i - 1)) (first_from i test (drop i items))
later_first test items i x most fits is =
    let back : suc (i - 1) ≡ i = omega arith in
    let here : drop (i - 1) items ≡ x ∷ drop i items = drop-cons items (i - 1) x (omega arith) ∙ ap (λ y. y ∷ drop (suc (i - 1)) items) (sym is) ∙ ap (λ n. x ∷ drop n items) back in
    ap (first_from (i - 1) test) here ∙ ap (λ n. cond (test x) (Some (i - 1)) (first_from n test (drop i items))) back

nat_tests_agree : (q k : ℕ) → is_eq (nat_cmp q k) ≡ nat_eq k q
nat_tests_agree q k = grind arith

-- one number more
pub numbers_more : {X : Type 0} (items : List X) (i : ℕ) (x : X) → 0 < i → i ≤ length items → x ≡ get_or items (i - 1) x → (number_of : X → ℕ) (m n : BTreeMap ℕ ℕ)
    → n.entries ≡ insert_entry nat_cmp m.entries (number_of x) (i - 1)
    → ((q : ℕ) → get nat_cmp m q ≡ first_from i (λ y. nat_eq (number_of y) q) (drop i items)) → (q : ℕ) → get nat_cmp n q ≡ first_from (i - 1) (λ y. nat_eq (number_of y) q) (drop (i - 1) items)
numbers_more items i x most fits is number_of m n put firsts q =
    ap (lookup (is_at (nat_cmp q))) put ∙ lookup-insert_entry nat_cmp nat_cmp_total exact_unsigned (λ k. k) q (number_of x) (i - 1) m.entries
    ∙ ap (λ b. cond b (Some (i - 1)) (get nat_cmp m q)) (nat_tests_agree q (number_of x)) ∙ ap (cond (nat_eq (number_of x) q) (Some (i - 1))) (firsts q)
    ∙ sym (later_first (λ y. nat_eq (number_of y) q) items i x most fits is)

-- an index put under a name
pub name_put : (m n : BTreeMap (Vec ℕ Global) ℕ) (key : Vec ℕ Global) (name : List ℕ) (i : ℕ) → key.items ≡ name → n.entries ≡ insert_entry (λ a b. slice_cmp nat_cmp a.items b.items) m.entries key i
    → (q : List ℕ) → under_name n q ≡ cond (bytes_eq q name) (Some i) (under_name m q)
name_put m n key name i called put q =
    ap (lookup (is_at (λ (k : Vec ℕ Global). slice_cmp nat_cmp q k.items))) put
    ∙ lookup-insert_entry (slice_cmp nat_cmp) nat_list_cmp_total exact_bytes (λ (k : Vec ℕ Global). k.items) q key i m.entries
    ∙ ap (λ b. cond b (Some i) (under_name m q)) (is_eq-slice_cmp q key.items ∙ ap (bytes_eq q) called)

-- one name more
pub names_more : {X : Type 0} (items : List X) (i : ℕ) (x : X) → 0 < i → i ≤ length items → x ≡ get_or items (i - 1) x → (test : List ℕ → X → Bool) (m n : List ℕ → Option ℕ)
    → ((q : List ℕ) → n q ≡ cond (test q x) (Some (i - 1)) (m q)) → ((q : List ℕ) → m q ≡ first_from i (test q) (drop i items)) → (q : List ℕ) → n q ≡ first_from (i - 1) (test q) (drop (i - 1) items)
names_more items i x most fits is test m n put firsts q = put q ∙ ap (cond (test q x) (Some (i - 1))) (firsts q) ∙ sym (later_first (test q) items i x most fits is)

-- none before a list of none
pub no_first : {X : Type 0} (test : X → Bool) (items : List X) (i : ℕ) → length items ≤ i → first_from i test (drop i items) ≡ None
no_first test items i le = ap (first_from i test) (drop_of_length-le items le)

-- ---- what the first says of the list

shifted_where : (b : Bool) (i : ℕ) (o p : Option ℕ) → o ≡ option_map suc p → cond b (Some (suc i)) o ≡ option_map suc (cond b (Some i) p)
shifted_where true i o p later = refl
shifted_where false i o p later = later

shifted : {X : Type 0} (test : X → Bool) (i : ℕ) (xs : List X) → first_from (suc i) test xs ≡ option_map suc (first_from i test xs)
shifted test i [] = refl
shifted test i (x ∷ xs) = shifted_where (test x) i (first_from (suc (suc i)) test xs) (first_from (suc i) test xs) (shifted test (suc i) xs)

behind : {X : Type 0} (x : X) (xs : List X) (o : Option ℕ) → option_and_then (slice_get (x ∷ xs)) (option_map suc o) ≡ option_and_then (slice_get xs) o
behind x xs None = refl
behind x xs (Some i) = refl

found_where : {X : Type 0} (b : Bool) (x : X) (xs : List X) (o p : Option ℕ) (found : Option X) → o ≡ option_map suc p → option_and_then (slice_get xs) p ≡ found → option_and_then (slice_get (x ∷ xs)) (cond b (Some 0) o) ≡ cond b (Some x) found
found_where true x xs o p found is later = refl
found_where false x xs o p found is later = ap (option_and_then (slice_get (x ∷ xs))) is ∙ behind x xs p ∙ later

-- the item at the first index is the first item
pub first_found : {X : Type 0} (test : X → Bool) (xs : List X) → option_and_then (slice_get xs) (first_from 0 test xs) ≡ find test xs
first_found test [] = refl
first_found test (x ∷ xs) = found_where (test x) x xs (first_from 1 test xs) (first_from 0 test xs) (find test xs) (shifted test 0 xs) (first_found test xs)

not_before : {X : Type 0} (test : X → Bool) (i j : ℕ) (xs : List X) → j ≤ i → stands_before (first_from i test xs) j ≡ false
not_before test i j [] le = refl
not_before test i j (x ∷ xs) le = not_where (test x) (not_before test (suc i) j xs (omega arith))
  where
    not_where : (b : Bool) → stands_before (first_from (suc i) test xs) j ≡ false → stands_before (cond b (Some i) (first_from (suc i) test xs)) j ≡ false
    not_where true later = grind (arith, nat_tests)
    not_where false later = later

before_where : (b : Bool) (i n : ℕ) (o : Option ℕ) (rest : Bool) → stands_before o (i + suc n) ≡ rest → stands_before (cond b (Some i) o) (i + suc n) ≡ (b || rest)
before_where true i n o rest later = grind (arith, nat_tests)
before_where false i n o rest later = later

-- the first stands before an index exactly where one before that index passes
any_before : {X : Type 0} (test : X → Bool) (i n : ℕ) (xs : List X) → stands_before (first_from i test xs) (i + n) ≡ list_any test (take n xs)
any_before test i zero xs = not_before test i (i + zero) xs (omega arith)
any_before test i (suc n) [] = refl
any_before test i (suc n) (x ∷ xs) =
    before_where (test x) i n (first_from (suc i) test xs) (list_any test (take n xs))
    (ap (stands_before (first_from (suc i) test xs)) (omega arith) ∙ any_before test (suc i) n xs)

pub any_within : {X : Type 0} (test : X → Bool) (n : ℕ) (xs : List X) → stands_before (first_from 0 test xs) n ≡ list_any test (take n xs)
any_within test n xs = ap (stands_before (first_from 0 test xs)) (sym (zero-add n)) ∙ any_before test 0 n xs

pub any_same : {X : Type 0} (p q : X → Bool) → ((x : X) → p x ≡ q x) → (xs : List X) → list_any p xs ≡ list_any q xs
any_same p q same [] = refl
any_same p q same (x ∷ xs) = rw (same x, any_same p q same xs) refl

pub find_same : {X : Type 0} (p q : X → Bool) → ((x : X) → p x ≡ q x) → (xs : List X) → find p xs ≡ find q xs
find_same p q same [] = refl
find_same p q same (x ∷ xs) = rw (same x, find_same p q same xs) refl

pub texts_turned : (a b : List ℕ) → bytes_eq a b ≡ bytes_eq b a
texts_turned a b = nat_list_eq_equiv.symm a b
