-- Places under names: what one change of the map does, and one more name at the end of the list.
use Rattle.std.proofs.Common.{◌≡◌, ℕ, suc, ◌+◌, ◌<◌, ◌≤◌, ◌==◌, List, [], ◌∷◌, ◌++◌, length, get_or, take, drop, drop-cons, not, nat_lt, nat_eq, Bool, true, false, cond, Option, Some, None, is_eq, nat_cmp, refl, sym, ap, ◌∙◌, arith, rules, BTreeMap, Vec, Global}
use Rattle.std.specs.Prelude.{is_some, unwrap_or, bytes_eq}
use Rattle.std.specs.Option.{option_or, option_and_then, option_eq}
use Rattle.std.specs.List.{slice_get, find, position_from, position_or_len}
use Rattle.std.specs.Ordering.{eq_by_cmp}
use Rattle.std.specs.Cmp.{eq_by_cmp_equiv}
use Rattle.std.specs.Cmp.Lexicographic.{slice_cmp, bytes_decides, nat_list_cmp_total, nat_list_eq_equiv}
use Rattle.std.specs.Map.{KeepsOthers}
use Rattle.std.specs.BTreeMap.{UpdatesBy, is_at}
use Rattle.std.proofs.Math.ListN.{drop_of_length-le}
use Rattle.std.proofs.lemmas.Bool.Decides.{nat_tests}
use Rattle.std.proofs.lemmas.Iterator.Adapters.{position_from-zero}
use Rattle.std.proofs.lemmas.List.{take-append-drop}
use Rattle.std.proofs.lemmas.List.Folds.{find_at}
use Rattle.std.proofs.lemmas.List.Sums.{prefix_len-le-length}
use Rattle.std.proofs.lemmas.Option.{slice_get_past}
use Rattle.std.proofs.lemmas.Map.Text.{is_eq-slice_cmp}
use Rattle.eb_rule_names.specs.Places.{under_name, other_than}

-- ---- one change of the map

apart : (name q k : List ℕ) → bytes_eq name q ≡ false → is_eq (slice_cmp nat_cmp name k) ≡ true → is_eq (slice_cmp nat_cmp q k) ≡ false
apart name q k other here =
    is_eq-slice_cmp q k ∙ nat_list_eq_equiv.symm q k ∙ sym (nat_list_eq_equiv.congr name k q (sym (is_eq-slice_cmp name k) ∙ here)) ∙ other

other_name : (m n : BTreeMap (Vec ℕ Global) ℕ) (name q : List ℕ) → KeepsOthers (eq_by_cmp (λ (a b : Vec ℕ Global). slice_cmp nat_cmp a.items b.items)) (is_at (λ (k : Vec ℕ Global). slice_cmp nat_cmp name k.items)) m.entries n.entries
    → bytes_eq name q ≡ false → under_name n q ≡ under_name m q
unfolding KeepsOthers
other_name m n name q keeps other = keeps _ (λ x y. (eq_by_cmp_equiv nat_list_cmp_total).congr q x.items y.items) (λ k. apart name q k.items other)

update_where : (b : Bool) (m n : BTreeMap (Vec ℕ Global) ℕ) (name q : List ℕ) (w : Option ℕ) → bytes_eq name q ≡ b → under_name n name ≡ w → (bytes_eq name q ≡ false → under_name n q ≡ under_name m q)
    → under_name n q ≡ cond b w (under_name m q)
update_where true m n name q w is here other = ap (under_name n) (sym ((bytes_decides name q).0 is)) ∙ here
update_where false m n name q w is here other = other is

-- a change at one name
pub name_updates : (m n : BTreeMap (Vec ℕ Global) ℕ) (name : List ℕ) (w : Option ℕ) → UpdatesBy (λ (a b : Vec ℕ Global). slice_cmp nat_cmp a.items b.items) (λ (k : Vec ℕ Global). slice_cmp nat_cmp name k.items) m n w
    → (q : List ℕ) → under_name n q ≡ cond (bytes_eq q name) w (under_name m q)
name_updates m n name w h q = update_where (bytes_eq q name) m n name q w (nat_list_eq_equiv.symm name q) h.1 (other_name m n name q h.3)

-- ---- a place under a name that has none yet

or_none : (o : Option ℕ) → option_or o None ≡ o
or_none None = refl
or_none (Some i) = refl

none_is : (o : Option ℕ) → is_some o ≡ false → o ≡ None
none_is None h = refl
none_is (Some i) h = absurd (search rules)

some_stays : (o p : Option ℕ) → is_some o ≡ true → o ≡ option_or o p
some_stays None p h = absurd (search rules)
some_stays (Some i) p h = refl

new_where : (b : Bool) (m : List ℕ → Option ℕ) (name q : List ℕ) (at : ℕ) → bytes_eq q name ≡ b → is_some (m name) ≡ false → cond b (Some at) (m q) ≡ option_or (m q) (cond b (Some at) None)
new_where true m name q at is free = let none : m q ≡ None = ap m ((bytes_decides q name).0 is) ∙ none_is (m name) free in rw none refl
new_where false m name q at is free = sym (or_none (m q))

pub noted_new : (m n : List ℕ → Option ℕ) (name : List ℕ) (at : ℕ) → is_some (m name) ≡ false → ((q : List ℕ) → n q ≡ cond (bytes_eq q name) (Some at) (m q))
    → (q : List ℕ) → n q ≡ option_or (m q) (cond (bytes_eq q name) (Some at) None)
noted_new m n name at free put q = put q ∙ new_where (bytes_eq q name) m name q at refl free

there_where : (b : Bool) (m : List ℕ → Option ℕ) (name q : List ℕ) (at : ℕ) → bytes_eq q name ≡ b → is_some (m name) ≡ true → m q ≡ option_or (m q) (cond b (Some at) None)
there_where true m name q at is there = some_stays (m q) (Some at) (ap (λ t. is_some (m t)) ((bytes_decides q name).0 is) ∙ there)
there_where false m name q at is there = sym (or_none (m q))

pub noted_there : (m : List ℕ → Option ℕ) (name : List ℕ) (at : ℕ) → is_some (m name) ≡ true → (q : List ℕ) → m q ≡ option_or (m q) (cond (bytes_eq q name) (Some at) None)
noted_there m name at there q = there_where (bytes_eq q name) m name q at refl there

-- ---- a place taken away from under its name

pub is_place : (o : Option ℕ) (at : ℕ) → option_eq nat_eq o (Some at) ≡ true → o ≡ Some at
is_place None at h = absurd (search rules)
is_place (Some i) at h = let same : i ≡ at = grind (arith, nat_tests) in ap Some same

some_same : (i at : ℕ) → i ≡ at → cond (i == at) None (Some i) ≡ None
some_same i at same = grind (arith, nat_tests)

some_apart : (i at : ℕ) → i < at → cond (i == at) None (Some i) ≡ Some i
some_apart i at less = grind (arith, nat_tests)

forgotten_where : (b : Bool) (m : List ℕ → Option ℕ) (name q : List ℕ) (at : ℕ) → bytes_eq q name ≡ b → m name ≡ Some at → cond b None (m q) ≡ cond b (other_than at (m q)) (m q)
forgotten_where true m name q at is there = let here : m q ≡ Some at = ap m ((bytes_decides q name).0 is) ∙ there in sym (ap (other_than at) here ∙ some_same at at refl)
forgotten_where false m name q at is there = refl

pub forgotten : (m n : List ℕ → Option ℕ) (name : List ℕ) (at : ℕ) → m name ≡ Some at → ((q : List ℕ) → n q ≡ cond (bytes_eq q name) None (m q))
    → (q : List ℕ) → n q ≡ cond (bytes_eq q name) (other_than at (m q)) (m q)
forgotten m n name at there taken q = taken q ∙ forgotten_where (bytes_eq q name) m name q at refl there

-- ---- one more at the end of the list

push_where : (b : Bool) (i : ℕ) (rest pushed last : Option ℕ) → pushed ≡ option_or rest last → cond b (Some i) pushed ≡ option_or (cond b (Some i) rest) last
push_where true i rest pushed last later = refl
push_where false i rest pushed last later = later

position_push : {X : Type 0} (test : X → Bool) (i : ℕ) (xs : List X) (x : X) → position_from test i (xs ++ x ∷ []) ≡ option_or (position_from test i xs) (cond (test x) (Some (i + length xs)) None)
position_push test i [] x = ap (λ n. cond (test x) (Some n) None) (omega arith)
position_push test i (y ∷ xs) x =
    push_where (test y) i (position_from test (i + 1) xs) (position_from test (i + 1) (xs ++ x ∷ [])) (cond (test x) (Some (i + length (y ∷ xs))) None)
    (position_push test (i + 1) xs x ∙ ap (λ n. option_or (position_from test (i + 1) xs) (cond (test x) (Some n) None)) (omega arith))

within_where : (b : Bool) (i k n : ℕ) (rest : Option ℕ) → cond b (Some i) rest ≡ Some k → (rest ≡ Some k → k < i + 1 + n) → k < i + suc n
within_where true i k n rest h later = let same : i ≡ k = search rules in omega (arith, same)
within_where false i k n rest h later = let more = later h in omega (arith, more)

position_within : {X : Type 0} (test : X → Bool) (i : ℕ) (xs : List X) (k : ℕ) → position_from test i xs ≡ Some k → k < i + length xs
position_within test i [] k h = absurd (search rules)
position_within test i (x ∷ xs) k h = within_where (test x) i k (length xs) (position_from test (i + 1) xs) h (position_within test (i + 1) xs k)

module _ {V : Type 0} (name_of : V → List ℕ) (xs : List V) (v : V) (m n : List ℕ → Option ℕ) where
  abbrev pub Leads : (List ℕ → Option ℕ) → List V → Type 0
  Leads f ys = (q : List ℕ) → f q ≡ position_from (λ y. bytes_eq q (name_of y)) 0 ys

  -- the last of its name, where none had it
  pub first_pushed : (at : ℕ) → at ≡ length xs → Leads m xs → ((q : List ℕ) → n q ≡ option_or (m q) (cond (bytes_eq q (name_of v)) (Some at) None)) → Leads n (xs ++ v ∷ [])
  first_pushed at last firsts put q =
      put q ∙ ap (λ o. option_or o (cond (bytes_eq q (name_of v)) (Some at) None)) (firsts q)
      ∙ ap (λ k. option_or (position_from (λ y. bytes_eq q (name_of y)) 0 xs) (cond (bytes_eq q (name_of v)) (Some k) None)) (omega (arith, last))
      ∙ sym (position_push (λ y. bytes_eq q (name_of y)) 0 xs v)

  dropped_where : (b : Bool) (o : Option ℕ) (at : ℕ) → ((k : ℕ) → o ≡ Some k → k < at) → cond b (other_than at (option_or o (cond b (Some at) None))) (option_or o (cond b (Some at) None)) ≡ o
  dropped_where true None at within = some_same at at refl
  dropped_where true (Some k) at within = some_apart k at (within k refl)
  dropped_where false o at within = or_none o

  -- and the first of each name without it
  pub first_dropped : (at : ℕ) → at ≡ length xs → Leads m (xs ++ v ∷ []) → ((q : List ℕ) → n q ≡ cond (bytes_eq q (name_of v)) (other_than at (m q)) (m q)) → Leads n xs
  first_dropped at last firsts taken q =
      let test : V → Bool = λ y. bytes_eq q (name_of y) in
      let was : m q ≡ option_or (position_from test 0 xs) (cond (test v) (Some at) None) =
      firsts q ∙ position_push test 0 xs v ∙ ap (λ k. option_or (position_from test 0 xs) (cond (test v) (Some k) None)) (omega (arith, last)) in
      taken q ∙ ap (λ o. cond (test v) (other_than at o) o) was
      ∙ dropped_where (test v) (position_from test 0 xs) at (λ k h. let less = position_within test 0 xs k h in omega (arith, less, last))

-- the list without its last, and the last
pub last_split : {V : Type 0} (xs : List V) (v : V) (at : ℕ) → at + 1 ≡ length xs → v ≡ get_or xs at v → xs ≡ take at xs ++ v ∷ []
last_split xs v at last is =
    let most : length xs ≤ suc at = omega (arith, last) in
    sym (take-append-drop at xs)
    ∙ ap (λ t. take at xs ++ t) (drop-cons xs at v (omega (arith, last)) ∙ ap (λ x. x ∷ drop (suc at) xs) (sym is) ∙ ap (λ t. v ∷ t) (drop_of_length-le xs most))

-- ---- what the first place says of the list

place_where : (b : Bool) (p n : ℕ) → nat_lt p n ≡ b → p ≤ n → unwrap_or (cond b (Some p) None) n ≡ p
place_where true p n is most = refl
place_where false p n is most = grind (arith, nat_tests)

pub place_is : {X : Type 0} (test : X → Bool) (xs : List X) → unwrap_or (position_from test 0 xs) (length xs) ≡ position_or_len test xs
place_is test xs =
    ap (λ o. unwrap_or o (length xs)) (sym (position_from-zero test xs))
    ∙ place_where (nat_lt (position_or_len test xs) (length xs)) (position_or_len test xs) (length xs) refl (prefix_len-le-length (λ x. not (test x)) xs)

found_where : {X : Type 0} (xs : List X) (o : Option ℕ) → slice_get xs (unwrap_or o (length xs)) ≡ option_and_then (slice_get xs) o
found_where xs None = slice_get_past xs (length xs) (omega arith)
found_where xs (Some at) = refl

pub found_is : {X : Type 0} (test : X → Bool) (xs : List X) → option_and_then (slice_get xs) (position_from test 0 xs) ≡ find test xs
found_is test xs = sym (found_where xs (position_from test 0 xs)) ∙ ap (slice_get xs) (place_is test xs) ∙ sym (find_at test xs)
