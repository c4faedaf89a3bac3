-- An object that has as many members as there are keys, and one for each, has no others.
use Rattle.std.proofs.Common.{◌≡◌, ℕ, suc, List, [], ◌∷◌, length, Bool, true, false, cond, nat_eq, Ordering, Less, Equal, Greater, is_eq, nat_cmp, refl, sym, ap, ◌∙◌, true≢false, arith}
use Rattle.std.specs.Prelude.{◌||◌, ◌&&◌, Option, Some, is_some}
use Rattle.std.specs.List.{list_any, list_all, AllByRecursion, IsDistinct}
use Rattle.std.specs.Str.{bytes_eq}
use Rattle.std.specs.Ordering.{match_ordering}
use Rattle.std.specs.Cmp.Lexicographic.{slice_cmp}
use Rattle.std.proofs.lemmas.Bool.Decides.{nat_tests}
use Rattle.std.proofs.lemmas.Cmp.{nat_list_eq_equiv}
use Rattle.std.proofs.lemmas.Slice.Eq.{bytes_eq-Decides}
use Rattle.std.proofs.lemmas.Map.Text.{is_eq-slice_cmp}
use Rattle.serde_json.specs.Data.{Data, null, boolean, number, string, array, object, Members, no_members, member}
use Rattle.serde_json.specs.Find.{get, get_member}
use Rattle.serde_json.specs.Events.{members_len}
use Rattle.eb_json.specs.Documents.{has_each, has_keys}

both : (a b : Bool) → (a && b) ≡ true → (a ≡ true) × (b ≡ true)
both true b h = (refl, h)
both false b h = absurd (true≢false (sym h))

swap : (a b c : Bool) → (a || (b || c)) ≡ (b || (a || c))
swap true true c = refl
swap true false c = refl
swap false b c = refl

-- ---- lists of names

abbrev holds : List ℕ → List (List ℕ) → Bool
holds q names = list_any (bytes_eq q) names

-- without the first of these that is k
abbrev without : List ℕ → List (List ℕ) → List (List ℕ)
without k [] = []
without k (n ∷ ns) = cond (bytes_eq k n) ns (n ∷ without k ns)

one_less_where : (b : Bool) (k n : List ℕ) (ns : List (List ℕ)) → (holds k ns ≡ true → length ns ≡ suc (length (without k ns))) → (b || holds k ns) ≡ true → suc (length ns) ≡ suc (length (cond b ns (n ∷ without k ns)))
one_less_where true k n ns later h = refl
one_less_where false k n ns later h = ap suc (later h)

one_less : (k : List ℕ) (ns : List (List ℕ)) → holds k ns ≡ true → length ns ≡ suc (length (without k ns))
one_less k [] h = absurd (true≢false (sym h))
one_less k (n ∷ ns) h = one_less_where (bytes_eq k n) k n ns (one_less k ns) h

holds_where : (b : Bool) (q k n : List ℕ) (ns : List (List ℕ)) → bytes_eq k n ≡ b → (holds k ns ≡ true → holds q ns ≡ (bytes_eq q k || holds q (without k ns))) → (b || holds k ns) ≡ true
    → (bytes_eq q n || holds q ns) ≡ (bytes_eq q k || holds q (cond b ns (n ∷ without k ns)))
holds_where true q k n ns is later h = ap (λ m. bytes_eq q m || holds q ns) (sym ((bytes_eq-Decides k n).0 is))
holds_where false q k n ns is later h = ap (λ b. bytes_eq q n || b) (later h) ∙ swap (bytes_eq q n) (bytes_eq q k) (holds q (without k ns))

-- k and the others
holds_split : (q k : List ℕ) (ns : List (List ℕ)) → holds k ns ≡ true → holds q ns ≡ (bytes_eq q k || holds q (without k ns))
holds_split q k [] h = absurd (true≢false (sym h))
holds_split q k (n ∷ ns) h = holds_where (bytes_eq k n) q k n ns refl (holds_split q k ns) h

each_left : (k : List ℕ) (ns ks : List (List ℕ)) → holds k ns ≡ true → AllByRecursion (λ j. bytes_eq k j ≡ false) ks → list_all (λ j. holds j ns) ks ≡ true → list_all (λ j. holds j (without k ns)) ks ≡ true
each_left k ns [] here apart h = refl
each_left k ns (j ∷ ks) here apart h =
    let parts = both (holds j ns) (list_all (λ j. holds j ns) ks) h in
    let other : bytes_eq j k ≡ false = nat_list_eq_equiv.symm j k ∙ apart.0 in
    let left : holds j (without k ns) ≡ true = ap (λ b. b || holds j (without k ns)) (sym other) ∙ sym (holds_split j k ns here) ∙ parts.0 in
    ap (λ b. b && list_all (λ j. holds j (without k ns)) ks) left ∙ each_left k ns ks here apart.1 parts.1

-- as many names as keys that differ, and each key among them: the names are the keys
same_names : (ks ns : List (List ℕ)) → IsDistinct bytes_eq ks → length ns ≡ length ks → list_all (λ k. holds k ns) ks ≡ true → (q : List ℕ) → holds q ns ≡ holds q ks
unfolding IsDistinct
same_names [] [] apart len h q = refl
same_names [] (n ∷ ns) apart len h q = absurd (omega arith)
same_names (k ∷ ks) ns apart len h q =
    let parts = both (holds k ns) (list_all (λ j. holds j ns) ks) h in
    let fewer : length (without k ns) ≡ length ks = omega (arith, one_less k ns parts.0) in
    holds_split q k ns parts.0 ∙ ap (λ b. bytes_eq q k || b) (same_names ks (without k ns) apart.1 fewer (each_left k ns ks parts.0 apart.0 parts.1) q)

-- ---- members

abbrev names_of : Members → List (List ℕ)
names_of no_members = []
names_of (member l e ms) = l ∷ names_of ms

some_where : (o : Ordering) (e : Data) (rest : Option Data) → is_some (match_ordering o rest (Some e) rest) ≡ (is_eq o || is_some rest)
some_where Less e rest = refl
some_where Equal e rest = refl
some_where Greater e rest = refl

some_member : (q : List ℕ) (ms : Members) → is_some (get_member q ms) ≡ holds q (names_of ms)
some_member q no_members = refl
some_member q (member l e ms) =
    some_where (slice_cmp nat_cmp q l) e (get_member q ms) ∙ ap (λ b. b || is_some (get_member q ms)) (is_eq-slice_cmp q l) ∙ ap (λ b. bytes_eq q l || b) (some_member q ms)

members_counted : (ms : Members) → length (names_of ms) ≡ members_len ms
members_counted no_members = refl
members_counted (member l e ms) = ap suc (members_counted ms)

all_same : (p q : List ℕ → Bool) → ((k : List ℕ) → p k ≡ q k) → (ks : List (List ℕ)) → list_all p ks ≡ list_all q ks
all_same p q same [] = refl
all_same p q same (k ∷ ks) = rw (same k, all_same p q same ks) refl

-- the keys of an object with just these keys
pub just_keys : (keys : List (List ℕ)) (d : Data) (q : List ℕ) → IsDistinct bytes_eq keys → has_keys keys d ≡ true → is_some (get q d) ≡ list_any (bytes_eq q) keys
unfolding has_keys has_each
just_keys keys null q apart h = absurd (true≢false (sym h))
just_keys keys (boolean b) q apart h = absurd (true≢false (sym h))
just_keys keys (number n) q apart h = absurd (true≢false (sym h))
just_keys keys (string s) q apart h = absurd (true≢false (sym h))
just_keys keys (array ds) q apart h = absurd (true≢false (sym h))
just_keys keys (object ms) q apart h =
    let parts = both (nat_eq (members_len ms) (length keys)) (list_all (λ k. is_some (get_member k ms)) keys) h in
    let count : members_len ms ≡ length keys = grind (arith, nat_tests, parts.0) in
    some_member q ms
    ∙ same_names keys (names_of ms) apart (members_counted ms ∙ count) (sym (all_same (λ k. is_some (get_member k ms)) (λ k. holds k (names_of ms)) (λ k. some_member k ms) keys) ∙ parts.1) q
