-- Many objects taken out at once: their order doesn't matter, and the list of all numbers loses theirs.
use Rattle.std.proofs.Common.{◌≡◌, ℕ, List, [], ◌∷◌, ◌++◌, reverse, filter, length, get_or, Ordering, Less, Bool, true, false, not, ◌||◌, cond, nat_eq, refl, sym, ap, subst, ◌∙◌, nat_cmp, arith}
use Rattle.std.specs.Map.{keys_of}
use Rattle.std.specs.BTreeMap.{is_at}
use Rattle.std.specs.List.Sorted.{IsStrictlySortedBy}
use Rattle.std.proofs.lemmas.Bool.Decides.{nat_tests}
use Rattle.eb_schema.proofs.TypeOrderFacts.{IsBelow}
use Rattle.std.proofs.lemmas.List.{reverse-append}
use Rattle.eb_scene.specs.declared.objects.Object.{Object}
use Rattle.eb_scene.specs.Numbers.{has_number, without_number, without_numbers}
use Rattle.eb_scene.specs.Projects.{Objects}
use Rattle.eb_scene.specs.Tables.{without_numbered}
use Rattle.eb_scene.specs.Trees.{without_all}
use Rattle.eb_scene.proofs.NumberFacts.{sorted_without}
use Rattle.eb_scene.proofs.Children.{keys_gone, at_is}
use Rattle.eb_scene.proofs.LookUps.{turned, equal}

-- ---- numbers

-- lists with the same numbers take the same away
pub without_same : (ks a b : List ℕ) → ((k : ℕ) → has_number a k ≡ has_number b k) → without_numbers ks a ≡ without_numbers ks b
without_same [] a b same = refl
without_same (k ∷ ks) a b same =
    ap (λ t. cond (not t) (k ∷ without_numbers ks a) (without_numbers ks a)) (same k) ∙ ap (λ js. cond (not (has_number b k)) (k ∷ js) js) (without_same ks a b same)

none_taken : (ks : List ℕ) → without_numbers ks [] ≡ ks
none_taken [] = refl
none_taken (k ∷ ks) = ap (λ js. k ∷ js) (none_taken ks)

-- a number below all isn't among those to be taken away
one_less : (n : ℕ) (ns ks : List ℕ) → IsBelow n ks → without_numbers ks (n ∷ ns) ≡ without_numbers ks ns
one_less n ns [] below = refl
one_less n ns (k ∷ ks) below =
    let other : nat_eq n k ≡ false = grind (arith, nat_tests, below.0) in
    ap (λ t. cond (not (t || has_number ns k)) (k ∷ without_numbers ks (n ∷ ns)) (without_numbers ks (n ∷ ns))) other
    ∙ ap (λ js. cond (not (has_number ns k)) (k ∷ js) js) (one_less n ns ks below.1)

one_more_where : (t : Bool) (n k : ℕ) (ns ks : List ℕ) → nat_eq k n ≡ t → IsBelow k ks → without_numbers (without_number ks n) ns ≡ without_numbers ks (n ∷ ns)
    → without_numbers (cond t ks (k ∷ without_number ks n)) ns ≡ cond (not (t || has_number ns k)) (k ∷ without_numbers ks (n ∷ ns)) (without_numbers ks (n ∷ ns))
one_more_where true n k ns ks same below later =
    let is : k ≡ n = grind (arith, nat_tests) in
    sym (ap (λ j. without_numbers ks (j ∷ ns)) (sym is) ∙ one_less k ns ks below)
one_more_where false n k ns ks apart below later = ap (λ js. cond (not (has_number ns k)) (k ∷ js) js) later

one_more : (n : ℕ) (ns ks : List ℕ) → IsStrictlySortedBy nat_cmp ks → without_numbers (without_number ks n) ns ≡ without_numbers ks (n ∷ ns)
unfolding IsStrictlySortedBy
one_more n ns [] sorted = refl
one_more n ns (k ∷ ks) sorted =
    one_more_where (nat_eq k n) n k ns ks refl sorted.0 (one_more n ns ks sorted.1)
    ∙ ap (λ t. cond (not (t || has_number ns k)) (k ∷ without_numbers ks (n ∷ ns)) (without_numbers ks (n ∷ ns))) (turned k n)

-- the order stays
below_left : (j : ℕ) (ks gone : List ℕ) → IsBelow j ks → IsBelow j (without_numbers ks gone)
below_left j [] gone below = tt
below_left j (k ∷ ks) gone below = below_where (has_number gone k) j k (without_numbers ks gone) below.0 (below_left j ks gone below.1)
  where
    below_where : (t : Bool) (j k : ℕ) (ks : List ℕ) → nat_cmp j k ≡ Less → IsBelow j ks → IsBelow j (cond (not t) (k ∷ ks) ks)
    below_where true j k ks here rest = rest
    below_where false j k ks here rest = (here, rest)

sorted_where : (t : Bool) (k : ℕ) (ks : List ℕ) → IsBelow k ks → IsStrictlySortedBy nat_cmp ks → IsStrictlySortedBy nat_cmp (cond (not t) (k ∷ ks) ks)
unfolding IsStrictlySortedBy
sorted_where true k ks below rest = rest
sorted_where false k ks below rest = (below, rest)

pub sorted_left : (ks gone : List ℕ) → IsStrictlySortedBy nat_cmp ks → IsStrictlySortedBy nat_cmp (without_numbers ks gone)
unfolding IsStrictlySortedBy
sorted_left [] gone sorted = tt
sorted_left (k ∷ ks) gone sorted = sorted_where (has_number gone k) k (without_numbers ks gone) (below_left k ks gone sorted.0) (sorted_left ks gone sorted.1)

-- one number
pub one_taken : (gone ks : List ℕ) → length gone ≡ 1 → IsStrictlySortedBy nat_cmp ks → without_number ks (get_or gone 0 0) ≡ without_numbers ks gone
one_taken [] ks one sorted = absurd (omega (arith, one))
one_taken (m ∷ j ∷ gone) ks one sorted = absurd (omega (arith, one))
one_taken (m ∷ []) ks one sorted = sym (none_taken (without_number ks m)) ∙ one_more m [] ks sorted

-- ---- objects

pub sorted_gone : {X : Type 0} (n : ℕ) (es : List (ℕ × X)) → IsStrictlySortedBy nat_cmp (keys_of es) → IsStrictlySortedBy nat_cmp (keys_of (without_numbered es n))
sorted_gone n es sorted = subst (IsStrictlySortedBy nat_cmp) (sym (keys_gone n es)) (sorted_without n (keys_of es) sorted)

pub sorted_without_all : (ns : List ℕ) (es : Objects) → IsStrictlySortedBy nat_cmp (keys_of es) → IsStrictlySortedBy nat_cmp (keys_of (without_all es ns))
sorted_without_all [] es sorted = sorted
sorted_without_all (n ∷ ns) es sorted = sorted_without_all ns (without_numbered es n) (sorted_gone n es sorted)

pub keys_without : (ns : List ℕ) (es : Objects) → IsStrictlySortedBy nat_cmp (keys_of es) → without_numbers (keys_of es) ns ≡ keys_of (without_all es ns)
keys_without [] es sorted = none_taken (keys_of es)
keys_without (n ∷ ns) es sorted =
    sym (one_more n ns (keys_of es) sorted) ∙ ap (λ ks. without_numbers ks ns) (sym (keys_gone n es)) ∙ keys_without ns (without_numbered es n) (sorted_gone n es sorted)

-- ---- the order

either_first_where : (t u : Bool) (a b : ℕ) (e : ℕ × Object) (es : Objects) → is_at (nat_cmp a) e.0 ≡ t → is_at (nat_cmp b) e.0 ≡ u
    → without_numbered (without_numbered es a) b ≡ without_numbered (without_numbered es b) a
    → without_numbered (cond t es (e ∷ without_numbered es a)) b ≡ without_numbered (cond u es (e ∷ without_numbered es b)) a
either_first_where true true a b e es at_a at_b later =
    let same : b ≡ a = sym (equal e.0 b (sym (at_is b e.0) ∙ at_b)) ∙ equal e.0 a (sym (at_is a e.0) ∙ at_a) in
    ap (without_numbered es) same
either_first_where true false a b e es at_a at_b later = sym (ap (λ t. cond t (without_numbered es b) (e ∷ without_numbered (without_numbered es b) a)) at_a)
either_first_where false true a b e es at_a at_b later = ap (λ t. cond t (without_numbered es a) (e ∷ without_numbered (without_numbered es a) b)) at_b
either_first_where false false a b e es at_a at_b later =
    ap (λ t. cond t (without_numbered es a) (e ∷ without_numbered (without_numbered es a) b)) at_b ∙ ap (λ os. e ∷ os) later
    ∙ sym (ap (λ t. cond t (without_numbered es b) (e ∷ without_numbered (without_numbered es b) a)) at_a)

either_first : (a b : ℕ) (es : Objects) → without_numbered (without_numbered es a) b ≡ without_numbered (without_numbered es b) a
either_first a b [] = refl
either_first a b (e ∷ es) = either_first_where (is_at (nat_cmp a) e.0) (is_at (nat_cmp b) e.0) a b e es refl refl (either_first a b es)

last_out : (ns : List ℕ) (es : Objects) (n : ℕ) → without_all es (ns ++ n ∷ []) ≡ without_numbered (without_all es ns) n
last_out [] es n = refl
last_out (m ∷ ns) es n = last_out ns (without_numbered es m) n

first_out : (ns : List ℕ) (es : Objects) (n : ℕ) → without_numbered (without_all es ns) n ≡ without_all (without_numbered es n) ns
first_out [] es n = refl
first_out (m ∷ ns) es n = first_out ns (without_numbered es m) n ∙ ap (λ os. without_all os ns) (either_first m n es)

pub backward : (ns : List ℕ) (es : Objects) → without_all es (reverse ns) ≡ without_all es ns
backward [] es = refl
backward (n ∷ ns) es =
    ap (without_all es) (reverse-append (n ∷ []) ns) ∙ last_out (reverse ns) es n ∙ ap (λ os. without_numbered os n) (backward ns es) ∙ first_out ns es n
