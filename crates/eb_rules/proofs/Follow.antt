-- Walks that follow their tokens, put together.
use Rattle.std.proofs.Common.{◌≡◌, ℕ, ◌+◌, Bool, true, false, List, [], ◌∷◌, ◌++◌, drop, Option, Some, None, Ok, Err, refl, sym, ap, ◌∙◌, arith, append_assoc}
use Rattle.std.proofs.lemmas.List.{drop-drop}
use Rattle.eb_rule_text.specs.Input.{Input}
use Rattle.eb_rules.specs.declared.faults.Refusal.{Refusal}
use Rattle.eb_rules.specs.declared.faults.RuleKind.{RuleKind}
use Rattle.eb_rules.specs.Typing.{Places, Found, Walked, refused, here, and_found, required, tested}
use Rattle.eb_rules.specs.Meanings.{and_some, only}
use Rattle.eb_rules.specs.Following.{Passed, Means, Points, Follows, Tests}

-- ---- tokens that are passed

pub none_passed : (i : Input) (p : Places) → Passed i i p p
none_passed i p = record { count = 0; long = omega arith; tokens = refl; places = refl }

pub passed_then : {i k j : Input} {p q r : Places} → Passed i k p q → Passed k j q r → Passed i j p r
passed_then {i = i} {j = j} {p = p} {r = r} a b =
    let long = a.long in
    let more = b.long in record {
      count = a.count + b.count;
      long = omega (arith, long, more);
      tokens = sym (drop-drop b.count a.count i) ∙ ap (drop b.count) a.tokens ∙ b.tokens;
      places = sym (drop-drop b.count a.count p) ∙ ap (drop b.count) a.places ∙ b.places;
    }

pub points_behind : {x : Refusal} {i k : Input} {p q : Places} → Passed i k p q → Points x k q → Points x i p
points_behind {x = x} {i = i} {p = p} a b = record {
  count = a.count + b.count;
  at = b.at ∙ ap (λ z. here (drop b.count z)) (sym a.places) ∙ ap here (drop-drop b.count a.count p);
  means = rw (← drop-drop b.count a.count i, a.tokens) b.means;
}

-- ---- walks

pub shifted : {A : Type 0} (r : Walked A) (m : Option A) (j : Input) {i k : Input} {p q : Places} → Passed i k p q → Follows r m k j q → Follows r m i j p
shifted (Ok a) m j pass t = (t.0, passed_then pass t.1)
shifted (Err x) m j pass t = (t.0, points_behind pass t.1)

pub onward : {A B : Type 0} (r : Walked A) (g : A × Places → Walked B) (m : Option A) (h : A → Option B) (i k j : Input) (p : Places)
    → Follows r m i k p → ((a : A) (q : Places) → Passed i k p q → Follows (g (a, q)) (h a) i j p) → Follows (and_found r g) (and_some m h) i j p
onward (Ok a) g m h i k j p t next = rw t.0 (next a.0 a.1 t.1)
onward (Err x) g m h i k j p t next = rw t.0 (refl, t.1)

pub test_then : {A B : Type 0} (r : Found A) (g : A → Walked B) (m : Option A) (h : A → Option B) (i j : Input) (p : Places)
    → Tests r m i p → ((a : A) → Follows (g a) (h a) i j p) → Follows (and_found r g) (and_some m h) i j p
test_then (Ok a) g m h i j p t next = rw t (next a)
test_then (Err x) g m h i j p t next = rw t.0 (refl, t.1)

pub tests_then : {A B : Type 0} (r : Found A) (g : A → Found B) (m : Option A) (h : A → Option B) (i : Input) (p : Places)
    → Tests r m i p → ((a : A) → Tests (g a) (h a) i p) → Tests (and_found r g) (and_some m h) i p
tests_then (Ok a) g m h i p t next = rw t (next a)
tests_then (Err x) g m h i p t next = rw t.0 (refl, t.1)

-- a test at tokens behind
pub tests_behind : {A : Type 0} (r : Found A) (m : Option A) {i k : Input} {p q : Places} → Passed i k p q → Tests r m k q → Tests r m i p
tests_behind (Ok a) m pass t = t
tests_behind (Err x) m pass t = (t.0, points_behind pass t.1)

-- a test, whose part then ends at j
pub ended : {A : Type 0} (r : Found A) (m : Option A) (i j : Input) (p q : Places) → Passed i j p q → Tests r m i p → Follows (and_found r (λ y. Ok (y, q))) m i j p
ended (Ok a) m i j p q pass t = (t, pass)
ended (Err x) m i j p q pass t = (t.0, t.1)

-- ---- tests

pub points_here : (kind : RuleKind) (n : ℕ) (i : Input) (p : Places) → Means kind (drop n i) → Points (refused kind (drop n p)) i p
points_here kind n i p means = record { count = n; at = refl; means = means }

-- what there must be, and what must hold, at the n-th token
pub required_tests : {A : Type 0} (kind : RuleKind) (m : Option A) (n : ℕ) (i : Input) (p : Places) → Means kind (drop n i) → Tests (required kind m (drop n p)) m i p
required_tests kind (Some a) n i p means = refl
required_tests kind None n i p means = (refl, points_here kind n i p means)

pub tested_tests : (kind : RuleKind) (b : Bool) (n : ℕ) (i : Input) (p : Places) → Means kind (drop n i) → Tests (tested kind b (drop n p)) (only b) i p
tested_tests kind true n i p means = refl
tested_tests kind false n i p means = (refl, points_here kind n i p means)

-- ---- lists, of which so much is done

abbrev pub onto : {A : Type 0} → List A → Option (List A) → Option (List A)
onto done m = and_some m (λ more. Some (done ++ more))

abbrev pub onto_with : {A S : Type 0} → List A → Option (List A × S) → Option (List A × S)
onto_with done m = and_some m (λ z. Some (done ++ z.0, z.1))

pub onto_none : {A S : Type 0} (m : Option (List A × S)) → m ≡ onto_with [] m
onto_none None = refl
onto_none (Some z) = refl

pub onto_cons : {A S : Type 0} (done : List A) (x : A) (m : Option (List A × S)) → onto_with done (and_some m (λ z. Some (x ∷ z.0, z.1))) ≡ onto_with (done ++ x ∷ []) m
onto_cons done x None = refl
onto_cons done x (Some z) = ap (λ ys. Some (ys, z.1)) (sym (append_assoc done (x ∷ []) z.0))

pub onto_empty : {A : Type 0} (m : Option (List A)) → m ≡ onto [] m
onto_empty None = refl
onto_empty (Some z) = refl

pub onto_one : {A : Type 0} (done : List A) (x : A) (m : Option (List A)) → onto done (and_some m (λ ys. Some (x ∷ ys))) ≡ onto (done ++ x ∷ []) m
onto_one done x None = refl
onto_one done x (Some ys) = ap Some (sym (append_assoc done (x ∷ []) ys))

pub at_meaning : {A : Type 0} (r : Walked A) (m n : Option A) (i j : Input) (p : Places) → m ≡ n → Follows r n i j p → Follows r m i j p
at_meaning r m n i j p e t = rw e t

pub then_onto : {A B S : Type 0} (done : List B) (r : Walked A) (g : A × Places → Walked (List B × S)) (m : Option A) (h : A → Option (List B × S)) (i k j : Input) (p : Places)
    → Follows r m i k p → ((a : A) (q : Places) → Passed i k p q → Follows (g (a, q)) (onto_with done (h a)) i j p) → Follows (and_found r g) (onto_with done (and_some m h)) i j p
then_onto done (Ok a) g m h i k j p t next = rw t.0 (next a.0 a.1 t.1)
then_onto done (Err x) g m h i k j p t next = rw t.0 (refl, t.1)

pub test_onto : {A B S : Type 0} (done : List B) (r : Found A) (g : A → Walked (List B × S)) (m : Option A) (h : A → Option (List B × S)) (i j : Input) (p : Places)
    → Tests r m i p → ((a : A) → Follows (g a) (onto_with done (h a)) i j p) → Follows (and_found r g) (onto_with done (and_some m h)) i j p
test_onto done (Ok a) g m h i j p t next = rw t (next a)
test_onto done (Err x) g m h i j p t next = rw t.0 (refl, t.1)

pub then_list : {A B : Type 0} (done : List B) (r : Walked A) (g : A × Places → Walked (List B)) (m : Option A) (h : A → Option (List B)) (i k j : Input) (p : Places)
    → Follows r m i k p → ((a : A) (q : Places) → Passed i k p q → Follows (g (a, q)) (onto done (h a)) i j p) → Follows (and_found r g) (onto done (and_some m h)) i j p
then_list done (Ok a) g m h i k j p t next = rw t.0 (next a.0 a.1 t.1)
then_list done (Err x) g m h i k j p t next = rw t.0 (refl, t.1)

pub test_list : {A B : Type 0} (done : List B) (r : Found A) (g : A → Walked (List B)) (m : Option A) (h : A → Option (List B)) (i j : Input) (p : Places)
    → Tests r m i p → ((a : A) → Follows (g a) (onto done (h a)) i j p) → Follows (and_found r g) (onto done (and_some m h)) i j p
test_list done (Ok a) g m h i j p t next = rw t (next a)
test_list done (Err x) g m h i j p t next = rw t.0 (refl, t.1)
