-- Walks over reads follow the tokens of their spelling.
use Rattle.std.proofs.Common.{◌≡◌, ℕ, Bool, true, false, List, [], ◌∷◌, ◌++◌, drop, length, Option, Some, None, Ok, Err, refl, sym, ◌∙◌, append_assoc, append-nil}
use Rattle.std.proofs.Math.Seq.{drop-append_seam}
use Rattle.std.proofs.lemmas.List.{length-append}
use Rattle.eb_rule_text.specs.declared.lexemes.Lexeme.TheVariants as l
use Rattle.eb_rule_text.specs.declared.marks.Mark.TheVariants as m
use Rattle.eb_rule_text.specs.declared.trees.FieldPath.{FieldPath}
use Rattle.eb_rule_text.specs.declared.trees.Find.{Find}
use Rattle.eb_rule_text.specs.declared.trees.Find.TheVariants as f
use Rattle.eb_rule_text.specs.declared.trees.Read.{Read}
use Rattle.eb_rule_text.specs.declared.trees.Read.TheVariants as r
use Rattle.eb_rule_text.specs.Input.{Input}
use Rattle.eb_rule_text.specs.Spelled.{find_then, read_then}
use Rattle.eb_rule_text.specs.Grammar.{AreFinds, no_find, a_find}
use Rattle.eb_schema.specs.Schemas.{component_named, authoring_named}
use Rattle.eb_rules.specs.declared.faults.RuleKind.TheVariants.{UnknownName, TypeFault}
use Rattle.eb_rules.specs.declared.finds.Named.{Named}
use Rattle.eb_rules.specs.declared.plans.FindTerm.{FindTerm}
use Rattle.eb_rules.specs.declared.plans.ReadTerm.{ReadTerm}
use Rattle.eb_rules.specs.declared.plans.ReadTerm.TheVariants as value
use Rattle.eb_rules.specs.declared.scopes.Bound.{Bound}
use Rattle.eb_rules.specs.declared.shapes.Shape.{Shape}
use Rattle.eb_rules.specs.Shapes.{fits, found_shape, read_shape}
use Rattle.eb_rules.specs.Scopes.{Text, Where, field_in, authoring_fields, component_fields, is_in_all, bound_of, as_entity}
use Rattle.eb_rule_text.specs.Counts.{find_tokens, read_tokens}
use Rattle.eb_rules.specs.Typing.{Places, Found, Walked, here, and_found, authored, numbered, of_component, asked, find_walk, named, finds_named, innermost, agreed, terms, whole_read, name_typed, read_walk, required, visible}
use Rattle.eb_rules.specs.Meanings.{and_some, only, authored_at, numbered_at, component_at, asked_at, find_meant, finds_meant, all_find, whole_meant, name_meant, read_meant}
use Rattle.eb_rules.specs.Following.{Passed, Means, unknown_name, wrong_name, wrong_read, Points, Tests}
use Rattle.eb_rules.proofs.Follow.{none_passed, passed_then, points_behind, tests_then, required_tests, tested_tests}

-- ---- tokens that are named one by one

pub front_passed : (front j : Input) (p : Places) → Passed (front ++ j) j p (drop (length front) p)
front_passed front j p = record { count = length front; long = length-append front j; tokens = drop-append_seam front j; places = refl }

-- ---- fields

pub authored_tests : (w : Where) (x : FieldPath) (a b : ℕ) (i : Input) (p : Places) → Means UnknownName (drop a i) → Means UnknownName (drop b i) → Tests (authored w x (drop a p) (drop b p)) (authored_at w x) i p
authored_tests w x a b i p first second =
    tests_then (required UnknownName (authoring_named w.types x.kind) (drop a p)) _ (authoring_named w.types x.kind) _ i p (required_tests UnknownName (authoring_named w.types x.kind) a i p first)
    (λ n. tests_then (required UnknownName (field_in x.field (authoring_fields w.types n)) (drop b p)) _ (field_in x.field (authoring_fields w.types n)) _ i p (required_tests UnknownName (field_in x.field (authoring_fields w.types n)) b i p second) (λ k. refl))

numbered_tests : (w : Where) (n : ℕ) (x : Text) (b : ℕ) (i : Input) (p : Places) → Means UnknownName (drop b i) → Tests (numbered w n x (drop b p)) (numbered_at w n x) i p
numbered_tests w n x b i p second =
    tests_then (required UnknownName (field_in x (component_fields w.types n)) (drop b p)) _ (field_in x (component_fields w.types n)) _ i p (required_tests UnknownName (field_in x (component_fields w.types n)) b i p second) (λ k. refl)

pub component_tests : (w : Where) (x : FieldPath) (a b : ℕ) (i : Input) (p : Places) → Means UnknownName (drop a i) → Means UnknownName (drop b i) → Tests (of_component w x (drop a p) (drop b p)) (component_at w x) i p
component_tests w x a b i p first second =
    tests_then (required UnknownName (component_named w.types x.kind) (drop a p)) _ (component_named w.types x.kind) _ i p (required_tests UnknownName (component_named w.types x.kind) a i p first) (λ n. numbered_tests w n x.field b i p second)

pub asked_tests : (w : Where) (x : FieldPath) (a b : ℕ) (i : Input) (p : Places) → Means UnknownName (drop a i) → Means TypeFault (drop a i) → Means UnknownName (drop b i) → Tests (asked w x (drop a p) (drop b p)) (asked_at w x) i p
asked_tests w x a b i p first wrong second =
    tests_then (required UnknownName (component_named w.types x.kind) (drop a p)) _ (component_named w.types x.kind) _ i p (required_tests UnknownName (component_named w.types x.kind) a i p first)
    (λ n. tests_then _ _ (only (is_in_all n w.all)) _ i p (tested_tests TypeFault (is_in_all n w.all) a i p wrong) (λ u. numbered_tests w n x.field b i p second))

-- ---- reads that always have a value

whole_tests : (y : ReadTerm) (i : Input) (p : Places) → Means TypeFault i → Tests (whole_read y p) (whole_meant y) i p
whole_tests y i p means = tests_then _ _ (read_shape y) _ i p (required_tests TypeFault (read_shape y) 0 i p means) (λ k. refl)

pub visible_tests : (may : Bound → Option Shape) (w : Where) (x : Text) (n : ℕ) (i : Input) (p : Places) → Means UnknownName (drop n i) → Means TypeFault (drop n i) → Tests (visible may w x (drop n p)) (and_some (bound_of x w.known) may) i p
visible_tests may w x n i p unknown wrong =
    tests_then (required UnknownName (bound_of x w.known) (drop n p)) _ (bound_of x w.known) _ i p (required_tests UnknownName (bound_of x w.known) n i p unknown) (λ b. required_tests TypeFault (may b) n i p wrong)

pub name_tests : (may : Bound → Option Shape) (w : Where) (x : Text) (n : ℕ) (i : Input) (p : Places) → Means UnknownName (drop n i) → Means TypeFault (drop n i) → Tests (name_typed may w x (drop n p)) (name_meant may w x) i p
name_tests may w x n i p unknown wrong = tests_then (visible may w x (drop n p)) _ (and_some (bound_of x w.known) may) _ i p (visible_tests may w x n i p unknown wrong) (λ s. refl)

pub read_tests : (w : Where) (x : Read) (j : Input) (p : Places) → Means TypeFault (read_then x j) → Tests (read_walk w x p) (read_meant w x) (read_then x j) p
read_tests w (r.This x) j p means = tests_then _ _ (field_in x w.own) _ _ p (required_tests UnknownName (field_in x w.own) 2 (read_then (r.This x) j) p unknown_name) (λ y. whole_tests (value.This y) (read_then (r.This x) j) p means)
read_tests w (r.Field x) j p means = tests_then _ _ (asked_at w x) _ _ p (asked_tests w x 2 4 (read_then (r.Field x) j) p unknown_name wrong_name unknown_name) (λ y. whole_tests (value.Field y) (read_then (r.Field x) j) p means)
read_tests w (r.Sum over x) j p means = tests_then _ _ (authored_at w x) _ _ p (authored_tests w x 3 6 (read_then (r.Sum over x) j) p unknown_name unknown_name) (λ y. whole_tests (value.Sum over y) (read_then (r.Sum over x) j) p means)
read_tests w (r.Count over kind) j p means = tests_then _ _ (authoring_named w.types kind) _ _ p (required_tests UnknownName (authoring_named w.types kind) 3 (read_then (r.Count over kind) j) p unknown_name) (λ y. whole_tests (value.Count over y) (read_then (r.Count over kind) j) p means)
read_tests w (r.SumAll x) j p means = tests_then _ _ (component_at w x) _ _ p (component_tests w x 3 5 (read_then (r.SumAll x) j) p unknown_name unknown_name) (λ y. whole_tests (value.SumAll y) (read_then (r.SumAll x) j) p means)
read_tests w (r.CountAll kind) j p means = tests_then _ _ (component_named w.types kind) _ _ p (required_tests UnknownName (component_named w.types kind) 3 (read_then (r.CountAll kind) j) p unknown_name) (λ y. whole_tests (value.CountAll y) (read_then (r.CountAll kind) j) p means)
read_tests w r.Entity j p means = whole_tests value.Entity (read_then r.Entity j) p means
read_tests w (r.EntityAt x) j p means = tests_then _ _ (field_in x w.own) _ _ p (required_tests UnknownName (field_in x w.own) 4 (read_then (r.EntityAt x) j) p unknown_name) (λ y. whole_tests (value.EntityAt y) (read_then (r.EntityAt x) j) p means)
read_tests w (r.EntityOf x) j p means = name_tests as_entity w x 2 (read_then (r.EntityOf x) j) p unknown_name wrong_name

pub read_passed : (x : Read) (j : Input) (p : Places) → Passed (read_then x j) j p (drop (read_tokens x) p)
read_passed (r.This x) j p = front_passed (read_then (r.This x) []) j p
read_passed (r.Field x) j p = front_passed (read_then (r.Field x) []) j p
read_passed (r.Sum over x) j p = front_passed (read_then (r.Sum over x) []) j p
read_passed (r.Count over kind) j p = front_passed (read_then (r.Count over kind) []) j p
read_passed (r.SumAll x) j p = front_passed (read_then (r.SumAll x) []) j p
read_passed (r.CountAll kind) j p = front_passed (read_then (r.CountAll kind) []) j p
read_passed r.Entity j p = front_passed (read_then r.Entity []) j p
read_passed (r.EntityAt x) j p = front_passed (read_then (r.EntityAt x) []) j p
read_passed (r.EntityOf x) j p = front_passed (read_then (r.EntityOf x) []) j p

-- ---- reads that go on with `or`

find_tests : (w : Where) (x : Find) (j : Input) (p : Places) → Tests (find_walk w x p) (find_meant w x) (find_then x j) p
find_tests w (f.Own x) j p = tests_then _ _ (authored_at w x) _ _ p (authored_tests w x 2 5 (find_then (f.Own x) j) p unknown_name unknown_name) (λ y. refl)
find_tests w (f.Parent x) j p = tests_then _ _ (authored_at w x) _ _ p (authored_tests w x 2 5 (find_then (f.Parent x) j) p unknown_name unknown_name) (λ y. refl)
find_tests w (f.Asset a x) j p =
    tests_then _ _ (field_in a w.own) _ _ p (required_tests UnknownName (field_in a w.own) 4 (find_then (f.Asset a x) j) p unknown_name)
    (λ y. tests_then _ _ (field_in x w.types.assets) _ _ p (required_tests UnknownName (field_in x w.types.assets) 7 (find_then (f.Asset a x) j) p unknown_name) (λ z. refl))
find_tests w (f.Min over x) j p = tests_then _ _ (authored_at w x) _ _ p (authored_tests w x 3 6 (find_then (f.Min over x) j) p unknown_name unknown_name) (λ y. refl)
find_tests w (f.Max over x) j p = tests_then _ _ (authored_at w x) _ _ p (authored_tests w x 3 6 (find_then (f.Max over x) j) p unknown_name unknown_name) (λ y. refl)
find_tests w (f.At link x) j p =
    tests_then _ _ (asked_at w link) _ _ p (asked_tests w link 4 6 (find_then (f.At link x) j) p unknown_name wrong_name unknown_name)
    (λ y. tests_then _ _ (component_at w x) _ _ p (component_tests w x 9 11 (find_then (f.At link x) j) p unknown_name unknown_name) (λ z. refl))
find_tests w (f.MaxAll x) j p = tests_then _ _ (component_at w x) _ _ p (component_tests w x 3 5 (find_then (f.MaxAll x) j) p unknown_name unknown_name) (λ y. refl)

find_passed : (x : Find) (k : Input) (p : Places) → Passed (find_then x (l.Mark m.Or ∷ k)) k p (drop (find_tokens x) p)
find_passed (f.Own x) k p = front_passed (find_then (f.Own x) (l.Mark m.Or ∷ [])) k p
find_passed (f.Parent x) k p = front_passed (find_then (f.Parent x) (l.Mark m.Or ∷ [])) k p
find_passed (f.Asset a x) k p = front_passed (find_then (f.Asset a x) (l.Mark m.Or ∷ [])) k p
find_passed (f.Min over x) k p = front_passed (find_then (f.Min over x) (l.Mark m.Or ∷ [])) k p
find_passed (f.Max over x) k p = front_passed (find_then (f.Max over x) (l.Mark m.Or ∷ [])) k p
find_passed (f.At link x) k p = front_passed (find_then (f.At link x) (l.Mark m.Or ∷ [])) k p
find_passed (f.MaxAll x) k p = front_passed (find_then (f.MaxAll x) (l.Mark m.Or ∷ [])) k p

-- a place at which a read begins
abbrev pub Begins : ℕ → Input → Places → Type 0
Begins at i p = Points (record { kind = TypeFault; at = at }) i p

abbrev pub AllBegin : List Named → Input → Places → Type 0
AllBegin [] i p = Unit {0}
AllBegin (y ∷ ys) i p = Begins y.at i p × AllBegin ys i p

all_behind : (ys : List Named) {i k : Input} {p q : Places} → Passed i k p q → AllBegin ys k q → AllBegin ys i p
all_behind [] pass all = tt
all_behind (y ∷ ys) pass all = (points_behind pass all.0, all_behind ys pass all.1)

pub record Finds (done out : List Named) (meant : Option (List FindTerm)) (i k : Input) (p q : Places) : Type 0 where
  pub more : List Named
  pub is : out ≡ done ++ more
  pub means : meant ≡ Some (terms more)
  pub begin : AllBegin more i p
  pub pass : Passed i k p q

abbrev pub FindsFollow : Walked (List Named) → List Named → Option (List FindTerm) → Input → Input → Places → Type 0
FindsFollow (Ok a) done meant i k p = Finds done a.0 meant i k p a.1
FindsFollow (Err x) done meant i k p = (meant ≡ None) × Points x i p

abbrev pub one_more : Where → Find → List Find → Option (List FindTerm)
one_more w x xs = and_some (find_meant w x) (λ y. and_some (finds_meant w xs) (λ ys. Some (y ∷ ys)))

find_on : (w : Where) (xs : List Find) (y : FindTerm) (at : ℕ) (done : List Named) (rest : Walked (List Named)) (i k j : Input) (p q : Places) → at ≡ here p → Begins (here p) i p → Passed i k p q
    → FindsFollow rest (done ++ record { term = y; at = at } ∷ []) (finds_meant w xs) k j q → FindsFollow rest done (and_some (finds_meant w xs) (λ ys. Some (y ∷ ys))) i j p
find_on w xs y at done (Ok a) i k j p q e begin pass t = record {
  more = record { term = y; at = at } ∷ t.more;
  is = t.is ∙ append_assoc done (record { term = y; at = at } ∷ []) t.more;
  means = rw t.means refl;
  begin = (rw e begin, all_behind t.more pass t.begin);
  pass = passed_then pass t.pass;
}
find_on w xs y at done (Err x) i k j p q e begin pass t = (rw t.0 refl, points_behind pass t.1)

find_then_on : (w : Where) (x : Find) (xs : List Find) (done : List Named) (found : Found FindTerm) (i k j : Input) (p : Places) → Begins (here p) i p → Passed i k p (drop (find_tokens x) p) → Tests found (find_meant w x) i p
    → ((y : FindTerm) → FindsFollow (finds_named w xs (done ++ named y p ∷ []) (drop (find_tokens x) p)) (done ++ named y p ∷ []) (finds_meant w xs) k j (drop (find_tokens x) p))
    → FindsFollow (and_found found (λ y. finds_named w xs (done ++ named y p ∷ []) (drop (find_tokens x) p))) done (one_more w x xs) i j p
find_then_on w x xs done (Ok y) i k j p begin pass t rest = rw t (find_on w xs y (here p) done _ i k j p (drop (find_tokens x) p) refl begin pass (rest y))
find_then_on w x xs done (Err e) i k j p begin pass t rest = rw t.0 (refl, t.1)

first_place : {i : Input} (p : Places) → Means TypeFault i → Begins (here p) i p
first_place p means = record { count = 0; at = refl; means = means }

at_tokens : (w : Where) (x : Find) (k i : Input) (p : Places) → i ≡ find_then x (l.Mark m.Or ∷ k) → Tests (find_walk w x p) (find_meant w x) i p × Passed i k p (drop (find_tokens x) p)
at_tokens w x k i p e = rw e (find_tests w x (l.Mark m.Or ∷ k) p, find_passed x k p)

pub finds_follow : (w : Where) {d : ℕ} {i j : Input} {xs : List Find} → AreFinds w.context d i xs j → (done : List Named) (p : Places) → FindsFollow (finds_named w xs done p) done (finds_meant w xs) i j p
finds_follow w (no_find {i = i}) done p = record { more = []; is = sym (append-nil done); means = refl; begin = tt; pass = none_passed i p }
finds_follow w (a_find {i = i} {k = k} {j = j} {x = x} {more = more} is are) done p =
    let a = at_tokens w x k i p is.tokens in
    rw is.stands (find_then_on w x more done (find_walk w x p) i k j p (first_place p (wrong_read is)) a.1 a.0 (λ y. finds_follow w are (done ++ named y p ∷ []) (drop (find_tokens x) p)))

-- ---- what stands behind the last `or`

pub record Inner (s : Shape) (ys : List Named) (at : ℕ) (i : Input) (p : Places) : Type 0 where
  pub place : ℕ
  pub is : innermost s ys (Some at) ≡ Some place
  pub begins : Points (record { kind = TypeFault; at = place }) i p

inner_where : (s : Shape) (y : Named) (ys : List Named) (at : ℕ) (i : Input) (p : Places) (b : Bool) → fits (found_shape y.term) s ≡ b → Inner s ys at i p → Inner s ys y.at i p → Inner s (y ∷ ys) at i p
inner_where s y ys at i p true e one two = record { place = one.place; is = rw e one.is; begins = one.begins }
inner_where s y ys at i p false e one two = record { place = two.place; is = rw e two.is; begins = two.begins }

inner_some : (s : Shape) (ys : List Named) (at : ℕ) (i : Input) (p : Places) → AllBegin ys i p → Points (record { kind = TypeFault; at = at }) i p → Inner s ys at i p
inner_some s [] at i p all begins = record { place = at; is = refl; begins = begins }
inner_some s (y ∷ ys) at i p all begins = inner_where s y ys at i p (fits (found_shape y.term) s) refl (inner_some s ys at i p all.1 begins) (inner_some s ys y.at i p all.1 all.0)

refused_at : (at : Option ℕ) (place : ℕ) (i : Input) (p : Places) → at ≡ Some place → Points (record { kind = TypeFault; at = place }) i p → Tests (agreed at) None i p
refused_at at place i p e begins = rw e (refl, begins)

inner_none_where : (s : Shape) (y : Named) (ys : List Named) (i : Input) (p : Places) (b : Bool) → fits (found_shape y.term) s ≡ b → Tests (agreed (innermost s ys None)) (only (all_find s (terms ys))) i p → Inner s ys y.at i p
    → Tests (agreed (innermost s (y ∷ ys) None)) (only (all_find s (terms (y ∷ ys)))) i p
inner_none_where s y ys i p true e rest inner = rw e rest
inner_none_where s y ys i p false e rest inner = rw e (refused_at (innermost s ys (Some y.at)) inner.place i p inner.is inner.begins)

pub finds_agree : (s : Shape) (ys : List Named) (i : Input) (p : Places) → AllBegin ys i p → Tests (agreed (innermost s ys None)) (only (all_find s (terms ys))) i p
finds_agree s [] i p all = refl
finds_agree s (y ∷ ys) i p all = inner_none_where s y ys i p (fits (found_shape y.term) s) refl (finds_agree s ys i p all.1) (inner_some s ys y.at i p all.1 all.0)
