-- What holds of the resolved trees of accepted texts: where their reads stand, and how many types an entity gets.
use Rattle.std.proofs.Common.{◌≡◌, ℕ, ℤ, ◌&&◌, Bool, true, false, List, [], ◌∷◌, map, Option, Some, None, refl, ◌∙◌, rules}
use Rattle.std.specs.List.{list_all}
use Rattle.eb_rule_text.specs.declared.trees.Context.{Context}
use Rattle.eb_rule_text.specs.declared.trees.Context.TheVariants as c
use Rattle.eb_rule_text.specs.declared.trees.Find.{Find}
use Rattle.eb_rule_text.specs.declared.trees.Find.TheVariants as f
use Rattle.eb_rule_text.specs.declared.trees.Read.{Read}
use Rattle.eb_rule_text.specs.declared.trees.Read.TheVariants as r
use Rattle.eb_rule_text.specs.declared.trees.FieldPath.{FieldPath}
use Rattle.eb_rule_text.specs.declared.trees.Link.{Link}
use Rattle.eb_rule_text.specs.declared.trees.Op.{Op}
use Rattle.eb_rule_text.specs.declared.trees.Reach.{Reach}
use Rattle.eb_rule_text.specs.declared.trees.Expr.{Expr}
use Rattle.eb_rule_text.specs.declared.trees.Expr.TheVariants as e
use Rattle.eb_rule_text.specs.Input.{Input}
use Rattle.eb_rule_text.specs.Spelled.{has_find, has_read}
use Rattle.eb_rule_text.specs.Reading.{chain, found_of}
use Rattle.eb_rule_text.specs.Reading.{link_of as linked}
use Rattle.eb_schema.specs.Schemas.{component_named, authoring_named}
use Rattle.eb_rules.specs.declared.plans.AuthoredField.{AuthoredField}
use Rattle.eb_rules.specs.declared.plans.ComponentField.{ComponentField}
use Rattle.eb_rules.specs.declared.plans.FieldPlace.{FieldPlace}
use Rattle.eb_rule_text.specs.Grammar.{IsLevel, AreLinks, IsUnary, IsAtom, tightest, chained, no_link, a_link, negated, inverted, plain, an_int, a_fix, a_name, a_true, a_false, a_null, in_parens, to_fix, to_int, a_read}
use Rattle.eb_rules.specs.declared.plans.FindTerm.{FindTerm}
use Rattle.eb_rules.specs.declared.plans.FindTerm.TheVariants as found
use Rattle.eb_rules.specs.declared.plans.ReadTerm.{ReadTerm}
use Rattle.eb_rules.specs.declared.plans.ReadTerm.TheVariants as value
use Rattle.eb_rules.specs.declared.plans.Term.{Term, the_lemmas}
use Rattle.eb_rules.specs.declared.plans.Term.TheVariants as t
use Rattle.eb_rules.specs.declared.scopes.Bound.{Bound}
use Rattle.eb_rules.specs.declared.shapes.Shape.{Shape}
use Rattle.eb_rules.specs.declared.typing.Resolved.{Resolved}
use Rattle.eb_rules.specs.Shapes.{read_shape, of_op, of_minus, of_not, of_fix, of_int}
use Rattle.eb_rules.specs.Scopes.{Text, Where, field_in, bound_of, place_of, as_value, as_entity}
use Rattle.eb_rules.specs.Meanings.{and_some, only, authored_at, component_at, asked_at, find_meant, finds_meant, whole_meant, name_meant, read_meant, made_of, links_meant, all_find, expr_meant, link_meant}
use Rattle.eb_rules.specs.Holds.{find_stands, read_stands, term_stands, link_stands}
use Rattle.eb_rules.proofs.FollowExprs.{meant_int, meant_fix, meant_true, meant_false, meant_null, meant_name, meant_paren, meant_to_fix, meant_to_int, meant_read, meant_find, meant_negate, meant_not, meant_chain}

-- ---- what holds of a meaning, if there is one

abbrev pub Gives : {A : Type 0} → (A → Type 0) → Option A → Type 0
Gives P None = Unit {0}
Gives P (Some a) = P a

pub anything : {A : Type 0} (m : Option A) → Gives (λ a. Unit {0}) m
anything None = tt
anything (Some a) = tt

pub gives_then : {A B : Type 0} (Q : A → Type 0) (P : B → Type 0) (m : Option A) (h : A → Option B) → Gives Q m → ((a : A) → Q a → Gives P (h a)) → Gives P (and_some m h)
gives_then Q P None h is next = tt
gives_then Q P (Some a) h is next = next a is

pub if_only : {B : Type 0} (P : B → Type 0) (b : Bool) (h : Unit {0} → Option B) → (b ≡ true → Gives P (h tt)) → Gives P (and_some (only b) h)
if_only P true h next = next refl
if_only P false h next = tt

pub both_true : (a b : Bool) → a ≡ true → b ≡ true → (a && b) ≡ true
both_true a b h k = rw (h, k) refl

-- ---- reads

this_stands : (k : Context) (x : Text) (y : FieldPlace) → has_read k (r.This x) ≡ true → read_stands k (value.This y) ≡ true
this_stands c.Baker x y h = refl
this_stands c.System x y h = absurd (search rules)
this_stands c.Job x y h = absurd (search rules)

field_stands : (k : Context) (x : FieldPath) (y : ComponentField) → has_read k (r.Field x) ≡ true → read_stands k (value.Field y) ≡ true
field_stands c.Baker x y h = absurd (search rules)
field_stands c.System x y h = refl
field_stands c.Job x y h = refl

sum_stands : (k : Context) (over : Reach) (x : FieldPath) (y : AuthoredField) → has_read k (r.Sum over x) ≡ true → read_stands k (value.Sum over y) ≡ true
sum_stands c.Baker over x y h = refl
sum_stands c.System over x y h = absurd (search rules)
sum_stands c.Job over x y h = absurd (search rules)

count_stands : (k : Context) (over : Reach) (x : Text) (y : ℕ) → has_read k (r.Count over x) ≡ true → read_stands k (value.Count over y) ≡ true
count_stands c.Baker over x y h = refl
count_stands c.System over x y h = absurd (search rules)
count_stands c.Job over x y h = absurd (search rules)

sum_all_stands : (k : Context) (x : FieldPath) (y : ComponentField) → has_read k (r.SumAll x) ≡ true → read_stands k (value.SumAll y) ≡ true
sum_all_stands c.Baker x y h = absurd (search rules)
sum_all_stands c.System x y h = refl
sum_all_stands c.Job x y h = absurd (search rules)

count_all_stands : (k : Context) (x : Text) (y : ℕ) → has_read k (r.CountAll x) ≡ true → read_stands k (value.CountAll y) ≡ true
count_all_stands c.Baker x y h = absurd (search rules)
count_all_stands c.System x y h = refl
count_all_stands c.Job x y h = absurd (search rules)

entity_stands : (k : Context) → has_read k r.Entity ≡ true → read_stands k value.Entity ≡ true
entity_stands c.Baker h = refl
entity_stands c.System h = refl
entity_stands c.Job h = refl

entity_at_stands : (k : Context) (x : Text) (y : FieldPlace) → has_read k (r.EntityAt x) ≡ true → read_stands k (value.EntityAt y) ≡ true
entity_at_stands c.Baker x y h = refl
entity_at_stands c.System x y h = absurd (search rules)
entity_at_stands c.Job x y h = absurd (search rules)

own_may : (k : Context) (x : FieldPath) (y : AuthoredField) → has_find k (f.Own x) ≡ true → find_stands k (found.Own y) ≡ true
own_may c.Baker x y h = refl
own_may c.System x y h = absurd (search rules)
own_may c.Job x y h = absurd (search rules)

parent_may : (k : Context) (x : FieldPath) (y : AuthoredField) → has_find k (f.Parent x) ≡ true → find_stands k (found.Parent y) ≡ true
parent_may c.Baker x y h = refl
parent_may c.System x y h = absurd (search rules)
parent_may c.Job x y h = absurd (search rules)

asset_may : (k : Context) (a x : Text) (y z : FieldPlace) → has_find k (f.Asset a x) ≡ true → find_stands k (found.Asset y z) ≡ true
asset_may c.Baker a x y z h = refl
asset_may c.System a x y z h = absurd (search rules)
asset_may c.Job a x y z h = absurd (search rules)

min_may : (k : Context) (over : Reach) (x : FieldPath) (y : AuthoredField) → has_find k (f.Min over x) ≡ true → find_stands k (found.Min over y) ≡ true
min_may c.Baker over x y h = refl
min_may c.System over x y h = absurd (search rules)
min_may c.Job over x y h = absurd (search rules)

max_may : (k : Context) (over : Reach) (x : FieldPath) (y : AuthoredField) → has_find k (f.Max over x) ≡ true → find_stands k (found.Max over y) ≡ true
max_may c.Baker over x y h = refl
max_may c.System over x y h = absurd (search rules)
max_may c.Job over x y h = absurd (search rules)

at_may : (k : Context) (a x : FieldPath) (y z : ComponentField) → has_find k (f.At a x) ≡ true → find_stands k (found.At y z) ≡ true
at_may c.Baker a x y z h = absurd (search rules)
at_may c.System a x y z h = refl
at_may c.Job a x y z h = refl

max_all_may : (k : Context) (x : FieldPath) (y : ComponentField) → has_find k (f.MaxAll x) ≡ true → find_stands k (found.MaxAll y) ≡ true
max_all_may c.Baker x y h = absurd (search rules)
max_all_may c.System x y h = refl
max_all_may c.Job x y h = absurd (search rules)

abbrev pub Stands : Context → Resolved → Type 0
Stands k y = term_stands k y.term ≡ true

stands_read : (k : Context) (x : ReadTerm) → term_stands k (t.Read x) ≡ read_stands k x
unfolding term_stands
stands_read k x = search (rules, the_lemmas)

stands_name : (k : Context) (at : ℕ) → term_stands k (t.Name at) ≡ true
unfolding term_stands
stands_name k at = search (rules, the_lemmas)

whole_stands : (k : Context) (y : ReadTerm) → read_stands k y ≡ true → Gives (Stands k) (whole_meant y)
whole_stands k y h = gives_then (λ s. Unit {0}) (Stands k) (read_shape y) _ (anything (read_shape y)) (λ s u. stands_read k y ∙ h)

read_one : {A : Type 0} (k : Context) (m : Option A) (g : A → ReadTerm) → ((a : A) → read_stands k (g a) ≡ true) → Gives (Stands k) (and_some m (λ y. whole_meant (g y)))
read_one k m g is = gives_then (λ a. Unit {0}) (Stands k) m _ (anything m) (λ a u. whole_stands k (g a) (is a))

pub name_stands : (k : Context) (may : Bound → Option Shape) (w : Where) (x : Text) → Gives (Stands k) (name_meant may w x)
name_stands k may w x = gives_then (λ s. Unit {0}) (Stands k) (and_some (bound_of x w.known) may) _ (anything (and_some (bound_of x w.known) may)) (λ s u. stands_name k (place_of x w.known))

read_holds : (w : Where) (k : Context) (x : Read) → has_read k x ≡ true → Gives (Stands k) (read_meant w x)
read_holds w k (r.This x) h = read_one k (field_in x w.own) (λ y. value.This y) (λ y. this_stands k x y h)
read_holds w k (r.Field x) h = read_one k (asked_at w x) (λ y. value.Field y) (λ y. field_stands k x y h)
read_holds w k (r.Sum over x) h = read_one k (authored_at w x) (λ y. value.Sum over y) (λ y. sum_stands k over x y h)
read_holds w k (r.Count over x) h = read_one k (authoring_named w.types x) (λ y. value.Count over y) (λ y. count_stands k over x y h)
read_holds w k (r.SumAll x) h = read_one k (component_at w x) (λ y. value.SumAll y) (λ y. sum_all_stands k x y h)
read_holds w k (r.CountAll x) h = read_one k (component_named w.types x) (λ y. value.CountAll y) (λ y. count_all_stands k x y h)
read_holds w k r.Entity h = whole_stands k value.Entity (entity_stands k h)
read_holds w k (r.EntityAt x) h = read_one k (field_in x w.own) (λ y. value.EntityAt y) (λ y. entity_at_stands k x y h)
read_holds w k (r.EntityOf x) h = name_stands k as_entity w x

abbrev pub May : Context → FindTerm → Type 0
May k y = find_stands k y ≡ true

find_one : {A : Type 0} (k : Context) (m : Option A) (g : A → FindTerm) → ((a : A) → May k (g a)) → Gives (May k) (and_some m (λ y. Some (g y)))
find_one k m g is = gives_then (λ a. Unit {0}) (May k) m _ (anything m) (λ a u. is a)

find_two : {A B : Type 0} (k : Context) (m : Option A) (n : Option B) (g : A → B → FindTerm) → ((a : A) (b : B) → May k (g a b)) → Gives (May k) (and_some m (λ y. and_some n (λ z. Some (g y z))))
find_two k m n g is = gives_then (λ a. Unit {0}) (May k) m _ (anything m) (λ a u. find_one k n (g a) (is a))

find_holds : (w : Where) (k : Context) (x : Find) → has_find k x ≡ true → Gives (May k) (find_meant w x)
find_holds w k (f.Own x) h = find_one k (authored_at w x) (λ y. found.Own y) (λ y. own_may k x y h)
find_holds w k (f.Parent x) h = find_one k (authored_at w x) (λ y. found.Parent y) (λ y. parent_may k x y h)
find_holds w k (f.Asset a x) h = find_two k (field_in a w.own) (field_in x w.types.assets) (λ y z. found.Asset y z) (λ y z. asset_may k a x y z h)
find_holds w k (f.Min over x) h = find_one k (authored_at w x) (λ y. found.Min over y) (λ y. min_may k over x y h)
find_holds w k (f.Max over x) h = find_one k (authored_at w x) (λ y. found.Max over y) (λ y. max_may k over x y h)
find_holds w k (f.At a x) h = find_two k (asked_at w a) (component_at w x) (λ y z. found.At y z) (λ y z. at_may k a x y z h)
find_holds w k (f.MaxAll x) h = find_one k (component_at w x) (λ y. found.MaxAll y) (λ y. max_all_may k x y h)

abbrev pub AllMay : Context → List FindTerm → Type 0
AllMay k ys = list_all (find_stands k) ys ≡ true

finds_hold : (w : Where) (xs : List Find) → Gives (AllMay w.context) (finds_meant w xs)
finds_hold w [] = refl
finds_hold w (x ∷ xs) =
    if_only (AllMay w.context) (has_find w.context x) _ (λ h. gives_then (May w.context) (AllMay w.context) (find_meant w x) _ (find_holds w w.context x h)
    (λ y is. gives_then (AllMay w.context) (AllMay w.context) (finds_meant w xs) _ (finds_hold w xs) (λ ys are. both_true (find_stands w.context y) (list_all (find_stands w.context) ys) is are)))

-- ---- terms

stands_int : (k : Context) (n : ℤ) → term_stands k (t.Int n) ≡ true
unfolding term_stands
stands_int k n = search (rules, the_lemmas)

stands_fix : (k : Context) (n : ℤ) → term_stands k (t.Fix n) ≡ true
unfolding term_stands
stands_fix k n = search (rules, the_lemmas)

stands_true : (k : Context) → term_stands k t.True ≡ true
unfolding term_stands
stands_true k = search (rules, the_lemmas)

stands_false : (k : Context) → term_stands k t.False ≡ true
unfolding term_stands
stands_false k = search (rules, the_lemmas)

stands_null : (k : Context) → term_stands k t.Null ≡ true
unfolding term_stands
stands_null k = search (rules, the_lemmas)

stands_to_fix : (k : Context) (x : Term) → term_stands k (t.ToFix x) ≡ term_stands k x
unfolding term_stands
stands_to_fix k x = search (rules, the_lemmas)

stands_to_int : (k : Context) (x : Term) → term_stands k (t.ToInt x) ≡ term_stands k x
unfolding term_stands
stands_to_int k x = search (rules, the_lemmas)

stands_find : (k : Context) (finds : List FindTerm) (x : Term) → term_stands k (t.Find finds x) ≡ (list_all (find_stands k) finds && term_stands k x)
unfolding term_stands
stands_find k finds x = search (rules, the_lemmas)

stands_negate : (k : Context) (x : Term) → term_stands k (t.Negate x) ≡ term_stands k x
unfolding term_stands
stands_negate k x = search (rules, the_lemmas)

stands_not : (k : Context) (x : Term) → term_stands k (t.Not x) ≡ term_stands k x
unfolding term_stands
stands_not k x = search (rules, the_lemmas)

stands_chain : (k : Context) (first : Term) (more : List (Link Term)) → term_stands k (t.Chain first more) ≡ (term_stands k first && list_all (λ x. x.right) (map (link_stands k) more))
unfolding term_stands
stands_chain k first more = search (rules, the_lemmas)

Holds : Where → Expr → Type 0
Holds w x = Gives (Stands w.context) (expr_meant w x)

abbrev pub AllStand : Context → List (Link Term) → Type 0
AllStand k more = list_all (λ x. x.right) (map (link_stands k) more) ≡ true

LinksHold : Where → List (Link Expr) → Type 0
LinksHold w more = (s : Shape) → Gives (λ z. AllStand w.context z.0) (links_meant (map (link_meant w) more) s)

-- what is made of one operand
made_holds : (k : Context) (m : Option Shape) (y : Term) → term_stands k y ≡ true → Gives (Stands k) (made_of m y)
made_holds k m y is = gives_then (λ s. Unit {0}) (Stands k) m _ (anything m) (λ s u. is)

one_holds : (w : Where) (x : Expr) (of : Shape → Option Shape) (g : Term → Term) → ((y : Term) → term_stands w.context (g y) ≡ term_stands w.context y) → Holds w x → Gives (Stands w.context) (and_some (expr_meant w x) (λ y. made_of (of y.shape) (g y.term)))
unfolding Holds
one_holds w x of g same is = gives_then (Stands w.context) (Stands w.context) (expr_meant w x) _ is (λ y h. made_holds w.context (of y.shape) (g y.term) (same y.term ∙ h))

read_expr_holds : (w : Where) (x : Read) → Holds w (e.Read x)
unfolding Holds
read_expr_holds w x = rw (meant_read w x) (if_only (Stands w.context) (has_read w.context x) _ (λ h. read_holds w w.context x h))

find_expr_holds : (w : Where) (xs : List Find) (x : Expr) → Holds w x → Holds w (found_of xs x)
unfolding Holds
find_expr_holds w [] x is = is
find_expr_holds w (y ∷ ys) x is =
    rw (meant_find w (y ∷ ys) x) (gives_then (AllMay w.context) (Stands w.context) (finds_meant w (y ∷ ys)) _ (finds_hold w (y ∷ ys))
    (λ fs are. gives_then (Stands w.context) (Stands w.context) (expr_meant w x) _ is
    (λ z h. if_only (Stands w.context) (all_find z.shape fs) _ (λ u. stands_find w.context fs z.term ∙ both_true (list_all (find_stands w.context) fs) (term_stands w.context z.term) are h))))

links_end_hold : (w : Where) → LinksHold w []
unfolding LinksHold
links_end_hold w s = refl

links_more_hold : (w : Where) (o : Op) (x : Expr) (more : List (Link Expr)) → Holds w x → LinksHold w more → LinksHold w (linked o x ∷ more)
unfolding Holds LinksHold
links_more_hold w o x more is are s =
    gives_then (Stands w.context) (λ z. AllStand w.context z.0) (expr_meant w x) _ is
    (λ y h. gives_then (λ k. Unit {0}) (λ z. AllStand w.context z.0) (of_op o s y.shape) _ (anything (of_op o s y.shape))
    (λ k u. gives_then (λ z. AllStand w.context z.0) (λ z. AllStand w.context z.0) (links_meant (map (link_meant w) more) k) _ (are k)
    (λ z hs. both_true (term_stands w.context y.term) (list_all (λ x. x.right) (map (link_stands w.context) z.0)) h hs)))

chain_holds : (w : Where) (first : Expr) (more : List (Link Expr)) → Holds w first → LinksHold w more → Holds w (chain first more)
unfolding Holds LinksHold
chain_holds w first [] is are = is
chain_holds w first (x ∷ xs) is are =
    rw (meant_chain w first (x ∷ xs)) (gives_then (Stands w.context) (Stands w.context) (expr_meant w first) _ is
    (λ y h. gives_then (λ z. AllStand w.context z.0) (Stands w.context) (links_meant (map (link_meant w) (x ∷ xs)) y.shape) _ (are y.shape)
    (λ z hs. stands_chain w.context y.term z.0 ∙ both_true (term_stands w.context y.term) (list_all (λ x. x.right) (map (link_stands w.context) z.0)) h hs)))

int_holds : (w : Where) (n : ℤ) → Holds w (e.Int n)
unfolding Holds
int_holds w n = rw (meant_int w n) (stands_int w.context n)

fix_holds : (w : Where) (n : ℤ) → Holds w (e.Fix n)
unfolding Holds
fix_holds w n = rw (meant_fix w n) (stands_fix w.context n)

true_holds : (w : Where) → Holds w e.True
unfolding Holds
true_holds w = rw (meant_true w) (stands_true w.context)

false_holds : (w : Where) → Holds w e.False
unfolding Holds
false_holds w = rw (meant_false w) (stands_false w.context)

null_holds : (w : Where) → Holds w e.Null
unfolding Holds
null_holds w = rw (meant_null w) (stands_null w.context)

name_holds : (w : Where) (x : Text) → Holds w (e.Name x)
unfolding Holds
name_holds w x = rw (meant_name w x) (name_stands w.context as_value w x)

paren_holds : (w : Where) (x : Expr) → Holds w x → Holds w (e.Paren x)
unfolding Holds
paren_holds w x is = rw (meant_paren w x) is

to_fix_holds : (w : Where) (x : Expr) → Holds w x → Holds w (e.ToFix x)
unfolding Holds
to_fix_holds w x is = rw (meant_to_fix w x) (one_holds w x of_fix (λ y. t.ToFix y) (stands_to_fix w.context) is)

to_int_holds : (w : Where) (x : Expr) → Holds w x → Holds w (e.ToInt x)
unfolding Holds
to_int_holds w x is = rw (meant_to_int w x) (one_holds w x of_int (λ y. t.ToInt y) (stands_to_int w.context) is)

negate_holds : (w : Where) (x : Expr) → Holds w x → Holds w (e.Negate x)
unfolding Holds
negate_holds w x is = rw (meant_negate w x) (one_holds w x of_minus (λ y. t.Negate y) (stands_negate w.context) is)

not_holds : (w : Where) (x : Expr) → Holds w x → Holds w (e.Not x)
unfolding Holds
not_holds w x is = rw (meant_not w x) (one_holds w x of_not (λ y. t.Not y) (stands_not w.context) is)

mutual
  level_holds : (w : Where) {context : Context} {n d : ℕ} {i j : Input} {x : Expr} → IsLevel context n d i x j → Holds w x
  level_holds w (tightest u) = unary_holds w u
  level_holds w (chained {first = first} {more = more} is are) = chain_holds w first more (level_holds w is) (links_hold w are)

  links_hold : (w : Where) {context : Context} {n d : ℕ} {i j : Input} {more : List (Link Expr)} → AreLinks context n d i more j → LinksHold w more
  links_hold w no_link = links_end_hold w
  links_hold w (a_link {o = o} {x = x} {more = more} op is are one) = links_more_hold w o x more (level_holds w is) (links_hold w are)

  unary_holds : (w : Where) {context : Context} {d : ℕ} {i j : Input} {x : Expr} → IsUnary context d i x j → Holds w x
  unary_holds w (negated {x = x} u) = negate_holds w x (unary_holds w u)
  unary_holds w (inverted {x = x} u) = not_holds w x (unary_holds w u)
  unary_holds w (plain {found = found} {x = x} are is) = find_expr_holds w found x (atom_holds w is)

  atom_holds : (w : Where) {context : Context} {d : ℕ} {i j : Input} {x : Expr} → IsAtom context d i x j → Holds w x
  atom_holds w (an_int {n = n}) = int_holds w n
  atom_holds w (a_fix {n = n}) = fix_holds w n
  atom_holds w (a_name {x = x}) = name_holds w x
  atom_holds w a_true = true_holds w
  atom_holds w a_false = false_holds w
  atom_holds w a_null = null_holds w
  atom_holds w (in_parens {x = x} is) = paren_holds w x (level_holds w is)
  atom_holds w (to_fix {x = x} is) = to_fix_holds w x (level_holds w is)
  atom_holds w (to_int {x = x} is) = to_int_holds w x (level_holds w is)
  atom_holds w (a_read {x = x} is) = read_expr_holds w x

pub expr_holds : (w : Where) {context : Context} {n d : ℕ} {i j : Input} {x : Expr} → IsLevel context n d i x j → Gives (λ y. term_stands w.context y.term ≡ true) (expr_meant w x)
unfolding Holds
expr_holds w is = level_holds w is
