-- What holds of resolved statements and rules: reads stand where they may, an entity gets at most 32 types, rules stand at their numbers.
use Rattle.std.proofs.Common.{◌≡◌, ℕ, ◌≤◌, ◌<◌, ◌&&◌, Bool, true, false, not, List, [], ◌∷◌, ◌++◌, map, drop, length, Option, Some, None, refl, sym, ap, ◌∙◌, arith, rules}
use Rattle.std.specs.Prelude.{nat_le, nat_lt}
use Rattle.std.specs.List.{list_all}
use Rattle.std.proofs.lemmas.Bool.Decides.{nat_tests}
use Rattle.std.proofs.lemmas.List.{length-append}
use Rattle.eb_rule_text.specs.declared.trees.Context.{Context}
use Rattle.eb_rule_text.specs.declared.trees.Context.TheVariants as c
use Rattle.eb_rule_text.specs.declared.trees.Expr.{Expr}
use Rattle.eb_rule_text.specs.declared.trees.Init.{Init}
use Rattle.eb_rule_text.specs.declared.trees.Add.{Add}
use Rattle.eb_rule_text.specs.declared.trees.Stmt.{Stmt}
use Rattle.eb_rule_text.specs.declared.trees.Stmt.TheVariants as s
use Rattle.eb_rule_text.specs.Input.{Input}
use Rattle.eb_rule_text.specs.Grammar.{IsExpr, EndInits, last_init, one_init, AreInits, no_init, some_init, IsAdd, added, EndAdds, no_add, one_add, IsStmt, EndStmts, a_let, an_add, an_extra, an_if, an_else, no_stmt, one_stmt}
use Rattle.eb_schema.specs.declared.kinds.Field.{Field}
use Rattle.eb_schema.specs.Schemas.{component_named}
use Rattle.eb_rules.specs.declared.plans.Addition.{Addition}
use Rattle.eb_rules.specs.declared.plans.Filling.{Filling}
use Rattle.eb_rules.specs.declared.plans.Step.{Step, the_lemmas}
use Rattle.eb_rules.specs.declared.plans.Step.TheVariants as step
use Rattle.eb_rules.specs.declared.plans.Term.{Term}
use Rattle.eb_rules.specs.declared.scopes.Visible.{Visible}
use Rattle.eb_rules.specs.declared.shapes.Shape.{Shape}
use Rattle.eb_rules.specs.declared.shapes.Shape.TheVariants as shape
use Rattle.eb_rules.specs.declared.walking.State.{State}
use Rattle.eb_rules.specs.Shapes.{shape_of, fits}
use Rattle.eb_rules.specs.Scopes.{Text, Where, component_fields, is_in_all, next_field}
use Rattle.eb_rules.specs.Statements.{Fixed, scope_of, noted, is_baker, is_full, is_free}
use Rattle.eb_rules.specs.Meanings.{expr_meant, fitted_meant, init_meant, none_left, inits_meant, values_meant, kind_meant, add_meant, adds_meant, Meaner, all_meant, block_meant, other_meant, if_meant, stmt_meant}
use Rattle.eb_rules.specs.Holds.{term_stands, addition_stands, all_noted, few, kinds, joined, added_kinds, step_stands, all_stand}
use Rattle.eb_rules.proofs.FollowStmts.{meant_let, meant_add, meant_extra, meant_if, meant_else}
use Rattle.eb_rules.proofs.Holding.{Gives, anything, gives_then, if_only, both_true, expr_holds}

-- ---- values

abbrev pub AllFit : Context → List Filling → Type 0
AllFit k ys = list_all (λ y. term_stands k y.value) ys ≡ true

fitted_holds : (w : Where) (wanted : Option Shape) {context : Context} {d : ℕ} {i j : Input} {x : Expr} → IsExpr context d i x j → Gives (λ y. term_stands w.context y ≡ true) (fitted_meant w wanted x)
fitted_holds w wanted {x = x} is =
    gives_then (λ y. term_stands w.context y.term ≡ true) (λ y. term_stands w.context y ≡ true) (expr_meant w x) _ (expr_holds w is) (λ y h. if_only (λ y. term_stands w.context y ≡ true) (fits wanted y.shape) _ (λ u. h))

init_holds : (w : Where) (left : List Field) (x : Init) {context : Context} {d : ℕ} {i j : Input} → IsExpr context d i x.value j → Gives (λ y. term_stands w.context y.value ≡ true) (init_meant w left x)
init_holds w left x is =
    gives_then (λ k. Unit {0}) (λ y. term_stands w.context y.value ≡ true) (next_field left x.field) _ (anything (next_field left x.field))
    (λ k u. gives_then (λ y. term_stands w.context y ≡ true) (λ y. term_stands w.context y.value ≡ true) (fitted_meant w (shape_of k) x.value) _ (fitted_holds w (shape_of k) is) (λ y h. h))

none_left_holds : (k : Context) (left : List Field) → Gives (AllFit k) (none_left left)
none_left_holds k [] = refl
none_left_holds k (f ∷ fs) = tt

inits_on : (w : Where) (left : List Field) (x : Init) (xs : List Init) {context : Context} {d : ℕ} {i j : Input} → IsExpr context d i x.value j → Gives (AllFit w.context) (inits_meant w (drop 1 left) xs) → Gives (AllFit w.context) (inits_meant w left (x ∷ xs))
inits_on w left x xs is rest =
    gives_then (λ y. term_stands w.context y.value ≡ true) (AllFit w.context) (init_meant w left x) _ (init_holds w left x is)
    (λ y h. gives_then (AllFit w.context) (AllFit w.context) (inits_meant w (drop 1 left) xs) _ rest (λ ys hs. both_true (term_stands w.context y.value) (list_all (λ y. term_stands w.context y.value) ys) h hs))

inits_hold : (w : Where) (left : List Field) {context : Context} {d : ℕ} {i j : Input} {xs : List Init} → EndInits context d i xs j → Gives (AllFit w.context) (inits_meant w left xs)
inits_hold w left (last_init is) = inits_on w left _ [] is (none_left_holds w.context (drop 1 left))
inits_hold w left (one_init {more = more} is are) = inits_on w left _ more is (inits_hold w (drop 1 left) are)

all_inits_hold : (w : Where) (left : List Field) {context : Context} {d : ℕ} {i j : Input} {xs : List Init} → AreInits context d i xs j → Gives (AllFit w.context) (inits_meant w left xs)
all_inits_hold w left no_init = none_left_holds w.context left
all_inits_hold w left (some_init are) = inits_hold w left are

-- ---- additions, and the types of the entity

-- of a baker, at most 32 types remain at most 32
abbrev pub Few : Context → List ℕ → List ℕ → Type 0
Few k before behind = is_baker k ≡ true → length before ≤ 32 → length behind ≤ 32

record AddHolds (k : Context) (types : List ℕ) (y : Addition) (behind : List ℕ) : Type 0 where
  stands : addition_stands k y ≡ true
  noted_is : behind ≡ noted y.kind types
  few_are : Few k types behind

one_more : (n : ℕ) (types : List ℕ) → nat_le 32 (length types) ≡ false → length (types ++ n ∷ []) ≤ 32
one_more n types room = let less : length types < 32 = grind (arith, nat_tests) in let longer = length-append types (n ∷ []) in omega (arith, less, longer)

room_where : (b : Bool) (n : ℕ) (types : List ℕ) → is_in_all n types ≡ b → (not b && nat_le 32 (length types)) ≡ false → length types ≤ 32 → length (noted n types) ≤ 32
room_where true n types e room few = rw e few
room_where false n types e room few = rw e (one_more n types room)

not_true : (b : Bool) → not b ≡ true → b ≡ false
not_true true h = absurd (search rules)
not_true false h = refl

noted_few : (k : Context) (n : ℕ) (types : List ℕ) → not (is_full k n types) ≡ true → Few k types (noted n types)
noted_few k n types h baker few = room_where (is_in_all n types) n types refl (let full = not_true (is_full k n types) h in rw baker at full) few

add_holds : (g : Fixed) (seen : List Visible) (types : List ℕ) {context : Context} {d : ℕ} {i j : Input} {x : Add} → IsAdd context d i x j → Gives (λ z. AddHolds g.context types z.0 z.1) (add_meant g seen types x)
add_holds g seen types (added {kind = kind} {values = values} are) =
    gives_then (λ n. not (is_full g.context n types) ≡ true) (λ z. AddHolds g.context types z.0 z.1) (kind_meant g types kind) _
    (gives_then (λ n. Unit {0}) (λ n. not (is_full g.context n types) ≡ true) (component_named g.types kind) _ (anything (component_named g.types kind))
    (λ n u. if_only (λ n. not (is_full g.context n types) ≡ true) (not (is_full g.context n types)) _ (λ h. h)))
    (λ n h. gives_then (λ y. (addition_stands g.context y ≡ true) × (y.kind ≡ n)) (λ z. AddHolds g.context types z.0 z.1) (values_meant (scope_of g seen) n values) _
    (gives_then (AllFit g.context) (λ y. (addition_stands g.context y ≡ true) × (y.kind ≡ n)) (inits_meant (scope_of g seen) (component_fields g.types n) values) _
    (all_inits_hold (scope_of g seen) (component_fields g.types n) are) (λ ys hs. (hs, refl)))
    (λ y hy. record { stands = hy.0; noted_is = ap (λ n. noted n types) (sym hy.1); few_are = noted_few g.context n types h }))

record AddsHold (k : Context) (types : List ℕ) (ys : List Addition) (behind : List ℕ) : Type 0 where
  stand : list_all (addition_stands k) ys ≡ true
  noted_are : behind ≡ all_noted (kinds ys) types
  few_are : Few k types behind

adds_hold : (g : Fixed) (seen : List Visible) (types : List ℕ) {context : Context} {d : ℕ} {i j : Input} {xs : List Add} → EndAdds context d i xs j → Gives (λ z. AddsHold g.context types z.0 z.1) (adds_meant g seen xs types)
adds_hold g seen types no_add = record { stand = refl; noted_are = refl; few_are = λ baker few. few }
adds_hold g seen types (one_add {x = x} {more = more} is are) =
    gives_then (λ z. AddHolds g.context types z.0 z.1) (λ z. AddsHold g.context types z.0 z.1) (add_meant g seen types x) _ (add_holds g seen types is)
    (λ y h. gives_then (λ z. AddsHold g.context y.1 z.0 z.1) (λ z. AddsHold g.context types z.0 z.1) (adds_meant g seen more y.1) _ (adds_hold g seen y.1 are)
    (λ z hs. record {
      stand = both_true (addition_stands g.context y.0) (list_all (addition_stands g.context) z.0) h.stands hs.stand;
      noted_are = hs.noted_are ∙ ap (all_noted (kinds z.0)) h.noted_is;
      few_are = λ baker few. hs.few_are baker (h.few_are baker few);
    }))

-- ---- statements

stands_let : (k : Context) (x : Term) → step_stands k (step.Let x) ≡ term_stands k x
unfolding step_stands
stands_let k x = search (rules, the_lemmas)

stands_add : (k : Context) (x : Addition) → step_stands k (step.Add x) ≡ addition_stands k x
unfolding step_stands
stands_add k x = search (rules, the_lemmas)

stands_extra : (k : Context) (n : ℕ) (adds : List Addition) → step_stands k (step.Extra n adds) ≡ (nat_lt n 16 && (few (kinds adds) && list_all (addition_stands k) adds))
unfolding step_stands
stands_extra k n adds = search (rules, the_lemmas)

stands_if : (k : Context) (test : Term) (body other : List Step) → step_stands k (step.If test body other) ≡ (term_stands k test && (all_stand k body && all_stand k other))
unfolding step_stands
stands_if k test body other = search (rules, the_lemmas)

kinds_let : (x : Term) → added_kinds (step.Let x) ≡ []
unfolding added_kinds
kinds_let x = search (rules, the_lemmas)

kinds_add : (x : Addition) → added_kinds (step.Add x) ≡ x.kind ∷ []
unfolding added_kinds
kinds_add x = search (rules, the_lemmas)

kinds_extra : (n : ℕ) (adds : List Addition) → added_kinds (step.Extra n adds) ≡ []
unfolding added_kinds
kinds_extra n adds = search (rules, the_lemmas)

kinds_if : (test : Term) (body other : List Step) → added_kinds (step.If test body other) ≡ joined (map added_kinds body) ++ joined (map added_kinds other)
unfolding added_kinds
kinds_if test body other = search (rules, the_lemmas)

noted_append : (xs ys types : List ℕ) → all_noted (xs ++ ys) types ≡ all_noted ys (all_noted xs types)
noted_append [] ys types = refl
noted_append (x ∷ xs) ys types = noted_append xs ys (noted x types)

record StepHolds (k : Context) (types : List ℕ) (y : Step) (behind : List ℕ) : Type 0 where
  stands : step_stands k y ≡ true
  noted_is : behind ≡ all_noted (added_kinds y) types
  few_are : Few k types behind

pub record StepsHold (k : Context) (types : List ℕ) (ys : List Step) (behind : List ℕ) : Type 0 where
  pub stand : all_stand k ys ≡ true
  pub noted_are : behind ≡ all_noted (joined (map added_kinds ys)) types
  pub few_are : is_baker k ≡ true → length types ≤ 32 → length behind ≤ 32

StmtHolds : Fixed → Stmt → Type 0
StmtHolds g x = (st : State) → Gives (λ z. StepHolds g.context st.types z.0 z.1.types) (stmt_meant g x st)

StmtsHold : Fixed → List Stmt → Type 0
StmtsHold g xs = (st : State) → Gives (λ z. StepsHold g.context st.types z.0 z.1.types) (all_meant (map (stmt_meant g) xs) st)

let_holds : (g : Fixed) (x : Text) (value : Expr) {context : Context} {d : ℕ} {i j : Input} → IsExpr context d i value j → StmtHolds g (s.Let x value)
unfolding StmtHolds
let_holds g x value is st =
    rw (meant_let g x value st) (if_only (λ z. StepHolds g.context st.types z.0 z.1.types) (is_free x st.known) _
    (λ u. gives_then (λ y. term_stands g.context y.term ≡ true) (λ z. StepHolds g.context st.types z.0 z.1.types) (expr_meant (scope_of g st.known) value) _ (expr_holds (scope_of g st.known) is)
    (λ y h. record { stands = stands_let g.context y.term ∙ h; noted_is = rw (kinds_let y.term) refl; few_are = λ baker few. few })))

add_stmt_holds : (g : Fixed) (x : Add) {context : Context} {d : ℕ} {i j : Input} → IsAdd context d i x j → StmtHolds g (s.Add x)
unfolding StmtHolds
add_stmt_holds g x is st =
    rw (meant_add g x st) (gives_then (λ z. AddHolds g.context st.types z.0 z.1) (λ z. StepHolds g.context st.types z.0 z.1.types) (add_meant g st.known st.types x) _ (add_holds g st.known st.types is)
    (λ y h. record { stands = stands_add g.context y.0 ∙ h.stands; noted_is = rw (kinds_add y.0) h.noted_is; few_are = h.few_are }))

few_extra : (k : Context) (ys : List Addition) (behind : List ℕ) → is_baker k ≡ true → AddsHold k [] ys behind → few (kinds ys) ≡ true
few_extra k ys behind baker h = let less : length behind ≤ 32 = h.few_are baker (omega arith) in let is = ap length h.noted_are in grind (arith, nat_tests)

below_16 : (n : ℕ) → not (nat_le 16 n) ≡ true → nat_lt n 16 ≡ true
below_16 n h = let low = not_true (nat_le 16 n) h in grind (arith, nat_tests)

extra_holds : (g : Fixed) (x : Text) (adds : List Add) {context : Context} {d : ℕ} {i j : Input} → is_baker g.context ≡ true → EndAdds context d i adds j → StmtHolds g (s.Extra x adds)
unfolding StmtHolds
extra_holds g x adds baker are st =
    rw (meant_extra g x adds st) (if_only (λ z. StepHolds g.context st.types z.0 z.1.types) (not (nat_le 16 st.extras)) _
    (λ low. if_only (λ z. StepHolds g.context st.types z.0 z.1.types) (is_free x st.known) _
    (λ u. gives_then (λ z. AddsHold g.context [] z.0 z.1) (λ z. StepHolds g.context st.types z.0 z.1.types) (adds_meant g st.known adds []) _ (adds_hold g st.known [] are)
    (λ y h. record {
      stands = stands_extra g.context st.extras y.0 ∙ both_true (nat_lt st.extras 16) _ (below_16 st.extras low) (both_true (few (kinds y.0)) _ (few_extra g.context y.0 y.1 baker h) h.stand);
      noted_is = rw (kinds_extra st.extras y.0) refl;
      few_are = λ isbaker few. few;
    }))))

BlockHolds : Fixed → Option (List Meaner) → Type 0
BlockHolds g meanings = (st : State) → Gives (λ z. StepsHold g.context st.types z.0 z.1.types) (other_meant meanings st)

block_holds : (g : Fixed) (xs : List Stmt) → StmtsHold g xs → (st : State) → Gives (λ z. StepsHold g.context st.types z.0 z.1.types) (block_meant (map (stmt_meant g) xs) st)
unfolding StmtsHold
block_holds g xs are st =
    gives_then (λ z. StepsHold g.context st.types z.0 z.1.types) (λ z. StepsHold g.context st.types z.0 z.1.types) (all_meant (map (stmt_meant g) xs) st) _ (are st) (λ y h. record { stand = h.stand; noted_are = h.noted_are; few_are = h.few_are })

test_holds : (g : Fixed) (test : Expr) (body : List Stmt) (meanings : Option (List Meaner)) {context : Context} {d : ℕ} {i j : Input} → IsExpr context d i test j → StmtsHold g body → BlockHolds g meanings → (st : State)
    → Gives (λ z. StepHolds g.context st.types z.0 z.1.types) (if_meant g test (map (stmt_meant g) body) meanings st)
unfolding BlockHolds
test_holds g test body meanings is are others st =
    gives_then (λ y. term_stands g.context y ≡ true) (λ z. StepHolds g.context st.types z.0 z.1.types) (fitted_meant (scope_of g st.known) (Some shape.Bool) test) _ (fitted_holds (scope_of g st.known) (Some shape.Bool) is)
    (λ y h. gives_then (λ z. StepsHold g.context st.types z.0 z.1.types) (λ z. StepHolds g.context st.types z.0 z.1.types) (block_meant (map (stmt_meant g) body) st) _ (block_holds g body are st)
    (λ b hb. gives_then (λ z. StepsHold g.context b.1.types z.0 z.1.types) (λ z. StepHolds g.context st.types z.0 z.1.types) (other_meant meanings b.1) _ (others b.1)
    (λ o ho. record {
      stands = stands_if g.context y b.0 o.0 ∙ both_true (term_stands g.context y) _ h (both_true (all_stand g.context b.0) (all_stand g.context o.0) hb.stand ho.stand);
      noted_is = rw (kinds_if y b.0 o.0, noted_append (joined (map added_kinds b.0)) (joined (map added_kinds o.0)) st.types, ← hb.noted_are) ho.noted_are;
      few_are = λ baker few. ho.few_are baker (hb.few_are baker few);
    })))

no_other_holds : (g : Fixed) → BlockHolds g None
unfolding BlockHolds
no_other_holds g st = record { stand = refl; noted_are = refl; few_are = λ baker few. few }

an_other_holds : (g : Fixed) (xs : List Stmt) → StmtsHold g xs → BlockHolds g (Some (map (stmt_meant g) xs))
unfolding BlockHolds
an_other_holds g xs are st = block_holds g xs are st

if_holds : (g : Fixed) (test : Expr) (body : List Stmt) {context : Context} {d : ℕ} {i j : Input} → IsExpr context d i test j → StmtsHold g body → StmtHolds g (s.If test body None)
unfolding StmtHolds
if_holds g test body is are st = rw (meant_if g test body st) (test_holds g test body None is are (no_other_holds g) st)

else_holds : (g : Fixed) (test : Expr) (body other : List Stmt) {context : Context} {d : ℕ} {i j : Input} → IsExpr context d i test j → StmtsHold g body → StmtsHold g other → StmtHolds g (s.If test body (Some other))
unfolding StmtHolds
else_holds g test body other is are others st = rw (meant_else g test body other st) (test_holds g test body (Some (map (stmt_meant g) other)) is are (an_other_holds g other others) st)

stmts_end_hold : (g : Fixed) → StmtsHold g []
unfolding StmtsHold
stmts_end_hold g st = record { stand = refl; noted_are = refl; few_are = λ baker few. few }

stmts_more_hold : (g : Fixed) (x : Stmt) (xs : List Stmt) → StmtHolds g x → StmtsHold g xs → StmtsHold g (x ∷ xs)
unfolding StmtHolds StmtsHold
stmts_more_hold g x xs is are st =
    gives_then (λ z. StepHolds g.context st.types z.0 z.1.types) (λ z. StepsHold g.context st.types z.0 z.1.types) (stmt_meant g x st) _ (is st)
    (λ y h. gives_then (λ z. StepsHold g.context y.1.types z.0 z.1.types) (λ z. StepsHold g.context st.types z.0 z.1.types) (all_meant (map (stmt_meant g) xs) y.1) _ (are y.1)
    (λ z hs. record {
      stand = both_true (step_stands g.context y.0) (all_stand g.context z.0) h.stands hs.stand;
      noted_are = rw (noted_append (added_kinds y.0) (joined (map added_kinds z.0)) st.types, ← h.noted_is) hs.noted_are;
      few_are = λ baker few. hs.few_are baker (h.few_are baker few);
    }))

baker_is : {k : Context} → k ≡ c.Baker → is_baker k ≡ true
baker_is e = rw e refl

mutual
  stmt_holds : (g : Fixed) {context : Context} {d : ℕ} {i j : Input} {x : Stmt} → g.context ≡ context → IsStmt context d i x j → StmtHolds g x
  stmt_holds g e (a_let {x = x} {value = value} is) = let_holds g x value is
  stmt_holds g e (an_add {x = x} is) = add_stmt_holds g x is
  stmt_holds g e (an_extra {x = x} {body = adds} are) = extra_holds g x adds (baker_is e) are
  stmt_holds g e (an_if {test = test} {body = body} is are) = if_holds g test body is (stmts_hold g e are)
  stmt_holds g e (an_else {test = test} {body = body} {other = other} is are others) = else_holds g test body other is (stmts_hold g e are) (stmts_hold g e others)

  stmts_hold : (g : Fixed) {context : Context} {d : ℕ} {i j : Input} {xs : List Stmt} → g.context ≡ context → EndStmts context d i xs j → StmtsHold g xs
  stmts_hold g e no_stmt = stmts_end_hold g
  stmts_hold g e (one_stmt {x = x} {more = more} is are) = stmts_more_hold g x more (stmt_holds g e is) (stmts_hold g e are)

pub body_holds : (g : Fixed) {context : Context} {d : ℕ} {i j : Input} {xs : List Stmt} → g.context ≡ context → EndStmts context d i xs j → (st : State) → Gives (λ z. StepsHold g.context st.types z.0 z.1.types) (block_meant (map (stmt_meant g) xs) st)
body_holds g {xs = xs} e are st = block_holds g xs (stmts_hold g e are) st

pub key_holds : (w : Where) (wanted : Option Shape) {context : Context} {d : ℕ} {i j : Input} {x : Expr} → IsExpr context d i x j → Gives (λ y. term_stands w.context y ≡ true) (fitted_meant w wanted x)
key_holds w wanted is = fitted_holds w wanted is

pub values_hold : (w : Where) (n : ℕ) {context : Context} {d : ℕ} {i j : Input} {xs : List Init} → AreInits context d i xs j → Gives (λ y. addition_stands w.context y ≡ true) (values_meant w n xs)
values_hold w n {xs = xs} are =
    gives_then (AllFit w.context) (λ y. addition_stands w.context y ≡ true) (inits_meant w (component_fields w.types n) xs) _ (all_inits_hold w (component_fields w.types n) are) (λ ys h. h)
