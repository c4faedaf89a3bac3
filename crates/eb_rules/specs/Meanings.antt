-- What trees mean, apart from texts, places and refusals: which expression has which type and is resolved to which term, and
-- the same of statements, queries, rules and jobs. What breaks a rule means nothing.
use Rattle.std.specs.Prelude.{◌≡◌, ℕ, ℤ, ◌+◌, not, nat_le, Bool, true, false, List, [], ◌∷◌, drop, length, map, Option, Some, None}
use Rattle.std.specs.List.{list_all}
use Rattle.eb_rule_text.specs.declared.trees.{FieldPath.FieldPath, Find.Find, Read.Read, Link.Link, Expr.Expr, Expr.TheOpen.Expr-F, Expr.TheFolds.fold-Expr}
use Rattle.eb_rule_text.specs.declared.trees.{Init.Init, Add.Add, Stmt.Stmt, Stmt.TheOpen.Stmt-F, Stmt.TheFolds.fold-Stmt, Query.Query, Baker.Baker}
use Rattle.eb_rule_text.specs.declared.trees.{System.System, Rule.Rule, RulesTree.RulesTree, Target.Target, Command.Command, JobTree.JobTree}
use Rattle.eb_rule_text.specs.declared.trees.Find.TheVariants as f
use Rattle.eb_rule_text.specs.declared.trees.Read.TheVariants as r
use Rattle.eb_rule_text.specs.declared.trees.Rule.TheVariants as a_rule
use Rattle.eb_rule_text.specs.declared.trees.Target.TheVariants as a_target
use Rattle.eb_rule_text.specs.declared.trees.Command.TheVariants as a_command
use Rattle.eb_rule_text.specs.Spelled.{has_find, has_read}
use Rattle.eb_schema.specs.declared.kinds.{Field.Field}
use Rattle.eb_schema.specs.Schemas.{Types, component_named, authoring_named}
use Rattle.eb_rules.specs.declared.plans.{Addition.Addition, Aim.Aim, AuthoredField.AuthoredField, BakerPlan.BakerPlan, ComponentField.ComponentField}
use Rattle.eb_rules.specs.declared.plans.{Filling.Filling, FindTerm.FindTerm, JobPlan.JobPlan, Order.Order, ReadTerm.ReadTerm, RulesPlan.RulesPlan, Step.Step}
use Rattle.eb_rules.specs.declared.plans.{SystemPlan.SystemPlan, Term.Term}
use Rattle.eb_rules.specs.declared.scopes.{Bound.Bound, Visible.Visible}
use Rattle.eb_rules.specs.declared.{queries.Query3.Query3, shapes.Shape.Shape, typing.Resolved.Resolved, walking.State.State}
use Rattle.eb_rules.specs.declared.plans.Aim.TheVariants as an_aim
use Rattle.eb_rules.specs.declared.plans.FindTerm.TheVariants as found
use Rattle.eb_rules.specs.declared.plans.Order.TheVariants as an_order
use Rattle.eb_rules.specs.declared.plans.ReadTerm.TheVariants as value
use Rattle.eb_rules.specs.declared.plans.Step.TheVariants as s
use Rattle.eb_rules.specs.declared.plans.Term.TheVariants as t
use Rattle.eb_rules.specs.declared.scopes.Bound.TheVariants as bound
use Rattle.eb_rules.specs.declared.shapes.Shape.TheVariants as shape
use Rattle.eb_rules.specs.Shapes.{shape_of, is_ref, fits, found_shape, read_shape, of_op, of_minus, of_not, of_fix, of_int}
use Rattle.eb_rules.specs.Scopes.{Text, Where, field_in, authoring_fields, component_fields, next_field, is_in_all, bound_of, place_of, as_value, as_entity}
use Rattle.eb_rules.specs.Typing.{authored_field, component_field, typed_as, link_of}
use Rattle.eb_rules.specs.Statements.{Fixed, scope_of, filling, addition, noted, is_full, is_free, with_name, with_types, with_extra, shut}
use Rattle.eb_rules.specs.Queries.{clashes, query3, small, is_used, first_state, baker_ground, system_ground, baker_plan, system_plan, with_baker, with_system, no_rules}
use Rattle.eb_rules.specs.Jobs.{job_scope, behind_command, job_plan}

abbrev pub and_some : {A B : Type 0} → Option A → (A → Option B) → Option B
and_some (Some a) g = g a
and_some None g = None

abbrev pub only : Bool → Option (Unit {0})
only true = Some tt
only false = None

-- ---- fields

abbrev pub authored_at : Where → FieldPath → Option AuthoredField
authored_at w x = and_some (authoring_named w.types x.kind) (λ n. and_some (field_in x.field (authoring_fields w.types n)) (λ k. Some (authored_field n k)))

abbrev pub numbered_at : Where → ℕ → Text → Option ComponentField
numbered_at w n field = and_some (field_in field (component_fields w.types n)) (λ k. Some (component_field n k))

abbrev pub component_at : Where → FieldPath → Option ComponentField
component_at w x = and_some (component_named w.types x.kind) (λ n. numbered_at w n x.field)

-- of a type that the query asks for
abbrev pub asked_at : Where → FieldPath → Option ComponentField
asked_at w x = and_some (component_named w.types x.kind) (λ n. and_some (only (is_in_all n w.all)) (λ u. numbered_at w n x.field))

-- ---- reads

abbrev pub find_meant : Where → Find → Option FindTerm
find_meant w (f.Own x) = and_some (authored_at w x) (λ y. Some (found.Own y))
find_meant w (f.Parent x) = and_some (authored_at w x) (λ y. Some (found.Parent y))
find_meant w (f.Asset a x) = and_some (field_in a w.own) (λ y. and_some (field_in x w.types.assets) (λ z. Some (found.Asset y z)))
find_meant w (f.Min over x) = and_some (authored_at w x) (λ y. Some (found.Min over y))
find_meant w (f.Max over x) = and_some (authored_at w x) (λ y. Some (found.Max over y))
find_meant w (f.At link x) = and_some (asked_at w link) (λ y. and_some (component_at w x) (λ z. Some (found.At y z)))
find_meant w (f.MaxAll x) = and_some (component_at w x) (λ y. Some (found.MaxAll y))

-- reads that stand where they may
abbrev pub finds_meant : Where → List Find → Option (List FindTerm)
finds_meant w [] = Some []
finds_meant w (x ∷ xs) = and_some (only (has_find w.context x)) (λ u. and_some (find_meant w x) (λ y. and_some (finds_meant w xs) (λ ys. Some (y ∷ ys))))

abbrev pub whole_meant : ReadTerm → Option Resolved
whole_meant y = and_some (read_shape y) (λ k. Some (typed_as (t.Read y) k))

-- a visible name, as a value or in the place of an entity
abbrev pub name_meant : (Bound → Option Shape) → Where → Text → Option Resolved
name_meant may w x = and_some (and_some (bound_of x w.known) may) (λ k. Some (typed_as (t.Name (place_of x w.known)) k))

abbrev pub read_meant : Where → Read → Option Resolved
read_meant w (r.This x) = and_some (field_in x w.own) (λ y. whole_meant (value.This y))
read_meant w (r.Field x) = and_some (asked_at w x) (λ y. whole_meant (value.Field y))
read_meant w (r.Sum over x) = and_some (authored_at w x) (λ y. whole_meant (value.Sum over y))
read_meant w (r.Count over kind) = and_some (authoring_named w.types kind) (λ y. whole_meant (value.Count over y))
read_meant w (r.SumAll x) = and_some (component_at w x) (λ y. whole_meant (value.SumAll y))
read_meant w (r.CountAll kind) = and_some (component_named w.types kind) (λ y. whole_meant (value.CountAll y))
read_meant w r.Entity = whole_meant value.Entity
read_meant w (r.EntityAt x) = and_some (field_in x w.own) (λ y. whole_meant (value.EntityAt y))
read_meant w (r.EntityOf x) = name_meant as_entity w x

-- ---- expressions

abbrev pub made_of : Option Shape → Term → Option Resolved
made_of made y = and_some made (λ k. Some (typed_as y k))

-- a chain of which the operands so far have this shape
abbrev pub links_meant : List (Link (Option Resolved)) → Shape → Option (List (Link Term) × Shape)
links_meant [] k = Some ([], k)
links_meant (x ∷ xs) k = and_some x.right (λ y. and_some (of_op x.op k y.shape) (λ made. and_some (links_meant xs made) (λ z.
    Some (link_of x.op y.term ∷ z.0, z.1))))

-- reads that all find what stands behind the last `or`
abbrev pub all_find : Shape → List FindTerm → Bool
all_find k = list_all (λ y. fits (found_shape y) k)

abbrev pub expr_step : Where → Expr-F (Option Resolved) → Option Resolved
expr_step w (Expr-F.Int n) = Some (typed_as (t.Int n) shape.Int)
expr_step w (Expr-F.Fix n) = Some (typed_as (t.Fix n) shape.Fix)
expr_step w Expr-F.True = Some (typed_as t.True shape.Bool)
expr_step w Expr-F.False = Some (typed_as t.False shape.Bool)
expr_step w Expr-F.Null = Some (typed_as t.Null shape.Ref)
expr_step w (Expr-F.Name x) = name_meant as_value w x
expr_step w (Expr-F.Paren x) = x
expr_step w (Expr-F.ToFix x) = and_some x (λ y. made_of (of_fix y.shape) (t.ToFix y.term))
expr_step w (Expr-F.ToInt x) = and_some x (λ y. made_of (of_int y.shape) (t.ToInt y.term))
expr_step w (Expr-F.Read x) = and_some (only (has_read w.context x)) (λ u. read_meant w x)
expr_step w (Expr-F.Find finds x) = and_some (finds_meant w finds) (λ ys. and_some x (λ y. and_some (only (all_find y.shape ys)) (λ u.
    Some (typed_as (t.Find ys y.term) y.shape))))
expr_step w (Expr-F.Negate x) = and_some x (λ y. made_of (of_minus y.shape) (t.Negate y.term))
expr_step w (Expr-F.Not x) = and_some x (λ y. made_of (of_not y.shape) (t.Not y.term))
expr_step w (Expr-F.Chain first more) = and_some first (λ y. and_some (links_meant more y.shape) (λ z. Some (typed_as (t.Chain y.term z.0) z.1)))

unfoldable pub expr_meant : Where → Expr → Option Resolved
expr_meant w = fold-Expr (Option Resolved) (expr_step w)

abbrev pub link_meant : Where → Link Expr → Link (Option Resolved)
link_meant w x = record { op = x.op; right = expr_meant w x.right }

-- the expression has this type where it stands, and is resolved to this term
abbrev pub Resolves : Where → Expr → Shape → Term → Type 0
Resolves w x k y = expr_meant w x ≡ Some (typed_as y k)

-- ---- values of a component

-- an expression of the wanted shape
abbrev pub fitted_meant : Where → Option Shape → Expr → Option Term
fitted_meant w wanted x = and_some (expr_meant w x) (λ y. and_some (only (fits wanted y.shape)) (λ u. Some y.term))

abbrev pub init_meant : Where → List Field → Init → Option Filling
init_meant w left x = and_some (next_field left x.field) (λ k. and_some (fitted_meant w (shape_of k) x.value) (λ y. Some (filling k y)))

abbrev pub none_left : List Field → Option (List Filling)
none_left [] = Some []
none_left (f ∷ fs) = None

-- each field once, in the order of the schema
abbrev pub inits_meant : Where → List Field → List Init → Option (List Filling)
inits_meant w left [] = none_left left
inits_meant w left (x ∷ xs) = and_some (init_meant w left x) (λ y. and_some (inits_meant w (drop 1 left) xs) (λ ys. Some (y ∷ ys)))

abbrev pub values_meant : Where → ℕ → List Init → Option Addition
values_meant w n inits = and_some (inits_meant w (component_fields w.types n) inits) (λ ys. Some (addition n ys))

-- a type that may be added to an entity that has been given these types
abbrev pub kind_meant : Fixed → List ℕ → Text → Option ℕ
kind_meant g types kind = and_some (component_named g.types kind) (λ n. and_some (only (not (is_full g.context n types))) (λ u. Some n))

-- an addition to such an entity, and the types behind it
abbrev pub add_meant : Fixed → List Visible → List ℕ → Add → Option (Addition × List ℕ)
add_meant g seen types x = and_some (kind_meant g types x.kind) (λ n. and_some (values_meant (scope_of g seen) n x.inits) (λ y. Some (y, noted n types)))

abbrev pub adds_meant : Fixed → List Visible → List Add → List ℕ → Option (List Addition × List ℕ)
adds_meant g seen [] types = Some ([], types)
adds_meant g seen (x ∷ xs) types = and_some (add_meant g seen types x) (λ y. and_some (adds_meant g seen xs y.1) (λ z. Some (y.0 ∷ z.0, z.1)))

-- ---- statements

-- a statement resolved, and what was come to behind it
abbrev pub Meaner : Type 0
Meaner = State → Option (Step × State)

abbrev pub let_meant : Fixed → Text → Expr → Meaner
let_meant g x e st = and_some (only (is_free x st.known)) (λ u. and_some (expr_meant (scope_of g st.known) e) (λ y.
    Some (s.Let y.term, with_name st x (bound.Value y.shape))))

abbrev pub extra_meant : Fixed → Text → List Add → Meaner
extra_meant g x adds st =
    and_some (only (not (nat_le 16 st.extras))) (λ u. and_some (only (is_free x st.known)) (λ v. and_some (adds_meant g st.known adds []) (λ y.
    Some (s.Extra st.extras y.0, with_extra st x))))

abbrev pub all_meant : List Meaner → State → Option (List Step × State)
all_meant [] st = Some ([], st)
all_meant (m ∷ ms) st = and_some (m st) (λ y. and_some (all_meant ms y.1) (λ z. Some (y.0 ∷ z.0, z.1)))

-- names of a block go at its end
abbrev pub block_meant : List Meaner → State → Option (List Step × State)
block_meant ms st = and_some (all_meant ms st) (λ y. Some (y.0, shut st y.1))

abbrev pub other_meant : Option (List Meaner) → State → Option (List Step × State)
other_meant None st = Some ([], st)
other_meant (Some ms) st = block_meant ms st

abbrev pub if_meant : Fixed → Expr → List Meaner → Option (List Meaner) → Meaner
if_meant g e body other st =
    and_some (fitted_meant (scope_of g st.known) (Some shape.Bool) e) (λ y. and_some (block_meant body st) (λ z. and_some (other_meant other z.1) (λ o.
    Some (s.If y z.0 o.0, o.1))))

abbrev pub stmt_meaning : Fixed → Stmt-F Meaner → Meaner
stmt_meaning g (Stmt-F.Let x e) st = let_meant g x e st
stmt_meaning g (Stmt-F.Add x) st = and_some (add_meant g st.known st.types x) (λ y. Some (s.Add y.0, with_types st y.1))
stmt_meaning g (Stmt-F.Extra x adds) st = extra_meant g x adds st
stmt_meaning g (Stmt-F.If e body other) st = if_meant g e body other st

unfoldable pub stmt_meant : Fixed → Stmt → Meaner
stmt_meant g = fold-Stmt Meaner (stmt_meaning g)

-- ---- queries

-- one name, where so many stand before it
abbrev pub type_meant : Types → ℕ → Text → Option ℕ
type_meant types before x = and_some (component_named types x) (λ n. and_some (only (not (nat_le 32 before))) (λ u. Some n))

abbrev pub names_meant : Types → ℕ → List Text → Option (List ℕ)
names_meant types before [] = Some []
names_meant types before (x ∷ xs) = and_some (type_meant types before x) (λ n. and_some (names_meant types (before + 1) xs) (λ ns. Some (n ∷ ns)))

-- at most 32 names, and no type both asked for and kept out
abbrev pub query_meant : Types → Query → Option Query3
query_meant types x =
    and_some (names_meant types 0 x.all) (λ a.
    and_some (names_meant types (length a) x.any) (λ b.
    and_some (names_meant types (length a + length b) x.none) (λ c.
    and_some (only (not (clashes a b c))) (λ u. Some (query3 a b c)))))

-- ---- rules

abbrev pub baker_meant : Types → ℕ → Baker → Option BakerPlan
baker_meant types n x =
    and_some (authoring_named types x.authoring) (λ kind.
    and_some (block_meant (map (stmt_meant (baker_ground types kind)) x.body) first_state) (λ y. Some (baker_plan n kind y.0)))

abbrev pub system_meant : Types → ℕ → System → Option SystemPlan
system_meant types n x =
    and_some (query_meant types x.query) (λ q.
    and_some (block_meant (map (stmt_meant (system_ground types q.all)) x.body) first_state) (λ y. Some (system_plan n q y.0)))

-- a number in its range that no rule before has
abbrev pub number_meant : {A : Type 0} → ℕ → ℤ → List (Option A) → Option ℕ
number_meant most number slots = and_some (small most number) (λ n. and_some (only (not (is_used n slots))) (λ u. Some n))

abbrev pub rule_meant : Types → RulesPlan → Rule → Option RulesPlan
rule_meant types plan (a_rule.Baker x) = and_some (number_meant 64 x.number plan.bakers) (λ n. and_some (baker_meant types n x) (λ y. Some (with_baker plan y)))
rule_meant types plan (a_rule.System x) = and_some (number_meant 32 x.number plan.systems) (λ n. and_some (system_meant types n x) (λ y.
    Some (with_system plan y)))

-- rules behind others
abbrev pub rules_meant : Types → List Rule → RulesPlan → Option RulesPlan
rules_meant types [] plan = Some plan
rules_meant types (x ∷ xs) plan = and_some (rule_meant types plan x) (λ y. rules_meant types xs y)

-- what a tree of rules is resolved to over a schema
unfoldable pub rules_plan : Types → RulesTree → Option RulesPlan
rules_plan types x = rules_meant types x.rules no_rules

-- its names are there and its types fit
abbrev pub AreWellTyped : Types → RulesTree → Type 0
AreWellTyped types x = (plan : RulesPlan) × (rules_plan types x ≡ Some plan)

-- ---- jobs

abbrev pub target_meant : Where → Target → Option Aim
target_meant w a_target.This = Some an_aim.This
target_meant w (a_target.Name x) = and_some (and_some (bound_of x w.known) as_entity) (λ k. Some (an_aim.Created (place_of x w.known)))
target_meant w (a_target.At x) = and_some (asked_at w x) (λ y. and_some (only (is_ref y.field.kind)) (λ u. Some (an_aim.At y)))

abbrev pub filled_meant : Where → Text → List Init → Option Addition
filled_meant w kind inits = and_some (component_named w.types kind) (λ n. values_meant w n inits)

abbrev pub command_meant : Where → Command → Option Order
command_meant w (a_command.Create x) = and_some (only (is_free x w.known)) (λ u. Some an_order.Create)
command_meant w (a_command.Destroy on) = and_some (target_meant w on) (λ y. Some (an_order.Destroy y))
command_meant w (a_command.Remove on kind) = and_some (target_meant w on) (λ y. and_some (component_named w.types kind) (λ n. Some (an_order.Remove y n)))
command_meant w (a_command.Add on kind inits) = and_some (target_meant w on) (λ y. and_some (filled_meant w kind inits) (λ z. Some (an_order.Add y z)))
command_meant w (a_command.Set on kind inits) = and_some (target_meant w on) (λ y. and_some (filled_meant w kind inits) (λ z. Some (an_order.Set y z)))

-- commands, of which so many stood before
abbrev pub commands_meant : Types → List ℕ → List Command → ℕ → List Visible → Option (List Order)
commands_meant types all [] count seen = Some []
commands_meant types all (x ∷ xs) count seen =
    and_some (only (not (nat_le 8 count))) (λ u. and_some (command_meant (job_scope types all seen) x) (λ y.
    and_some (commands_meant types all xs (count + 1) (behind_command x seen)) (λ ys. Some (y ∷ ys))))

-- what a tree of a job is resolved to over a schema
unfoldable pub job_meant : Types → JobTree → Option JobPlan
job_meant types x =
    and_some (query_meant types x.query) (λ q.
    and_some (fitted_meant (job_scope types q.all []) (Some shape.Int) x.key) (λ k.
    and_some (commands_meant types q.all x.commands 0 []) (λ ys. Some (job_plan q k ys))))

abbrev pub IsWellTyped : Types → JobTree → Type 0
IsWellTyped types x = (plan : JobPlan) × (job_meant types x ≡ Some plan)
