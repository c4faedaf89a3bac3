-- Names and types of statements, and what they are resolved to.
use Rattle.std.specs.Prelude.{ℕ, ◌+◌, ◌&&◌, not, nat_le, Bool, true, false, if◌then◌else◌, List, [], ◌∷◌, ◌++◌, drop, take, length, Option, Some, None, Ok, Err}
use Rattle.eb_rule_text.specs.declared.trees.{Context.Context, Expr.Expr, Init.Init, Add.Add, Stmt.Stmt, Stmt.TheOpen.Stmt-F, Stmt.TheFolds.fold-Stmt}
use Rattle.eb_rule_text.specs.declared.trees.Context.TheVariants as c
use Rattle.eb_schema.specs.declared.kinds.{Kind.Kind, Field.Field}
use Rattle.eb_schema.specs.Schemas.{Types, component_named}
use Rattle.eb_rules.specs.declared.faults.RuleKind.TheVariants.{UnknownName, TypeFault, NameTaken, TooMany}
use Rattle.eb_rules.specs.declared.plans.{Addition.Addition, Filling.Filling, Step.Step, Term.Term}
use Rattle.eb_rules.specs.declared.scopes.{Bound.Bound, Visible.Visible}
use Rattle.eb_rules.specs.declared.{shapes.Shape.Shape, walking.State.State}
use Rattle.eb_rules.specs.declared.plans.Step.TheVariants as s
use Rattle.eb_rules.specs.declared.scopes.Bound.TheVariants as bound
use Rattle.eb_rules.specs.declared.shapes.Shape.TheVariants as shape
use Rattle.eb_rules.specs.Shapes.{shape_of, fits}
use Rattle.eb_rules.specs.Scopes.{Text, Where, field_kind, component_fields, next_field, is_in_all, bound_of}
use Rattle.eb_rules.specs.Typing.{Places, Found, Walked, refused, required, tested, and_found, typed}

-- what stays the same on a walk over statements
pub record Fixed : Type 0 where
  pub types : Types
  pub context : Context
  pub own : List Field
  pub all : List ℕ

abbrev pub scope_of : Fixed → List Visible → Where
scope_of g known = record { types = g.types; context = g.context; own = g.own; all = g.all; known = known }

-- ---- values of a component

-- a field of the component, and the next one
abbrev pub next_kind : List Field → List Field → Text → Places → Found Kind
next_kind fields left name p = and_found (required UnknownName (field_kind name fields) p) (λ k. required TypeFault (next_field left name) p)

-- an expression of the wanted shape
abbrev pub fitted : Where → Option Shape → Expr → Places → Walked Term
fitted w s e p = and_found (typed w e p) (λ y. and_found (tested TypeFault (fits s y.0.shape) p) (λ u. Ok (y.0.term, y.1)))

abbrev pub filling : Kind → Term → Filling
filling k y = record { kind = k; value = y }

-- f : e
abbrev pub init_typed : Where → List Field → List Field → Init → Places → Walked Filling
init_typed w fields left x p = and_found (next_kind fields left x.field p) (λ k. and_found (fitted w (shape_of k) x.value (drop 2 p)) (λ y.
    Ok (filling k y.0, y.1)))

abbrev pub Filled : Type 0
Filled = Walked (List Filling)

-- the closing brace, where each field has its value
abbrev pub closed : List Field → List Filling → Places → Filled
closed [] done p = Ok (done, drop 1 p)
closed (f ∷ fs) done p = Err (refused TypeFault p)

abbrev pub behind_comma : Bool → Places → Places
behind_comma true p = p
behind_comma false p = drop 1 p

abbrev pub inits_from : Where → List Field → List Field → Bool → List Init → List Filling → Places → Filled
inits_from w fields left first [] done p = closed left done p
inits_from w fields left first (x ∷ xs) done p = and_found (init_typed w fields left x (behind_comma first p)) (λ y.
    inits_from w fields (drop 1 left) false xs (done ++ y.0 ∷ []) y.1)

abbrev pub addition : ℕ → List Filling → Addition
addition n values = record { kind = n; values = values }

-- { .. } of the component type of a number
abbrev pub values_typed : Where → ℕ → List Init → Places → Walked Addition
values_typed w n inits p = and_found (inits_from w (component_fields w.types n) (component_fields w.types n) true inits [] (drop 1 p)) (λ y.
    Ok (addition n y.0, y.1))

-- ---- additions

-- the types so far, and one more
abbrev pub noted : ℕ → List ℕ → List ℕ
noted n types = if is_in_all n types then types else types ++ n ∷ []

abbrev pub is_baker : Context → Bool
is_baker c.Baker = true
is_baker c.System = false
is_baker c.Job = false

-- a 33rd different type of a baker's entity
abbrev pub is_full : Context → ℕ → List ℕ → Bool
is_full context n types = is_baker context && (not (is_in_all n types) && nat_le 32 (length types))

-- the type that is added to an entity that has been given these types
abbrev pub add_kind : Fixed → List ℕ → Text → Places → Found ℕ
add_kind g types kind p = and_found (required UnknownName (component_named g.types kind) p) (λ n.
    and_found (tested TooMany (not (is_full g.context n types)) p) (λ u. Ok n))

-- add T { .. }, to an entity that has been given these types, which are then one more
abbrev pub Added : Type 0
Added = Walked (Addition × List ℕ)

abbrev pub add_typed : Fixed → List Visible → List ℕ → Add → Places → Added
add_typed g seen types x p =
    and_found (add_kind g types x.kind (drop 1 p)) (λ n. and_found (values_typed (scope_of g seen) n x.inits (drop 2 p)) (λ y. Ok ((y.0, noted n types), y.1)))

-- the additions of an extra
abbrev pub adds_typed : Fixed → List Visible → List Add → List Addition → List ℕ → Places → Walked (List Addition × List ℕ)
adds_typed g seen [] done types p = Ok ((done, types), p)
adds_typed g seen (x ∷ xs) done types p = and_found (add_typed g seen types x p) (λ y. adds_typed g seen xs (done ++ y.0.0 ∷ []) y.0.1 y.1)

-- ---- statements

-- a statement resolved, and what the walk has come to behind it
abbrev pub Walk : Type 0
Walk = State → Places → Walked (Step × State)

abbrev pub Walks : Type 0
Walks = State → Places → Walked (List Step × State)

abbrev pub is_known : {A : Type 0} → Option A → Bool
is_known (Some a) = true
is_known None = false

-- a name that isn't visible yet
abbrev pub is_free : Text → List Visible → Bool
is_free x seen = not (is_known (bound_of x seen))

abbrev pub with_name : State → Text → Bound → State
with_name st x b = record { known = st.known ++ record { name = x; bound = b } ∷ []; types = st.types; extras = st.extras }

-- let x = e ;
abbrev pub let_walk : Fixed → Text → Expr → Walk
let_walk g x e st p =
    and_found (tested NameTaken (is_free x st.known) (drop 1 p)) (λ u. and_found (typed (scope_of g st.known) e (drop 3 p)) (λ y.
    Ok ((s.Let y.0.term, with_name st x (bound.Value y.0.shape)), drop 1 y.1)))

abbrev pub with_types : State → List ℕ → State
with_types st types = record { known = st.known; types = types; extras = st.extras }

abbrev pub add_walk : Fixed → Add → Walk
add_walk g x st p = and_found (add_typed g st.known st.types x p) (λ y. Ok ((s.Add y.0.0, with_types st y.0.1), y.1))

abbrev pub with_extra : State → Text → State
with_extra st x = record { known = st.known ++ record { name = x; bound = bound.Entity } ∷ []; types = st.types; extras = st.extras + 1 }

-- extra x { add .. }: a 17th is too many
abbrev pub extra_walk : Fixed → Text → List Add → Walk
extra_walk g x adds st p =
    and_found (tested TooMany (not (nat_le 16 st.extras)) p) (λ u. and_found (tested NameTaken (is_free x st.known) (drop 1 p)) (λ v.
    and_found (adds_typed g st.known adds [] [] (drop 3 p)) (λ y.
    Ok ((s.Extra st.extras y.0.0, with_extra st x), drop 1 y.1))))

abbrev pub all_walks : List Walk → List Step → Walks
all_walks [] done st p = Ok ((done, st), p)
all_walks (w ∷ ws) done st p = and_found (w st p) (λ y. all_walks ws (done ++ y.0.0 ∷ []) y.0.1 y.1)

-- names of a block go out of sight at its closing brace
abbrev pub shut : State → State → State
shut before st = record { known = take (length before.known) st.known; types = st.types; extras = st.extras }

abbrev pub inside : List Walk → Walks
inside ws st p = and_found (all_walks ws [] st (drop 1 p)) (λ y. Ok ((y.0.0, shut st y.0.1), drop 1 y.1))

-- else { .. }
abbrev pub other_walk : Option (List Walk) → Walks
other_walk None st p = Ok (([], st), p)
other_walk (Some ws) st p = inside ws st (drop 1 p)

abbrev pub if_walk : Fixed → Expr → List Walk → Option (List Walk) → Walk
if_walk g e body other st p =
    and_found (fitted (scope_of g st.known) (Some shape.Bool) e (drop 1 p)) (λ y. and_found (inside body st y.1) (λ z.
    and_found (other_walk other z.0.1 z.1) (λ o.
    Ok ((s.If y.0 z.0.0 o.0.0, o.0.1), o.1))))

abbrev pub stmt_step : Fixed → Stmt-F Walk → Walk
stmt_step g (Stmt-F.Let x e) st p = let_walk g x e st p
stmt_step g (Stmt-F.Add x) st p = add_walk g x st p
stmt_step g (Stmt-F.Extra x adds) st p = extra_walk g x adds st p
stmt_step g (Stmt-F.If e body other) st p = if_walk g e body other st p

-- one statement
unfoldable pub walked : Fixed → Stmt → Walk
walked g = fold-Stmt Walk (stmt_step g)
