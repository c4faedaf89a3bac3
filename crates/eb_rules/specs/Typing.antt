-- Names and types of expressions, and what they are resolved to. A walk goes over a tree with the places of its tokens, from the
-- tree's first on.
use Rattle.std.specs.Prelude.{◌≡◌, ℕ, zero, suc, Bool, true, false, if◌then◌else◌, List, [], ◌∷◌, ◌++◌, drop, map, Option, Some, None, Result, Ok, Err}
use Rattle.eb_rule_text.specs.declared.trees.{FieldPath.FieldPath, Find.Find, Read.Read, Op.Op, Link.Link, Expr.Expr, Expr.TheOpen.Expr-F}
use Rattle.eb_rule_text.specs.declared.trees.Expr.TheFolds.{fold-Expr}
use Rattle.eb_rule_text.specs.declared.lexemes.Lexeme.TheVariants as l
use Rattle.eb_rule_text.specs.declared.trees.Find.TheVariants as f
use Rattle.eb_rule_text.specs.declared.trees.Read.TheVariants as r
use Rattle.eb_rule_text.specs.{Input.Input, Spelled.find_then, Spelled.read_then, Counts.find_tokens, Counts.read_tokens}
use Rattle.eb_schema.specs.Schemas.{component_named, authoring_named}
use Rattle.eb_rules.specs.declared.faults.RuleKind.TheVariants.{UnknownName, TypeFault}
use Rattle.eb_rules.specs.declared.faults.{Refusal.Refusal, RuleKind.RuleKind}
use Rattle.eb_rules.specs.declared.plans.{AuthoredField.AuthoredField, ComponentField.ComponentField, FieldPlace.FieldPlace, FindTerm.FindTerm}
use Rattle.eb_rules.specs.declared.plans.{ReadTerm.ReadTerm, Term.Term}
use Rattle.eb_rules.specs.declared.{finds.Named.Named, scopes.Bound.Bound, shapes.Shape.Shape, typing.Resolved.Resolved, walking.WalkError.WalkError}
use Rattle.eb_rules.specs.declared.plans.FindTerm.TheVariants as found
use Rattle.eb_rules.specs.declared.plans.ReadTerm.TheVariants as value
use Rattle.eb_rules.specs.declared.plans.Term.TheVariants as t
use Rattle.eb_rules.specs.declared.shapes.Shape.TheVariants as shape
use Rattle.eb_rules.specs.declared.walking.WalkError.TheVariants as stop
use Rattle.eb_rules.specs.Shapes.{fits, found_shape, read_shape, of_op, of_minus, of_not, of_fix, of_int}
use Rattle.eb_rules.specs.Scopes.{Text, Where, field_in, authoring_fields, component_fields, is_in_all, bound_of, place_of, as_value, as_entity}

abbrev pub Places : Type 0
Places = List ℕ

-- the place of the next token
abbrev pub here : Places → ℕ
here [] = 0
here (at ∷ p) = at

abbrev pub refused : RuleKind → Places → Refusal
refused kind p = record { kind = kind; at = here p }

abbrev pub Found : Type 0 → Type 0
Found A = Result A Refusal

-- what a part of a tree is resolved to, and the places behind it
abbrev pub Walked : Type 0 → Type 0
Walked A = Found (A × Places)

abbrev pub and_found : {A B : Type 0} → Found A → (A → Found B) → Found B
and_found (Ok a) g = g a
and_found (Err x) g = Err x

-- what there must be, or the refusal
abbrev pub required : {A : Type 0} → RuleKind → Option A → Places → Found A
required kind (Some a) p = Ok a
required kind None p = Err (refused kind p)

-- what must hold, or the refusal
abbrev pub tested : RuleKind → Bool → Places → Found (Unit {0})
tested kind true p = Ok tt
tested kind false p = Err (refused kind p)

-- what functions ensure of a refusal: it is the definition's, unless memory fails
abbrev pub Stops : {A : Type 0} → Found A → WalkError → Type 0
Stops told stop.Memory = Unit {0}
Stops told (stop.Refused x) = told ≡ Err x

-- What functions that walk ensure: what they answer is the definition's, unless memory fails.
abbrev pub Walks : {A B : Type 0} → Walked A → (B → A × Places) → Result B WalkError → Type 0
Walks told answer (Ok b) = told ≡ Ok (answer b)
Walks told answer (Err e) = Stops told e

-- ---- names. How many tokens of a spelling stand before a name in it, before which so many names stand

abbrev pub name_at : ℕ → Input → ℕ
name_at k [] = 0
name_at zero (l.Name x ∷ i) = 0
name_at (suc k) (l.Name x ∷ i) = suc (name_at k i)
name_at k (l.Underscored ∷ i) = suc (name_at k i)
name_at k (l.Int n ∷ i) = suc (name_at k i)
name_at k (l.Fix n ∷ i) = suc (name_at k i)
name_at k (l.Mark s ∷ i) = suc (name_at k i)

-- the places from the k-th name of a spelling on
abbrev pub at_name : ℕ → Input → Places → Places
at_name k i p = drop (name_at k i) p

abbrev pub authored_field : ℕ → FieldPlace → AuthoredField
authored_field n x = record { kind = n; field = x }

abbrev pub component_field : ℕ → FieldPlace → ComponentField
component_field n x = record { kind = n; field = x }

-- T.f of an authoring type: T stands at the first places, and f at the others
abbrev pub authored : Where → FieldPath → Places → Places → Found AuthoredField
authored w x p q = and_found (required UnknownName (authoring_named w.types x.kind) p) (λ n.
    and_found (required UnknownName (field_in x.field (authoring_fields w.types n)) q) (λ k. Ok (authored_field n k)))

abbrev pub numbered : Where → ℕ → Text → Places → Found ComponentField
numbered w n field q = and_found (required UnknownName (field_in field (component_fields w.types n)) q) (λ k. Ok (component_field n k))

-- T.f of a component type
abbrev pub of_component : Where → FieldPath → Places → Places → Found ComponentField
of_component w x p q = and_found (required UnknownName (component_named w.types x.kind) p) (λ n. numbered w n x.field q)

-- T.f of a component type that the query asks for
abbrev pub asked : Where → FieldPath → Places → Places → Found ComponentField
asked w x p q = and_found (required UnknownName (component_named w.types x.kind) p) (λ n. and_found (tested TypeFault (is_in_all n w.all) p) (λ u.
    numbered w n x.field q))

-- ---- reads that go on with `or`

-- the names of a read
abbrev pub find_named : Where → Find → Input → Places → Found FindTerm
find_named w (f.Own x) i p = and_found (authored w x (at_name 0 i p) (at_name 1 i p)) (λ y. Ok (found.Own y))
find_named w (f.Parent x) i p = and_found (authored w x (at_name 0 i p) (at_name 1 i p)) (λ y. Ok (found.Parent y))
find_named w (f.Asset a x) i p = and_found (required UnknownName (field_in a w.own) (at_name 0 i p)) (λ y.
    and_found (required UnknownName (field_in x w.types.assets) (at_name 1 i p)) (λ z. Ok (found.Asset y z)))
find_named w (f.Min over x) i p = and_found (authored w x (at_name 0 i p) (at_name 1 i p)) (λ y. Ok (found.Min over y))
find_named w (f.Max over x) i p = and_found (authored w x (at_name 0 i p) (at_name 1 i p)) (λ y. Ok (found.Max over y))
find_named w (f.At link x) i p = and_found (asked w link (at_name 0 i p) (at_name 1 i p)) (λ y.
    and_found (of_component w x (at_name 2 i p) (at_name 3 i p)) (λ z. Ok (found.At y z)))
find_named w (f.MaxAll x) i p = and_found (of_component w x (at_name 0 i p) (at_name 1 i p)) (λ y. Ok (found.MaxAll y))

-- the names at their places in the read's own spelling
abbrev pub find_walk : Where → Find → Places → Found FindTerm
find_walk w x p = find_named w x (find_then x []) p

abbrev pub named : FindTerm → Places → Named
named y p = record { term = y; at = here p }

-- the names of all reads in the order of the text
abbrev pub finds_named : Where → List Find → List Named → Places → Walked (List Named)
finds_named w [] done p = Ok (done, p)
finds_named w (x ∷ xs) done p = and_found (find_walk w x p) (λ y. finds_named w xs (done ++ named y p ∷ []) (drop (find_tokens x) p))

-- where the innermost read begins that doesn't find what stands behind the last `or`
abbrev pub innermost : Shape → List Named → Option ℕ → Option ℕ
innermost s [] at = at
innermost s (x ∷ xs) at = innermost s xs (if fits (found_shape x.term) s then at else Some x.at)

-- ---- reads that always have a value

abbrev pub typed_as : Term → Shape → Resolved
typed_as y s = record { term = y; shape = s }

abbrev pub whole_read : ReadTerm → Places → Found Resolved
whole_read y p = and_found (required TypeFault (read_shape y) p) (λ s. Ok (typed_as (t.Read y) s))

-- what a visible name is, as a value or in the place of an entity
abbrev pub visible : (Bound → Option Shape) → Where → Text → Places → Found Shape
visible may w x p = and_found (required UnknownName (bound_of x w.known) p) (λ b. required TypeFault (may b) p)

abbrev pub name_typed : (Bound → Option Shape) → Where → Text → Places → Found Resolved
name_typed may w x p = and_found (visible may w x p) (λ s. Ok (typed_as (t.Name (place_of x w.known)) s))

-- the names of a read first, and then the whole
abbrev pub read_typed : Where → Read → Input → Places → Found Resolved
read_typed w (r.This x) i p = and_found (required UnknownName (field_in x w.own) (at_name 0 i p)) (λ y. whole_read (value.This y) p)
read_typed w (r.Field x) i p = and_found (asked w x (at_name 0 i p) (at_name 1 i p)) (λ y. whole_read (value.Field y) p)
read_typed w (r.Sum over x) i p = and_found (authored w x (at_name 0 i p) (at_name 1 i p)) (λ y. whole_read (value.Sum over y) p)
read_typed w (r.Count over kind) i p = and_found (required UnknownName (authoring_named w.types kind) (at_name 0 i p)) (λ y. whole_read (value.Count over y) p)
read_typed w (r.SumAll x) i p = and_found (of_component w x (at_name 0 i p) (at_name 1 i p)) (λ y. whole_read (value.SumAll y) p)
read_typed w (r.CountAll kind) i p = and_found (required UnknownName (component_named w.types kind) (at_name 0 i p)) (λ y. whole_read (value.CountAll y) p)
read_typed w r.Entity i p = whole_read value.Entity p
read_typed w (r.EntityAt x) i p = and_found (required UnknownName (field_in x w.own) (at_name 0 i p)) (λ y. whole_read (value.EntityAt y) p)
read_typed w (r.EntityOf x) i p = name_typed as_entity w x (at_name 0 i p)

abbrev pub read_walk : Where → Read → Places → Found Resolved
read_walk w x p = read_typed w x (read_then x []) p

-- ---- expressions

abbrev pub Typer : Type 0
Typer = Places → Walked Resolved

-- what the construct at p makes of its operand, which ends at q
abbrev pub made : Option Shape → Term → Places → Places → Walked Resolved
made s y p q = and_found (required TypeFault s p) (λ k. Ok (typed_as y k, q))

-- a read or a name, and how many tokens it has
abbrev pub ends : ℕ → Found Resolved → Places → Walked Resolved
ends n found p = and_found found (λ y. Ok (y, drop n p))

abbrev pub link_of : Op → Term → Link Term
link_of o y = record { op = o; right = y }

abbrev pub Links : Type 0
Links = Walked (List (Link Term) × Shape)

-- a chain that begins at p, of which the operands so far have this shape
abbrev pub links_typed : List (Link Typer) → Shape → List (Link Term) → Places → Places → Links
links_typed [] s done p q = Ok ((done, s), q)
links_typed (x ∷ xs) s done p q = and_found (x.right (drop 1 q)) (λ y. and_found (required TypeFault (of_op x.op s y.0.shape) p) (λ k.
    links_typed xs k (done ++ link_of x.op y.0.term ∷ []) p y.1))

-- the links behind a first operand
abbrev pub chained : Resolved → List (Link Typer) → Places → Places → Walked Resolved
chained y more p q = and_found (links_typed more y.shape [] p q) (λ z. Ok (typed_as (t.Chain y.term z.0.0) z.0.1, z.1))

abbrev pub agreed : Option ℕ → Found (Unit {0})
agreed None = Ok tt
agreed (Some at) = Err (record { kind = TypeFault; at = at })

abbrev pub terms : List Named → List FindTerm
terms = map (λ x. x.term)

-- names first, then what stands behind the last `or`, then the reads from the innermost on
abbrev pub finds_typed : Where → List Find → Typer → Typer
finds_typed w finds last p =
    and_found (finds_named w finds [] p) (λ n. and_found (last n.1) (λ y. and_found (agreed (innermost y.0.shape n.0 None)) (λ u.
    Ok (typed_as (t.Find (terms n.0) y.0.term) y.0.shape, y.1))))

abbrev pub typed_step : Where → Expr-F Typer → Typer
typed_step w (Expr-F.Int n) p = Ok (typed_as (t.Int n) shape.Int, drop 1 p)
typed_step w (Expr-F.Fix n) p = Ok (typed_as (t.Fix n) shape.Fix, drop 1 p)
typed_step w Expr-F.True p = Ok (typed_as t.True shape.Bool, drop 1 p)
typed_step w Expr-F.False p = Ok (typed_as t.False shape.Bool, drop 1 p)
typed_step w Expr-F.Null p = Ok (typed_as t.Null shape.Ref, drop 1 p)
typed_step w (Expr-F.Name x) p = ends 1 (name_typed as_value w x p) p
typed_step w (Expr-F.Paren x) p = and_found (x (drop 1 p)) (λ y. Ok (y.0, drop 1 y.1))
typed_step w (Expr-F.ToFix x) p = and_found (x (drop 2 p)) (λ y. made (of_fix y.0.shape) (t.ToFix y.0.term) p (drop 1 y.1))
typed_step w (Expr-F.ToInt x) p = and_found (x (drop 2 p)) (λ y. made (of_int y.0.shape) (t.ToInt y.0.term) p (drop 1 y.1))
typed_step w (Expr-F.Read x) p = ends (read_tokens x) (read_walk w x p) p
typed_step w (Expr-F.Find finds x) p = finds_typed w finds x p
typed_step w (Expr-F.Negate x) p = and_found (x (drop 1 p)) (λ y. made (of_minus y.0.shape) (t.Negate y.0.term) p y.1)
typed_step w (Expr-F.Not x) p = and_found (x (drop 1 p)) (λ y. made (of_not y.0.shape) (t.Not y.0.term) p y.1)
typed_step w (Expr-F.Chain first more) p = and_found (first p) (λ y. chained y.0 more p y.1)

-- an expression resolved, or its first fault
unfoldable pub typed : Where → Expr → Typer
typed w = fold-Expr Typer (typed_step w)

-- a link whose operand is typed
abbrev pub typed_link : Where → Link Expr → Link Typer
typed_link w x = record { op = x.op; right = typed w x.right }
