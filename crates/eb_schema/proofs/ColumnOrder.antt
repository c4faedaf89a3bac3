-- The columns of ascending types ascend.
use Rattle.std.proofs.Common.{◌≡◌, ◌<◌, ℕ, ◌+◌, List, [], ◌∷◌, ◌++◌, Ordering, Less, Equal, refl, ap, ◌∙◌, arith}
use Rattle.std.specs.Prelude.{Option, Some, None}
use Rattle.std.specs.List.{AllByRecursion}
use Rattle.std.specs.List.Sorted.{IsStrictlySortedBy}
use Rattle.std.specs.Ordering.{nat_cmp, ordering_then}
use Rattle.std.proofs.lemmas.Bool.Decides.{nat_tests}
use Rattle.eb_schema.specs.declared.kinds.Component.{Component}
use Rattle.eb_schema.specs.declared.kinds.Field.{Field}
use Rattle.eb_schema.specs.declared.kinds.Kind.{Kind}
use Rattle.eb_schema.specs.declared.layouts.Column.{Column}
use Rattle.eb_schema.specs.Schemas.{Types, component_of}
use Rattle.eb_schema.specs.Layouts.{columns_from, columns_of_found, columns_of_type, columns_of, column_cmp}

-- ---- lists of any kind

all_of_both : {X : Type 0} (P : X → Type 0) (xs ys : List X) → AllByRecursion P xs → AllByRecursion P ys → AllByRecursion P (xs ++ ys)
all_of_both P [] ys h k = k
all_of_both P (x ∷ xs) ys h k = (h.0, all_of_both P xs ys h.1 k)

ascends_on : {X : Type 0} (R : X → X → Ordering) (xs ys : List X) → IsStrictlySortedBy R xs → IsStrictlySortedBy R ys
    → AllByRecursion (λ x. AllByRecursion (λ y. R x y ≡ Less) ys) xs → IsStrictlySortedBy R (xs ++ ys)
unfolding IsStrictlySortedBy
ascends_on R [] ys h k below = k
ascends_on R (x ∷ xs) ys h k below = (all_of_both (λ y. R x y ≡ Less) xs ys h.0 below.0, ascends_on R xs ys h.1 k below.1)

-- ---- columns of one type

later_field : (kind i j : ℕ) → i < j → ordering_then (nat_cmp kind kind) (nat_cmp i j) ≡ Less
later_field kind i j lt =
    let same : nat_cmp kind kind ≡ Equal = grind (arith, nat_tests) in let less : nat_cmp i j ≡ Less = grind (arith, nat_tests) in
    ap (λ o. ordering_then o (nat_cmp i j)) same ∙ less

fields_above : (kind i j : ℕ) (holds : Kind) (fs : List Field) → i < j
    → AllByRecursion (λ y. column_cmp (record { kind = kind; field = i; holds = holds }) y ≡ Less) (columns_from kind j fs)
fields_above kind i j holds [] lt = tt
fields_above kind i j holds (f ∷ fs) lt = (later_field kind i j lt, fields_above kind i (j + 1) holds fs (omega (arith, lt)))

fields_ascend : (kind i : ℕ) (fs : List Field) → IsStrictlySortedBy column_cmp (columns_from kind i fs)
unfolding IsStrictlySortedBy
fields_ascend kind i [] = tt
fields_ascend kind i (f ∷ fs) = (fields_above kind i (i + 1) f.kind fs (omega arith), fields_ascend kind (i + 1) fs)

found_ascend : (kind : ℕ) (found : Option Component) → IsStrictlySortedBy column_cmp (columns_of_found kind found)
unfolding IsStrictlySortedBy
found_ascend kind None = tt
found_ascend kind (Some c) = fields_ascend kind 0 c.fields

-- ---- columns of one type, and of others

fields_of_type : (P : ℕ → Type 0) (kind i : ℕ) (fs : List Field) → P kind → AllByRecursion (λ (c : Column). P c.kind) (columns_from kind i fs)
fields_of_type P kind i [] p = tt
fields_of_type P kind i (f ∷ fs) p = (p, fields_of_type P kind (i + 1) fs p)

found_of_type : (P : ℕ → Type 0) (kind : ℕ) (found : Option Component) → P kind → AllByRecursion (λ (c : Column). P c.kind) (columns_of_found kind found)
found_of_type P kind None p = tt
found_of_type P kind (Some c) p = fields_of_type P kind 0 c.fields p

columns_of_types : (types : Types) (P : ℕ → Type 0) (kinds : List ℕ) → AllByRecursion P kinds → AllByRecursion (λ (c : Column). P c.kind) (columns_of types kinds)
columns_of_types types P [] h = tt
columns_of_types types P (kind ∷ kinds) h =
    all_of_both (λ (c : Column). P c.kind) (columns_of_type types kind) (columns_of types kinds)
    (found_of_type P kind (component_of types kind) h.0) (columns_of_types types P kinds h.1)

later_type : (kind : ℕ) (x : Column) (ys : List Column) → x.kind ≡ kind → AllByRecursion (λ (c : Column). nat_cmp kind c.kind ≡ Less) ys → AllByRecursion (λ y. column_cmp x y ≡ Less) ys
later_type kind x [] e h = tt
later_type kind x (y ∷ ys) e h =
    (ap (λ k. ordering_then (nat_cmp k y.kind) (nat_cmp x.field y.field)) e ∙ ap (λ o. ordering_then o (nat_cmp x.field y.field)) h.0, later_type kind x ys e h.1)

all_below : (kind : ℕ) (xs ys : List Column) → AllByRecursion (λ (c : Column). c.kind ≡ kind) xs → AllByRecursion (λ (c : Column). nat_cmp kind c.kind ≡ Less) ys
    → AllByRecursion (λ x. AllByRecursion (λ y. column_cmp x y ≡ Less) ys) xs
all_below kind [] ys e h = tt
all_below kind (x ∷ xs) ys e h = (later_type kind x ys e.0 h, all_below kind xs ys e.1 h)

pub columns_ascend : (types : Types) (kinds : List ℕ) → IsStrictlySortedBy nat_cmp kinds → IsStrictlySortedBy column_cmp (columns_of types kinds)
unfolding IsStrictlySortedBy
columns_ascend types [] h = tt
columns_ascend types (kind ∷ kinds) h =
    let first = columns_of_type types kind in let rest = columns_of types kinds in
    ascends_on column_cmp first rest (found_ascend kind (component_of types kind)) (columns_ascend types kinds h.1)
    (all_below kind first rest (found_of_type (λ k. k ≡ kind) kind (component_of types kind) refl) (columns_of_types types (λ k. nat_cmp kind k ≡ Less) kinds h.0))
