-- The columns of one schema's types hold what its fields do, so two sets of types agree on the fields that both have.
use Rattle.std.proofs.Common.{◌≡◌, ◌<◌, ℕ, zero, suc, ◌+◌, List, [], ◌∷◌, ◌++◌, length, Bool, true, false, cond, ◌&&◌, ◌==◌, Option, Some, None, refl, sym, ap, ◌∙◌, arith}
use Rattle.std.specs.List.{AllByRecursion}
use Rattle.std.proofs.lemmas.Bool.Decides.{nat_tests}
use Rattle.eb_schema.specs.declared.kinds.Component.{Component}
use Rattle.eb_schema.specs.declared.kinds.Field.{Field}
use Rattle.eb_schema.specs.declared.kinds.Kind.{Kind}
use Rattle.eb_schema.specs.declared.kinds.Kind.TheVariants.{Asset}
use Rattle.eb_schema.specs.declared.layouts.Column.{Column}
use Rattle.eb_schema.specs.Schemas.{Types, component_of}
use Rattle.eb_schema.specs.Layouts.{columns_from, columns_of_found, columns_of_type, columns_of, column_at, find_column}
use Rattle.eb_chunk.specs.Rows.{Alike}

-- what field n holds
abbrev field_holds : List Field → ℕ → Kind
field_holds [] n = Asset
field_holds (f ∷ fs) zero = f.kind
field_holds (f ∷ fs) (suc n) = field_holds fs n

abbrev type_holds : Option Component → ℕ → Kind
type_holds None n = Asset
type_holds (Some c) n = field_holds c.fields n

-- a column of this type holds what the type's field does
abbrev IsOf : ℕ → (ℕ → Kind) → Column → Type 0
IsOf kind holds c = (c.kind ≡ kind) × (c.holds ≡ holds c.field)

fields_hold : (kind i : ℕ) (fs : List Field) (holds : ℕ → Kind) → ((n : ℕ) → n < length fs → holds (i + n) ≡ field_holds fs n) → AllByRecursion (IsOf kind holds) (columns_from kind i fs)
fields_hold kind i [] holds h = tt
fields_hold kind i (f ∷ fs) holds h =
    let here : holds i ≡ f.kind = ap holds (omega arith) ∙ h 0 (omega arith) in
    ((refl, sym here), fields_hold kind (i + 1) fs holds (λ n lt. ap holds (omega arith) ∙ h (suc n) (omega (arith, lt))))

found_hold : (kind : ℕ) (found : Option Component) → AllByRecursion (IsOf kind (type_holds found)) (columns_of_found kind found)
found_hold kind None = tt
found_hold kind (Some c) = fields_hold kind 0 c.fields (field_holds c.fields) (λ n lt. ap (field_holds c.fields) (omega arith))

-- a column holds what the field of its type does
abbrev IsTold : Types → Column → Type 0
IsTold types c = c.holds ≡ type_holds (component_of types c.kind) c.field

told_of : (types : Types) (kind : ℕ) (cs : List Column) → AllByRecursion (IsOf kind (type_holds (component_of types kind))) cs → AllByRecursion (IsTold types) cs
told_of types kind [] h = tt
told_of types kind (c ∷ cs) h = (h.0.1 ∙ sym (ap (λ k. type_holds (component_of types k) c.field) h.0.0), told_of types kind cs h.1)

both_told : (types : Types) (cs ds : List Column) → AllByRecursion (IsTold types) cs → AllByRecursion (IsTold types) ds → AllByRecursion (IsTold types) (cs ++ ds)
both_told types [] ds h k = k
both_told types (c ∷ cs) ds h k = (h.0, both_told types cs ds h.1 k)

all_told : (types : Types) (kinds : List ℕ) → AllByRecursion (IsTold types) (columns_of types kinds)
all_told types [] = tt
all_told types (kind ∷ kinds) =
    both_told types (columns_of_type types kind) (columns_of types kinds) (told_of types kind (columns_of_type types kind) (found_hold kind (component_of types kind))) (all_told types kinds)

told_at : (types : Types) (cs : List Column) (c : ℕ) → c < length cs → AllByRecursion (IsTold types) cs → IsTold types (column_at cs c)
told_at types [] c lt h = absurd (omega (arith, lt))
told_at types (x ∷ cs) zero lt h = h.0
told_at types (x ∷ cs) (suc c) lt h = told_at types cs c (omega (arith, lt)) h.1

-- column k, counted from i, is there, and is of the field
record IsAt (kind field i k : ℕ) (cs : List Column) : Type 0 where
  place : ℕ
  is : k ≡ i + place
  there : place < length cs
  kind_is : (column_at cs place).kind ≡ kind
  field_is : (column_at cs place).field ≡ field

at_where : (b : Bool) (kind field i k : ℕ) (c : Column) (cs : List Column) → ((c.kind == kind) && (c.field == field)) ≡ b
    → (find_column kind field (i + 1) cs ≡ Some k → IsAt kind field (i + 1) k cs) → cond b (Some i) (find_column kind field (i + 1) cs) ≡ Some k → IsAt kind field i k (c ∷ cs)
at_where true kind field i k c cs test later e =
    let same : i ≡ k = cc in
    record { place = 0; is = omega (arith, same); there = omega arith; kind_is = grind (arith, nat_tests); field_is = grind (arith, nat_tests) }
at_where false kind field i k c cs test later e =
    let at = later e in
    record { place = suc at.place; is = omega (arith, at.is); there = omega (arith, at.there); kind_is = at.kind_is; field_is = at.field_is }

found_at : (kind field i k : ℕ) (cs : List Column) → find_column kind field i cs ≡ Some k → IsAt kind field i k cs
found_at kind field i k [] e = cc
found_at kind field i k (c ∷ cs) e = at_where ((c.kind == kind) && (c.field == field)) kind field i k c cs refl (found_at kind field (i + 1) k cs) e

pub alike : (types : Types) (kinds others : List ℕ) → Alike (columns_of types kinds) (columns_of types others)
alike types kinds others c k lt e =
    let cs = columns_of types kinds in let old = columns_of types others in let x = column_at cs c in
    let at = found_at x.kind x.field 0 k old e in
    let y = column_at old at.place in
    let same : column_at old k ≡ y = ap (column_at old) (omega (arith, at.is)) in
    ap (λ z. z.holds) same ∙ told_at types old at.place at.there (all_told types others)
    ∙ (λ i. type_holds (component_of types (at.kind_is i)) (at.field_is i)) ∙ sym (told_at types cs c lt (all_told types kinds))
