-- What names mean where an expression stands: types, fields of types, and visible names.
use Rattle.std.specs.Prelude.{ℕ, ◌+◌, ◌==◌, if◌then◌else◌, Bool, List, [], ◌∷◌, Option, Some, None, option_map, unwrap_or, bytes_eq, find}
use Rattle.std.specs.{List.list_any, List.position_or_len}
use Rattle.eb_rule_text.specs.declared.trees.Context.{Context}
use Rattle.eb_schema.specs.declared.kinds.{Kind.Kind, Field.Field}
use Rattle.eb_schema.specs.Schemas.{Types, component_of, authoring_of}
use Rattle.eb_rules.specs.declared.scopes.{Bound.Bound, Visible.Visible}
use Rattle.eb_rules.specs.declared.{plans.FieldPlace.FieldPlace, shapes.Shape.Shape}
use Rattle.eb_rules.specs.declared.scopes.Bound.TheVariants as bound
use Rattle.eb_rules.specs.declared.shapes.Shape.TheVariants as shape

abbrev pub Text : Type 0
Text = List ℕ

pub record Where : Type 0 where
  pub types : Types
  pub context : Context
  -- the fields of the baker's own type
  pub own : List Field
  -- the types in the list `all` of the query
  pub all : List ℕ
  pub known : List Visible

-- how many fields stand before the first one of this name
abbrev pub field_place : Text → List Field → ℕ
field_place name [] = 0
field_place name (f ∷ fs) = if bytes_eq name f.name then 0 else field_place name fs + 1

abbrev pub field_kind : Text → List Field → Option Kind
field_kind name fields = option_map (λ f. f.kind) (find (λ f. bytes_eq name f.name) fields)

-- the field of a name, where there is one
abbrev pub field_in : Text → List Field → Option FieldPlace
field_in name fields = option_map (λ k. record { place = field_place name fields; kind = k }) (field_kind name fields)

-- the kind of the next field, where the name is its
abbrev pub next_field : List Field → Text → Option Kind
next_field [] name = None
next_field (f ∷ fs) name = if bytes_eq name f.name then Some f.kind else None

-- the fields of the authoring type of a number
abbrev pub authoring_fields : Types → ℕ → List Field
authoring_fields types n = unwrap_or (option_map (λ x. x.fields) (authoring_of types n)) []

-- the fields of the component type of a number
unfoldable pub component_fields : Types → ℕ → List Field
component_fields types n = unwrap_or (option_map (λ x. x.fields) (component_of types n)) []

abbrev pub is_in_all : ℕ → List ℕ → Bool
is_in_all n = list_any (λ k. k == n)

-- what a visible name stands for
abbrev pub bound_of : Text → List Visible → Option Bound
bound_of name known = option_map (λ v. v.bound) (find (λ v. bytes_eq name v.name) known)

-- how many visible names stand before the first one that is this
abbrev pub place_of : Text → List Visible → ℕ
place_of name known = position_or_len (λ v. bytes_eq name v.name) known

-- what a visible name is as a value
abbrev pub as_value : Bound → Option Shape
as_value (bound.Value k) = Some k
as_value bound.Entity = None

-- and in the place of an entity
abbrev pub as_entity : Bound → Option Shape
as_entity (bound.Value k) = None
as_entity bound.Entity = Some shape.Ref
