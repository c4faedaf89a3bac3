-- What a schema says: the fields of assets, the authoring types and the component types, each list in
-- the order of the document.
use Rattle.std.specs.Prelude.{◌==◌, ℕ, Option, Some, option_map, bytes_eq, List, [], ◌∷◌, codes, find}
use Rattle.eb_schema.specs.declared.kinds.Kind.TheVariants.{I64}
use Rattle.eb_schema.specs.declared.kinds.Mode.TheVariants.{Stored}
use Rattle.eb_schema.specs.declared.kinds.Field.{Field}
use Rattle.eb_schema.specs.declared.kinds.Component.{Component}
use Rattle.eb_schema.specs.declared.kinds.Authoring.{Authoring}

pub record Types : Type 0 where
  pub assets : List Field
  pub authoring : List Authoring
  pub components : List Component

-- the component type of a number
abbrev pub component_of : Types → ℕ → Option Component
component_of types number = find (λ c. c.number == number) types.components

-- the authoring type of a number
abbrev pub authoring_of : Types → ℕ → Option Authoring
authoring_of types number = find (λ a. a.number == number) types.authoring

-- the number of the component type of a name
abbrev pub component_named : Types → List ℕ → Option ℕ
component_named types name = option_map (λ c. c.number) (find (λ c. bytes_eq name c.name) types.components)

-- the number of the authoring type of a name
abbrev pub authoring_named : Types → List ℕ → Option ℕ
authoring_named types name = option_map (λ a. a.number) (find (λ a. bytes_eq name a.name) types.authoring)

-- the one field of the plain schema's types
abbrev pub plain_field : Field
plain_field = record { name = codes "v"; kind = I64 }

-- a schema with one component, a number, that is copied from one authoring type of the same name
unfoldable pub plain_types : Types
plain_types = record {
  assets = [];
  authoring = record { number = 1; name = codes "Value"; copy = Some 1; fields = plain_field ∷ [] } ∷ [];
  components = record { number = 1; name = codes "Value"; mode = Stored; fields = plain_field ∷ [] } ∷ [];
}
