-- What every schema keeps: lists within their limits, names and numbers that differ, kinds that are allowed, and
-- copies that match.
use Rattle.std.specs.Prelude.{◌≡◌, ◌≤◌, ◌==◌, ℕ, List, length, map, bytes_eq, find, Bool, true, false, Option, Some, None, option_map}
use Rattle.std.specs.List.{AllByRecursion, IsDistinct}
use Rattle.eb_schema.specs.declared.kinds.Field.{Field}
use Rattle.eb_schema.specs.declared.kinds.Component.{Component}
use Rattle.eb_schema.specs.declared.kinds.Authoring.{Authoring}
use Rattle.eb_schema.specs.declared.drafts.Holder.{Holder}
use Rattle.eb_schema.specs.declared.drafts.Holder.TheVariants.{OfAssets, OfAuthoring, OfComponent}
use Rattle.eb_schema.specs.Schemas.{Types}
use Rattle.eb_schema.specs.SchemaTests.{allows}

-- at most 16 fields, no two of the same name, all of kinds that are allowed there
pub record AreFields (holder : Holder) (fields : List Field) : Type 0 where
  pub few : length fields ≤ 16
  pub names : IsDistinct bytes_eq (map (λ f. f.name) fields)
  pub kinds : AllByRecursion (λ f. allows holder f.kind ≡ true) fields

-- at most 128 component types, no two of the same name or number, and their fields
pub record AreComponents (components : List Component) : Type 0 where
  pub few : length components ≤ 128
  pub names : IsDistinct bytes_eq (map (λ c. c.name) components)
  pub numbers : IsDistinct (λ j k. j == k) (map (λ c. c.number) components)
  pub fields : AllByRecursion (λ c. AreFields OfComponent c.fields) components

-- the component type that these fields are copied to, if there is one, has the same fields
abbrev pub CopyMatches : List Component → List Field → Option ℕ → Type 0
CopyMatches components fields None = Unit {0}
CopyMatches components fields (Some number) = option_map (λ c. c.fields) (find (λ c. c.number == number) components) ≡ Some fields

-- whether both are copied to one component type
abbrev pub same_copy : Option ℕ → Option ℕ → Bool
same_copy (Some j) (Some k) = j == k
same_copy (Some j) None = false
same_copy None k = false

-- at most 128 authoring types, no two of the same name or number or copied to the same component type, their
-- fields, and what they are copied to
pub record AreAuthoring (components : List Component) (authoring : List Authoring) : Type 0 where
  pub few : length authoring ≤ 128
  pub names : IsDistinct bytes_eq (map (λ a. a.name) authoring)
  pub numbers : IsDistinct (λ j k. j == k) (map (λ a. a.number) authoring)
  pub once : IsDistinct same_copy (map (λ a. a.copy) authoring)
  pub fields : AllByRecursion (λ a. AreFields OfAuthoring a.fields) authoring
  pub copies : AllByRecursion (λ a. CopyMatches components a.fields a.copy) authoring

pub record IsSchema (types : Types) : Type 0 where
  pub assets : AreFields OfAssets types.assets
  pub authoring : AreAuthoring types.components types.authoring
  pub components : AreComponents types.components
