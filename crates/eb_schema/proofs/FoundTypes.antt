-- In a schema each type is found by its number and by its name.
use Rattle.std.proofs.Common.{◌≡◌, ℕ, List, [], ◌∷◌, true, false, nat_eq, Some, ap, ◌∙◌, arith}
use Rattle.std.specs.Prelude.{bytes_eq, option_map}
use Rattle.std.specs.List.{AllByRecursion}
use Rattle.std.proofs.lemmas.Bool.Decides.{nat_tests}
use Rattle.std.proofs.lemmas.Cmp.{nat_list_eq_equiv}
use Rattle.eb_schema.specs.declared.kinds.Component.{Component}
use Rattle.eb_schema.specs.declared.kinds.Authoring.{Authoring}
use Rattle.eb_schema.specs.Schemas.{Types, component_of, component_named, authoring_of, authoring_named}
use Rattle.eb_schema.specs.SoundSchemas.{IsSchema}
use Rattle.eb_schema.proofs.SoundFacts.{each_found}
use Rattle.eb_schema.proofs.TableFacts.{find_same}

numbers_same : (k : ℕ) → nat_eq k k ≡ true
numbers_same k = grind (arith, nat_tests)

numbers_turned : (j k : ℕ) → nat_eq j k ≡ false → nat_eq k j ≡ false
numbers_turned j k h = grind (arith, nat_tests)

turned_numbers : (j k : ℕ) → nat_eq j k ≡ nat_eq k j
turned_numbers j k = grind (arith, nat_tests)

names_turned : (j k : List ℕ) → bytes_eq j k ≡ false → bytes_eq k j ≡ false
names_turned j k h = nat_list_eq_equiv.symm k j ∙ h

all_by : {X : Type 0} {P Q : X → Type 0} → ((x : X) → P x → Q x) → (xs : List X) → AllByRecursion P xs → AllByRecursion Q xs
all_by f [] h = tt
all_by f (x ∷ xs) h = (f x h.0, all_by f xs h.1)

pub components_found : (types : Types) → IsSchema types → AllByRecursion (λ c. component_of types c.number ≡ Some c) types.components
components_found types sound =
    all_by (λ (c : Component) found. find_same (λ d. nat_eq d.number c.number) (λ d. nat_eq c.number d.number) (λ d. turned_numbers d.number c.number) types.components ∙ found) types.components
    (each_found nat_eq numbers_same numbers_turned (λ c. c.number) types.components sound.components.numbers)

pub component_names_found : (types : Types) → IsSchema types → AllByRecursion (λ c. component_named types c.name ≡ Some c.number) types.components
component_names_found types sound =
    all_by (λ (c : Component) found. ap (option_map (λ d. d.number)) found) types.components
    (each_found bytes_eq nat_list_eq_equiv.refl names_turned (λ c. c.name) types.components sound.components.names)

pub authoring_found : (types : Types) → IsSchema types → AllByRecursion (λ a. authoring_of types a.number ≡ Some a) types.authoring
authoring_found types sound =
    all_by (λ (c : Authoring) found. find_same (λ d. nat_eq d.number c.number) (λ d. nat_eq c.number d.number) (λ d. turned_numbers d.number c.number) types.authoring ∙ found) types.authoring
    (each_found nat_eq numbers_same numbers_turned (λ c. c.number) types.authoring sound.authoring.numbers)

pub authoring_names_found : (types : Types) → IsSchema types → AllByRecursion (λ a. authoring_named types a.name ≡ Some a.number) types.authoring
authoring_names_found types sound =
    all_by (λ (c : Authoring) found. ap (option_map (λ d. d.number)) found) types.authoring
    (each_found bytes_eq nat_list_eq_equiv.refl names_turned (λ c. c.name) types.authoring sound.authoring.names)
