-- What a query asks for, which entities match it, and what is printed of them.
use Rattle.std.specs.Prelude.{◌≡◌, ℕ, suc, ◌^◌, ◌-◌, min, Bool, true, cond, not, ◌&&◌, ◌==◌, nat_lt, List, [], ◌∷◌, ◌++◌, length, filter_map, flat_map, Option, Some, None, option_map, Result, Ok, Err}
use Rattle.std.specs.List.{list_all, list_any, filter}
use Rattle.std.specs.FinMap.{entries}
use Rattle.eb_base.specs.declared.names.Name.{Name}
use Rattle.eb_schema.specs.Rows.{kinds_of}
use Rattle.eb_schema.specs.Schemas.{Types, component_named}
use Rattle.eb_world.specs.Worlds.{Living, Live}
use Rattle.eb_query.specs.declared.queries.QueryFault.{QueryFault}
use Rattle.eb_query.specs.declared.queries.QueryFault.TheVariants.{Memory, NoType, TooMany, Clash}
use Rattle.eb_query.specs.EntityText.{entity_line}

-- the types that an entity has all of, one of, and none of
pub record Asked : Type 0 where
  pub all : List ℕ
  pub any : List ℕ
  pub none : List ℕ

abbrev pub has : List ℕ → ℕ → Bool
has kinds kind = list_any (λ k. k == kind) kinds

-- one of the list, unless the list is empty
abbrev pub has_one : List ℕ → List ℕ → Bool
has_one kinds [] = true
has_one kinds (k ∷ ks) = list_any (has kinds) (k ∷ ks)

abbrev pub matches : Asked → List ℕ → Bool
matches asked kinds = list_all (has kinds) asked.all && (has_one kinds asked.any && not (list_any (has kinds) asked.none))

-- the lines of the entities that match, ascending by name
abbrev pub matching_line : Asked → Types → Name × Living → List ℕ
matching_line asked types e = cond (matches asked (kinds_of e.1.row)) (entity_line types e.0 e.1) []

unfoldable pub matching_lines : Asked → Types → Live → List ℕ
matching_lines asked types live = flat_map (matching_line asked types) (entries live)

-- ---- a query of names

-- one place further behind a name that has a type
abbrev pub unknown_behind : Option ℕ → Option ℕ → Option ℕ
unknown_behind None rest = Some 0
unknown_behind (Some kind) rest = option_map suc rest

-- the place of the first name that has no type
abbrev pub first_unknown : Types → List (List ℕ) → Option ℕ
first_unknown types [] = None
first_unknown types (name ∷ names) = unknown_behind (component_named types name) (first_unknown types names)

abbrev pub numbers : Types → List (List ℕ) → List ℕ
numbers types names = filter_map (component_named types) names

abbrev pub lesser : ℕ → Option ℕ → ℕ
lesser k None = k
lesser k (Some j) = min k j

abbrev pub least : List ℕ → Option ℕ
least [] = None
least (k ∷ ks) = Some (lesser k (least ks))

-- the least type that no entity may have and that is asked for too
abbrev pub clash_of : Asked → Option ℕ
clash_of asked = least (filter (has (asked.all ++ asked.any)) asked.none)

abbrev pub most_names : ℕ
most_names = 32

abbrev pub unless_clash : Asked → Option ℕ → Result Asked QueryFault
unless_clash asked None = Ok asked
unless_clash asked (Some kind) = Err (Clash kind)

-- the query, where all names are known and no more than 32, or else its first fault
abbrev pub known_query : Types → List (List ℕ) → List (List ℕ) → List (List ℕ) → Option ℕ → Result Asked QueryFault
known_query types all any none (Some place) = Err (NoType (min place (2 ^ 32 - 1)))
known_query types all any none None =
    cond (nat_lt most_names (length (all ++ any ++ none))) (Err TooMany)
    (let asked : Asked = record { all = numbers types all; any = numbers types any; none = numbers types none } in unless_clash asked (clash_of asked))

abbrev pub query_of : Types → List (List ℕ) → List (List ℕ) → List (List ℕ) → Result Asked QueryFault
query_of types all any none = known_query types all any none (first_unknown types (all ++ any ++ none))

abbrev pub RefusesQuery : QueryFault → Result Asked QueryFault → Type 0
RefusesQuery Memory made = Unit {0}
RefusesQuery (NoType place) made = made ≡ Err (NoType place)
RefusesQuery TooMany made = made ≡ Err TooMany
RefusesQuery (Clash kind) made = made ≡ Err (Clash kind)

-- What a call answered is what was to be made, unless memory ran out.
abbrev pub TellsQuery : Result Asked QueryFault → Result Asked QueryFault → Type 0
TellsQuery (Ok asked) made = made ≡ Ok asked
TellsQuery (Err fault) made = RefusesQuery fault made
