-- Which components stand on an entity, of those that bakers give it: for each type that of the lowest baker.
use Rattle.std.specs.Prelude.{ℕ, ◌==◌, List, [], ◌∷◌, ◌++◌, map, find, take, drop, flat_map, Option, Some, None}
use Rattle.eb_base.specs.declared.names.Name.{Name}
use Rattle.eb_schema.specs.declared.rows.Cell.{Cell}
use Rattle.eb_schema.specs.Rows.{most_kinds, with_item}
use Rattle.eb_eval.specs.declared.issues.Issue.{Issue}
use Rattle.eb_eval.specs.declared.issues.Issue.TheVariants as issue
use Rattle.eb_merge.specs.declared.own_cells.Standing.{Standing}

abbrev pub kind_of : Standing → ℕ
kind_of x = x.cell.kind

-- what stands of a type
abbrev pub standing_at : List Standing → ℕ → Option Standing
standing_at xs kind = find (λ x. kind_of x == kind) xs

-- with one more baker that gives the type
abbrev pub noted : ℕ → Standing → Standing
noted baker x = record { cell = x.cell; others = x.others ++ baker ∷ [] }

-- a component that a baker gives: it stands where none of its type does, and else the baker is noted beside the one that does
abbrev pub given : ℕ → Cell → Option Standing → Standing
given baker c None = record { cell = c; others = [] }
given baker c (Some x) = noted baker x

-- what stands when a baker has given a component too, ascending by type
abbrev pub with_gift : ℕ → List Standing → Cell → List Standing
with_gift baker xs c = with_item kind_of (given baker c (standing_at xs c.kind)) xs

-- the row of the entity: the 32 lowest types
abbrev pub row_of : List Standing → List Cell
row_of xs = map (λ x. x.cell) (take most_kinds xs)

-- ---- what is left out

abbrev pub duplicates_at : Name → Standing → List Issue
duplicates_at name x = map (issue.Duplicate name (kind_of x)) x.others

-- each baker but the lowest that gives a type, by types and then by bakers
abbrev pub duplicates_of : Name → List Standing → List Issue
duplicates_of name xs = flat_map (duplicates_at name) xs

abbrev pub type_beyond : Name → Standing → Issue
type_beyond name x = issue.TooMany name (kind_of x)

-- each type beyond the 32 lowest
abbrev pub too_many_of : Name → List Standing → List Issue
too_many_of name xs = map (type_beyond name) (drop most_kinds xs)
