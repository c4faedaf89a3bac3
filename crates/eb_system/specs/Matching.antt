-- Which entities a query matches.
use Rattle.std.specs.Prelude.{ℕ, Bool, true, ◌&&◌, not, List, [], ◌∷◌, is_some}
use Rattle.std.specs.List.{list_all, list_any}
use Rattle.eb_schema.specs.declared.rows.Cell.{Cell}
use Rattle.eb_schema.specs.Rows.{cell_of}
use Rattle.eb_rules.specs.declared.queries.Query3.{Query3}

abbrev pub has : List Cell → ℕ → Bool
has row kind = is_some (cell_of row kind)

-- one of these types, unless there are none
abbrev pub has_one : List Cell → List ℕ → Bool
has_one row [] = true
has_one row (k ∷ ks) = list_any (has row) (k ∷ ks)

-- all of the first types, one of the second unless there are none, and none of the third
abbrev pub matches : Query3 → List Cell → Bool
matches query row = list_all (has row) query.all && (has_one row query.any && not (list_any (has row) query.none))
