use Rattle.std.proofs.Common.{◌≡◌, ◌++◌, drop}
use Rattle.std.specs.Prelude.{flat_map}
use Rattle.eb_file.specs.Images.{names_of}
use Rattle.eb_file.specs.Spelling.{name_bytes}
use Rattle.eb_file.proofs.writing.put_names.Given as goal

abbrev pub invariant-loop-row : goal.invariant-loop-row
invariant-loop-row l = l.out.items ++ flat_map name_bytes (names_of (drop l.row-index l.rows)) ≡ l.fn.out.items ++ flat_map name_bytes (names_of l.rows)
