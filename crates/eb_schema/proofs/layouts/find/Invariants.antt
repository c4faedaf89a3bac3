use Rattle.std.proofs.Common.{◌≡◌, drop}
use Rattle.eb_schema.specs.Layouts.{find_column}
use Rattle.eb_schema.proofs.layouts.find.Given as goal

-- what is left to search gives the answer
abbrev pub invariant-loop-index : goal.invariant-loop-index
invariant-loop-index l = find_column l.kind l.field l.index (drop l.index l.columns) ≡ find_column l.kind l.field 0 l.columns
