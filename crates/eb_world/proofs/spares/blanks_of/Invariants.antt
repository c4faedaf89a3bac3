-- what is done and what is left
use Rattle.std.proofs.Common.{◌≡◌, ◌++◌, map, drop, All}
use Rattle.eb_schema.specs.Rows.{kinds_of}
use Rattle.eb_world.specs.declared.beings.Blank.{Blank}
use Rattle.eb_world.specs.Beings.{IsBlank}
use Rattle.eb_world.proofs.spares.blanks_of.Given as goal

abbrev pub invariant-loop-row : goal.invariant-loop-row
invariant-loop-row l = record {
  kinds : map (λ (b : Blank). b.kinds) l.blanks.items ++ map kinds_of (drop l.row-index l.rows) ≡ map kinds_of l.rows;
  ready : All (IsBlank l.schema) l.blanks.items;
}
