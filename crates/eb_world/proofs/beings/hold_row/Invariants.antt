-- what is done and what is left, and room for what is left
use Rattle.std.proofs.Common.{◌≡◌, ◌++◌, ◌≤◌, length, map, drop}
use Rattle.eb_world.specs.Beings.{flat, hold}
use Rattle.eb_world.proofs.beings.hold_row.Given as goal

abbrev pub invariant-loop-cell : goal.invariant-loop-cell
invariant-loop-cell l = record {
  items : l.values.items ++ map (hold l.beings.map l.name l.serial) (flat (drop l.cell-index l.row)) ≡ map (hold l.beings.map l.name l.serial) (flat l.row);
  room : length (flat (drop l.cell-index l.row)) ≤ l.values.room;
}
