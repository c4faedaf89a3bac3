-- what is done and what is left, and room for what is left
use Rattle.std.proofs.Common.{◌≡◌, ◌++◌, ◌+◌, map, drop}
use Rattle.eb_world.specs.Beings.{hold}
use Rattle.eb_world.proofs.beings.hold_cell.Given as goal

abbrev pub invariant-loop-value : goal.invariant-loop-value
invariant-loop-value l = record {
  items : l.values.items ++ map (hold l.beings.map l.name l.serial) (drop l.value-index l.cell.values) ≡ l.fn.values.items ++ map (hold l.beings.map l.name l.serial) l.cell.values;
  room : l.values.room + l.value-index ≡ l.fn.values.room;
}
