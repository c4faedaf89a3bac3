-- what is left has the values of the types that are left
use Rattle.std.proofs.Common.{◌≡◌, length, drop}
use Rattle.eb_world.specs.Beings.{total, value_in}
use Rattle.eb_world.proofs.beings.value_in.Given as goal

abbrev pub invariant-loop-each : goal.invariant-loop-each
invariant-loop-each l = record {
  size : length l.rest ≡ total l.schema (drop l.each-index l.being.kinds);
  value : value_in l.schema (drop l.each-index l.being.kinds) l.rest l.kind l.field ≡ value_in l.schema l.being.kinds l.being.values l.kind l.field;
}
