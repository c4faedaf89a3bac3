-- what is left to do gives the same, and each entity has its seat
use Rattle.std.proofs.Common.{◌≡◌, ◌≤◌, drop}
use Rattle.slab.specs.Slab.{slab_len}
use Rattle.eb_world.specs.Beings.{Seated, drop_all}
use Rattle.eb_world.proofs.worlds.drop_each.Given as goal

abbrev pub invariant-loop-name : goal.invariant-loop-name
invariant-loop-name l = record {
  beings : drop_all l.place (drop l.name-index l.names) l.beings.map ≡ drop_all l.place l.names l.fn.beings.map;
  seats : Seated l.seats l.beings.map;
  capacity : l.seats.capacity ≡ l.fn.seats.capacity;
  len : slab_len l.seats ≤ slab_len l.fn.seats;
}
