-- what is written and what is left
use Rattle.std.proofs.Common.{◌≡◌, ◌++◌, drop, flat_map}
use Rattle.eb_world.specs.Worlds.{living_of}
use Rattle.eb_query.specs.Pieces.{kind_text}
use Rattle.eb_query.proofs.entities.put_kinds.Given as goal

abbrev pub invariant-loop-kind : goal.invariant-loop-kind
invariant-loop-kind l =
    l.out.items ++ flat_map (kind_text l.schema (living_of l.world l.entity)) (drop l.kind-index l.kinds)
    ≡ l.fn.out.items ++ flat_map (kind_text l.schema (living_of l.world l.entity)) l.kinds
