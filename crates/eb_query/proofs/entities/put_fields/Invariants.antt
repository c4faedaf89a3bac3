-- what is written and what is left
use Rattle.std.proofs.Common.{◌≡◌, ◌++◌, drop}
use Rattle.eb_world.specs.Worlds.{living_of}
use Rattle.eb_query.specs.EntityText.{fields_text}
use Rattle.eb_query.specs.Pieces.{fields_from, values_of}
use Rattle.eb_query.proofs.entities.put_fields.Given as goal

abbrev pub invariant-loop-index : goal.invariant-loop-index
invariant-loop-index l =
    l.out.items ++ fields_from l.index (drop l.index l.fields) (drop l.index (values_of (living_of l.world l.entity) l.kind))
    ≡ l.fn.out.items ++ fields_text l.fields (values_of (living_of l.world l.entity) l.kind)
