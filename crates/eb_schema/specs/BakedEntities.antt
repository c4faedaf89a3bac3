-- What is baked: entities under their names.
use Rattle.std.specs.Prelude.{List}
use Rattle.std.specs.FinMap.{FinMap}
use Rattle.eb_base.specs.Names.{name_cmp}
use Rattle.eb_base.specs.declared.names.Place.{Place}
use Rattle.eb_schema.specs.declared.baked.BakedEntity.{BakedEntity}
use Rattle.eb_schema.specs.declared.rows.Cell.{Cell}

abbrev pub Entities : Type 0
Entities = FinMap name_cmp BakedEntity

-- an entity with this row in the section of this place
abbrev pub baked_entity : Place → List Cell → BakedEntity
baked_entity place row = record { place = place; row = row }
