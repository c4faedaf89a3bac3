use Rattle.std.proofs.Common.{◌≡◌, ◌+◌, Some, drop}
use Rattle.std.specs.FinMap as finite
use Rattle.eb_base.specs.declared.names.Name.{Name}
use Rattle.eb_base.specs.declared.names.Entity.{Entity}
use Rattle.eb_stream.specs.Loading.{with_rows, as_stored, Creates}
use Rattle.eb_stream.proofs.loading.create_all.Given as goal

-- there is room for just the rows that are left
abbrev pub invariant-loop-at : goal.invariant-loop-at
invariant-loop-at l = record {
  creates : Creates l.world (drop l.at l.stored) (drop l.at l.rows);
  live : with_rows as_stored l.world.live l.world.spare.tag (drop l.at l.stored) ≡ with_rows as_stored l.fn.world.live l.fn.world.spare.tag l.stored;
  made : l.world.made ≡ l.fn.world.made + l.at;
  types : l.world.types ≡ l.fn.world.types;
  handles : (name : Name) (entity : Entity) → finite.get l.fn.world.handles name ≡ Some entity → finite.get l.world.handles name ≡ Some entity;
}
