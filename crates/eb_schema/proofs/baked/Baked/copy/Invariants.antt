use Rattle.std.proofs.Common.{◌≡◌}
use Rattle.eb_schema.proofs.EntityMaps.{put_all}
use Rattle.eb_schema.proofs.baked.Baked.copy.Given as goal

-- what is left, put into what is there, makes the whole map
abbrev pub invariant-loop-name : goal.invariant-loop-name
invariant-loop-name l = put_all l.baked l.name-iterator ≡ l.self
