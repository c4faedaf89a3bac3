-- what is written and what is left
use Rattle.std.proofs.Common.{◌≡◌, ◌++◌, drop, flat_map}
use Rattle.std.specs.FinMap as finite
use Rattle.eb_query.specs.Pieces.{match_of}
use Rattle.eb_query.proofs.queries.Query.put_matches.Given as goal

abbrev pub invariant-loop-name : goal.invariant-loop-name
invariant-loop-name l =
    l.out.items ++ flat_map (λ name. match_of l.self l.schema name (finite.get l.world.live name)) (drop l.name-index l.names)
    ≡ l.fn.out.items ++ flat_map (λ name. match_of l.self l.schema name (finite.get l.world.live name)) l.names
