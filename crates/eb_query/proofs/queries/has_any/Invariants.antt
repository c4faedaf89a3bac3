-- what is left decides
use Rattle.std.proofs.Common.{◌≡◌, drop}
use Rattle.std.specs.List.{list_any}
use Rattle.eb_query.specs.Queries.{has}
use Rattle.eb_query.proofs.queries.has_any.Given as goal

abbrev pub invariant-loop-kind : goal.invariant-loop-kind
invariant-loop-kind l = list_any (has l.kinds) (drop l.kind-index l.wanted) ≡ list_any (has l.kinds) l.wanted
