use Rattle.std.proofs.Common.{◌≡◌, drop}
use Rattle.std.specs.List.{list_any}
use Rattle.eb_system.specs.Matching.{has}
use Rattle.eb_system.proofs.matching.has_any.Given as goal

-- none before is there
abbrev pub invariant-loop-kind : goal.invariant-loop-kind
invariant-loop-kind l = list_any (has l.row) (drop l.kind-index l.kinds) ≡ list_any (has l.fn.row) l.fn.kinds
