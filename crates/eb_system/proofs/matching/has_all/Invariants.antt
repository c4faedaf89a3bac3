use Rattle.std.proofs.Common.{◌≡◌, drop}
use Rattle.std.specs.List.{list_all}
use Rattle.eb_system.specs.Matching.{has}
use Rattle.eb_system.proofs.matching.has_all.Given as goal

-- all before are there
abbrev pub invariant-loop-kind : goal.invariant-loop-kind
invariant-loop-kind l = list_all (has l.row) (drop l.kind-index l.kinds) ≡ list_all (has l.fn.row) l.fn.kinds
