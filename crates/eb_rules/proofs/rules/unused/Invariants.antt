use Rattle.std.proofs.Common.{◌≡◌}
use Rattle.eb_rules.specs.Queries.{unused}
use Rattle.eb_rules.proofs.rules.unused.Given as goal

abbrev pub invariant-loop-at : goal.invariant-loop-at
invariant-loop-at g l = l.slots ≡ unused l._at
