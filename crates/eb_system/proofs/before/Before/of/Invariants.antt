use Rattle.std.proofs.Common.{◌≡◌}
use Rattle.eb_system.proofs.before.Before.of.Given as goal

-- the entities stay
abbrev pub invariant-loop-summed : goal.invariant-loop-summed
invariant-loop-summed l = l.before ≡ l.entities
