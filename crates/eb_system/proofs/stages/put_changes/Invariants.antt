use Rattle.std.proofs.Common.{◌≡◌}
use Rattle.std.specs.List.{fold}
use Rattle.eb_system.specs.Stages.{with_change}
use Rattle.eb_system.proofs.stages.put_changes.Given as goal

-- the changes so far
abbrev pub invariant-loop-change : goal.invariant-loop-change
invariant-loop-change l = l.entities ≡ fold with_change l.fn.entities l.yielded
