use Rattle.std.proofs.Common.{◌≡◌, ◌++◌, drop}
use Rattle.eb_system.specs.Wanted.{body_wants}
use Rattle.eb_system.proofs.wanted.+gathering.Given as goal

-- those so far, and those that are left
abbrev pub invariant-steps_want-loop-step : goal.invariant-steps_want-loop-step
invariant-steps_want-loop-step l = l.out ++ body_wants (drop l.step-index l.body) ≡ l.fn.out ++ body_wants l.fn.body
