use Rattle.std.proofs.Common.{◌≡◌, drop}
use Rattle.std.specs.List.{fold}
use Rattle.eb_system.specs.Stages.{after_slot, staged}
use Rattle.eb_system.proofs.stages.run_all.Given as goal

-- the systems that are left do the rest
abbrev pub invariant-loop-slot : goal.invariant-loop-slot
invariant-loop-slot l = fold after_slot l.stages (drop l.slot-index l.slot-items) ≡ staged l.fn.rules l.fn.merged
