use Rattle.std.proofs.Common.{◌≡◌, ◌++◌, flat_map, drop}
use Rattle.eb_system.specs.Wanted.{addition_wants}
use Rattle.eb_system.proofs.wanted.additions_want.Given as goal

-- those so far, and those that are left
abbrev pub invariant-loop-addition : goal.invariant-loop-addition
invariant-loop-addition l = l.out ++ flat_map addition_wants (drop l.addition-index l.additions) ≡ l.fn.out ++ flat_map addition_wants l.fn.additions
