use Rattle.std.proofs.Common.{◌≡◌, drop, None}
use Rattle.eb_rules.specs.Typing.{innermost}
use Rattle.eb_rules.proofs.finds.innermost.Given as goal

abbrev pub invariant-loop-find : goal.invariant-loop-find
invariant-loop-find l = innermost l.shape (drop l.find-index l.finds) l.found ≡ innermost l.shape l.finds None
