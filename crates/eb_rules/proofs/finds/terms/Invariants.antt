use Rattle.std.proofs.Common.{◌≡◌, ◌++◌, drop}
use Rattle.eb_rules.specs.Typing.{terms}
use Rattle.eb_rules.proofs.finds.terms.Given as goal

abbrev pub invariant-loop-find : goal.invariant-loop-find
invariant-loop-find l = l.done ++ terms (drop l.find-index l.finds) ≡ terms l.finds
