use Rattle.std.proofs.Common.{◌≡◌, drop}
use Rattle.eb_rules.specs.Typing.{finds_named}
use Rattle.eb_rules.proofs.finds.finds_named.Given as goal

abbrev pub invariant-loop-find : goal.invariant-loop-find
invariant-loop-find l = finds_named l.scope (drop l.find-index l.finds) l.done l.rest ≡ finds_named l.scope l.finds l.fn.done l.fn.places
