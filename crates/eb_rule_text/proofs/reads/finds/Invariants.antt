use Rattle.std.proofs.Common.{◌≡◌, ◌-◌}
use Rattle.eb_rule_text.specs.Reading.{finds, finds_from}
use Rattle.eb_rule_text.proofs.reads.finds.Given as goal

abbrev pub invariant-loop-turn : goal.invariant-loop-turn
invariant-loop-turn l = finds l.context l.depth l.fn.tokens ≡ finds_from l.context l.depth (l._turn-end - l._turn) l.done l.tokens
