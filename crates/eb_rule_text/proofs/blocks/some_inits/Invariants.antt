use Rattle.std.proofs.Common.{◌≡◌, ◌-◌}
use Rattle.eb_rule_text.specs.Blocks.{some_inits, inits_from}
use Rattle.eb_rule_text.proofs.blocks.some_inits.Given as goal

abbrev pub invariant-loop-turn : goal.invariant-loop-turn
invariant-loop-turn l = some_inits l.context l.depth l.fn.tokens ≡ inits_from l.context l.depth (l._turn-end - l._turn) l.done l.tokens
