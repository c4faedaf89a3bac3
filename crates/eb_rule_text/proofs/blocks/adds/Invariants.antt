use Rattle.std.proofs.Common.{◌≡◌, ◌-◌}
use Rattle.eb_rule_text.specs.Input.{until_brace}
use Rattle.eb_rule_text.specs.Blocks.{adds, inner_add}
use Rattle.eb_rule_text.proofs.blocks.adds.Given as goal

abbrev pub invariant-loop-turn : goal.invariant-loop-turn
invariant-loop-turn l = adds l.context l.depth l.fn.tokens ≡ until_brace (inner_add l.context l.depth) (l._turn-end - l._turn) l.done l.tokens
