use Rattle.std.proofs.Common.{◌≡◌, ◌-◌}
use Rattle.eb_rule_text.specs.Input.{until_brace}
use Rattle.eb_rule_text.specs.Blocks.{commands, command}
use Rattle.eb_rule_text.proofs.jobs.commands.Given as goal

abbrev pub invariant-loop-turn : goal.invariant-loop-turn
invariant-loop-turn l = commands l.fn.tokens ≡ until_brace (command 31) (l._turn-end - l._turn) l.done l.tokens
