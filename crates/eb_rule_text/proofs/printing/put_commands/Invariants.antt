use Rattle.std.proofs.Common.{◌≡◌, ◌++◌, drop}
use Rattle.eb_rule_text.specs.Printing.{commands_text}
use Rattle.eb_rule_text.proofs.printing.put_commands.Given as goal

abbrev pub invariant-loop-command : goal.invariant-loop-command
invariant-loop-command l = l.out.items ++ commands_text (drop l.command-index l.commands) ≡ l.fn.out.items ++ commands_text l.commands
