use Rattle.std.proofs.Common.{◌≡◌, [], drop}
use Rattle.eb_rules.specs.Jobs.{commands_typed}
use Rattle.eb_rules.proofs.commands.commands_typed.Given as goal

abbrev pub invariant-loop-at : goal.invariant-loop-at
invariant-loop-at l = commands_typed l.schema l.all (drop l.at l.commands) l.at l.known l.done l.rest ≡ commands_typed l.schema l.all l.commands 0 [] [] l.places
