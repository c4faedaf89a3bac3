use Rattle.std.proofs.Common.{◌≡◌, drop}
use Rattle.eb_rules.specs.Statements.{adds_typed}
use Rattle.eb_rules.proofs.adds.adds_typed.Given as goal

abbrev pub invariant-loop-add : goal.invariant-loop-add
invariant-loop-add l = adds_typed l.ground l.known (drop l.add-index l.adds) l.done l.types l.rest ≡ adds_typed l.ground l.known l.adds l.fn.done l.fn.types l.fn.places
