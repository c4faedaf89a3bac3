use Rattle.std.proofs.Common.{◌≡◌, [], drop, true}
use Rattle.eb_rules.specs.Statements.{inits_from}
use Rattle.eb_rules.proofs.inits.inits_typed.Given as goal

abbrev pub invariant-loop-init : goal.invariant-loop-init
invariant-loop-init l = inits_from l.scope l.fields l.left l.first (drop l.init-index l.inits) l.done l.rest ≡ inits_from l.scope l.fields l.fields true l.inits [] l.fn.places
