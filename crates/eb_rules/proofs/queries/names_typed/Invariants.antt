use Rattle.std.proofs.Common.{◌≡◌, ◌+◌, ◌≤◌, length, drop}
use Rattle.eb_rules.specs.Queries.{names_from}
use Rattle.eb_rules.proofs.queries.names_typed.Given as goal

abbrev pub invariant-loop-name : goal.invariant-loop-name
invariant-loop-name l =
    (names_from l.schema l.before (drop l.name-index l.names) l.done l.rest ≡ names_from l.schema l.before l.names l.fn.done l.fn.places) × (l.before + length l.done ≤ 32)
