use Rattle.std.proofs.Common.{◌≡◌, map, drop}
use Rattle.eb_rules.specs.Statements.{all_walks, walked}
use Rattle.eb_rules.proofs.statements.+walking.Given as goal

abbrev pub invariant-walk_all-loop-stmt : goal.invariant-walk_all-loop-stmt
invariant-walk_all-loop-stmt l = all_walks (map (walked l.ground) (drop l.stmt-index l.body)) l.done l.state l.rest ≡ all_walks (map (walked l.ground) l.body) l.fn.done l.fn.state l.fn.places
