use Rattle.std.proofs.Common.{◌≡◌, ◌+◌, ◌-◌, ◌*◌}
use Rattle.eb_rule_text.specs.Reading.{unary, level, links, links_from}
use Rattle.eb_rule_text.proofs.exprs.+reading.Given as goal

abbrev pub decreases-level : goal.decreases-level
decreases-level l = 20 * l.depth + 8 + 2 * l.level_no

abbrev pub decreases-links : goal.decreases-links
decreases-links l = 20 * l.depth + 9 + 2 * l.level_no

abbrev pub decreases-signed : goal.decreases-signed
decreases-signed l = 20 * l.depth + 7

abbrev pub decreases-under : goal.decreases-under
decreases-under l = 20 * l.depth + 6

abbrev pub decreases-prim : goal.decreases-prim
decreases-prim l = 20 * l.depth + 6

abbrev pub decreases-atom : goal.decreases-atom
decreases-atom l = 20 * l.depth + 5

abbrev pub decreases-marked : goal.decreases-marked
decreases-marked l = 20 * l.depth + 4

abbrev pub decreases-enclosed : goal.decreases-enclosed
decreases-enclosed l = 20 * l.depth + 3

abbrev pub invariant-links-loop-turn : goal.invariant-links-loop-turn
invariant-links-loop-turn l =
    links (level (unary l.context l.depth) l.level_no) l.level_no l.fn.tokens ≡ links_from (level (unary l.context l.depth) l.level_no) l.level_no (l._turn-end - l._turn) l.done l.tokens
