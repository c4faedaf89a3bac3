use Rattle.std.proofs.Common.{◌≡◌, ◌+◌, ◌-◌, ◌*◌}
use Rattle.eb_rule_text.specs.Input.{until_brace}
use Rattle.eb_rule_text.specs.Blocks.{block, inner_stmt}
use Rattle.eb_rule_text.proofs.blocks.+stating.Given as goal

abbrev pub decreases-stmt : goal.decreases-stmt
decreases-stmt l = 4 * l.depth + 3

abbrev pub decreases-if_stmt : goal.decreases-if_stmt
decreases-if_stmt l = 4 * l.depth + 2

abbrev pub decreases-otherwise : goal.decreases-otherwise
decreases-otherwise l = 4 * l.depth + 1

abbrev pub decreases-block : goal.decreases-block
decreases-block l = 4 * l.depth

abbrev pub invariant-block-loop-turn : goal.invariant-block-loop-turn
invariant-block-loop-turn l = block l.context l.depth (inner_stmt l.context l.depth) l.fn.tokens ≡ until_brace (inner_stmt l.context l.depth) (l._turn-end - l._turn) l.done l.tokens
