use Rattle.std.proofs.Common.{rules, arith, ap, ◌∙◌}
use Rattle.std.proofs.lemmas.Grind.{common_steps}
use Rattle.eb_rule_text.specs.Input.{until_brace}
use Rattle.eb_rule_text.specs.Blocks.{one_stmt, inner_stmt}
use Rattle.eb_rule_text.proofs.Levels.{inner_stmt_is, stmt_is}
use Rattle.eb_rule_text.proofs.Turns.{one_left}
use Rattle.eb_rule_text.proofs.blocks.+stating.Goals as goal

pub block-returns-then-eat : goal.block-returns-then-eat
block-returns-then-eat t c =
    let turns = c.loop-turn.invariant ∙ ap (λ n. until_brace (inner_stmt c.args.context c.args.depth) n c.loop-turn.done c.loop-turn.tokens) (one_left _ c.loop-turn._turn c.loop-turn-test.true) in
    let deeper = inner_stmt_is c.args.context c.args.depth (search rules) in
    first_of (search rules, grind (arith, common_steps))

pub block-returns-in_err-one : goal.block-returns-in_err-one
block-returns-in_err-one t c =
    let turns = c.loop-turn.invariant ∙ ap (λ n. until_brace (inner_stmt c.args.context c.args.depth) n c.loop-turn.done c.loop-turn.tokens) (one_left _ c.loop-turn._turn c.loop-turn-test.true) in
    let deeper = inner_stmt_is c.args.context c.args.depth (search rules) in
    first_of (search rules, grind (arith, common_steps))

pub block-loop-turn-preserved : goal.block-loop-turn-preserved
block-loop-turn-preserved t c =
    let turns = c.loop-turn.invariant ∙ ap (λ n. until_brace (inner_stmt c.args.context c.args.depth) n c.loop-turn.done c.loop-turn.tokens) (one_left _ c.loop-turn._turn c.loop-turn-test.true) in
    let deeper = inner_stmt_is c.args.context c.args.depth (search rules) in
    first_of (search rules, grind (arith, common_steps))

pub stmt-returns-in-Some-Let : goal.stmt-returns-in-Some-Let
unfolding one_stmt
stmt-returns-in-Some-Let t c = rw (stmt_is c.args.context c.args.depth) (first_of (search rules, grind (arith, common_steps)))

pub stmt-returns-in-Some-Extra : goal.stmt-returns-in-Some-Extra
unfolding one_stmt
stmt-returns-in-Some-Extra t c = rw (stmt_is c.args.context c.args.depth) (first_of (search rules, grind (arith, common_steps)))

pub stmt-returns-in_default : goal.stmt-returns-in_default
unfolding one_stmt
stmt-returns-in_default t c = rw (stmt_is c.args.context c.args.depth) (first_of (search rules, grind (arith, common_steps)))
