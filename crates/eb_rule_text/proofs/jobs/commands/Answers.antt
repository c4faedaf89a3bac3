use Rattle.std.proofs.Common.{rules, arith, ap, ◌∙◌}
use Rattle.std.proofs.lemmas.Grind.{common_steps}
use Rattle.eb_rule_text.specs.Input.{until_brace}
use Rattle.eb_rule_text.specs.Blocks.{command}
use Rattle.eb_rule_text.proofs.Turns.{one_left}
use Rattle.eb_rule_text.proofs.jobs.commands.Goals as goal

pub returns-then-eat : goal.returns-then-eat
returns-then-eat c =
    let turns = c.loop-turn.invariant ∙ ap (λ n. until_brace (command 31) n c.loop-turn.done c.loop-turn.tokens) (one_left _ c.loop-turn._turn c.loop-turn-test.true) in
    first_of (search rules, grind (arith, common_steps))

pub returns-in_err-one : goal.returns-in_err-one
returns-in_err-one c =
    let turns = c.loop-turn.invariant ∙ ap (λ n. until_brace (command 31) n c.loop-turn.done c.loop-turn.tokens) (one_left _ c.loop-turn._turn c.loop-turn-test.true) in
    first_of (search rules, grind (arith, common_steps))

pub loop-turn-preserved : goal.loop-turn-preserved
loop-turn-preserved c =
    let turns = c.loop-turn.invariant ∙ ap (λ n. until_brace (command 31) n c.loop-turn.done c.loop-turn.tokens) (one_left _ c.loop-turn._turn c.loop-turn-test.true) in
    first_of (search rules, grind (arith, common_steps))
