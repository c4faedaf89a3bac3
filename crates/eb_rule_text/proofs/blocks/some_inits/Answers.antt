use Rattle.std.proofs.Common.{rules, arith, ap, ◌∙◌}
use Rattle.std.proofs.lemmas.Grind.{common_steps}
use Rattle.eb_rule_text.specs.Blocks.{inits_from}
use Rattle.eb_rule_text.proofs.Turns.{one_left}
use Rattle.eb_rule_text.proofs.blocks.some_inits.Goals as goal

pub loop-turn-preserved : goal.loop-turn-preserved
loop-turn-preserved c =
    let turns = c.loop-turn.invariant ∙ ap (λ n. inits_from c.args.context c.args.depth n c.loop-turn.done c.loop-turn.tokens) (one_left _ c.loop-turn._turn c.loop-turn-test.true) in
    first_of (search rules, grind (arith, common_steps))
