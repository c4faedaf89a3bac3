use Rattle.std.proofs.Common.{rules, arith, ap, ◌∙◌}
use Rattle.std.proofs.lemmas.Grind.{common_steps}
use Rattle.eb_rule_text.specs.Reading.{below, enclosed, unary, level, links_from}
use Rattle.eb_rule_text.proofs.Atoms.{atom_marked, atom_literal}
use Rattle.eb_rule_text.proofs.Levels.{below_is}
use Rattle.eb_rule_text.proofs.Turns.{one_left, not_none}
use Rattle.eb_rule_text.proofs.exprs.+reading.Goals as goal

pub atom-returns-in-Some : goal.atom-returns-in-Some
atom-returns-in-Some t c = rw (atom_marked c.args.context c.args.depth (below c.args.context c.args.depth) c.args.tokens.now c.in-Some.mark (search rules)) (search rules)

pub atom-returns-in-None : goal.atom-returns-in-None
atom-returns-in-None t c = rw (atom_literal c.args.context c.args.depth (below c.args.context c.args.depth) c.args.tokens.now (search rules)) (search rules)

pub enclosed-returns : goal.enclosed-returns
unfolding enclosed
enclosed-returns t c = rw (below_is c.args.context c.args.depth (search rules)) (first_of (search rules, grind (arith, common_steps)))

pub level-returns-in_err-more : goal.level-returns-in_err-more
level-returns-in_err-more t c =
    rw (ap (λ n. level (unary c.args.context c.args.depth) n c.args.tokens.now) (not_none c.args.level_no (omega arith))) (first_of (search rules, grind (arith, common_steps)))

pub links-returns-in_default : goal.links-returns-in_default
links-returns-in_default t c =
    let turns = c.loop-turn.invariant ∙ ap (λ n. links_from (level (unary c.args.context c.args.depth) c.args.level_no) c.args.level_no n c.loop-turn.done c.loop-turn.tokens) (one_left _ c.loop-turn._turn c.loop-turn-test.true) in
    first_of (search rules, grind (arith, common_steps))

pub links-returns-in_err-right : goal.links-returns-in_err-right
links-returns-in_err-right t c =
    let turns = c.loop-turn.invariant ∙ ap (λ n. links_from (level (unary c.args.context c.args.depth) c.args.level_no) c.args.level_no n c.loop-turn.done c.loop-turn.tokens) (one_left _ c.loop-turn._turn c.loop-turn-test.true) in
    first_of (search rules, grind (arith, common_steps))

pub links-loop-turn-preserved : goal.links-loop-turn-preserved
links-loop-turn-preserved t c =
    let turns = c.loop-turn.invariant ∙ ap (λ n. links_from (level (unary c.args.context c.args.depth) c.args.level_no) c.args.level_no n c.loop-turn.done c.loop-turn.tokens) (one_left _ c.loop-turn._turn c.loop-turn-test.true) in
    first_of (search rules, grind (arith, common_steps))
