use Rattle.eb_rules.proofs.Accepted.{rules_said, rules_plan_is, rules_few}
use Rattle.eb_rules.proofs.texts.rules_in.Goals as goal

pub kept-requires-clause-said : goal.kept-requires-clause-said
kept-requires-clause-said c =
    (c.args.text.now, rules_said c.args.schema.now c.args.text.now c.in-Ok.placed.tree c.in-Ok.placed.places _ c.in-Ok.ensures (rw (c.items.ensures, c.as_slice.ensures) at c.in-Ok-rules_typed.ensures))

pub kept-requires-clause-plan : goal.kept-requires-clause-plan
kept-requires-clause-plan c =
    rules_plan_is c.args.schema.now c.args.text.now c.in-Ok.placed.tree c.in-Ok.placed.places _ c.in-Ok.ensures (rw (c.items.ensures, c.as_slice.ensures) at c.in-Ok-rules_typed.ensures)

pub kept-requires-clause-many : goal.kept-requires-clause-many
kept-requires-clause-many c =
    rules_few c.args.schema.now c.args.text.now c.in-Ok.placed.tree c.in-Ok.placed.places _ c.in-Ok.ensures (rw (c.items.ensures, c.as_slice.ensures) at c.in-Ok-rules_typed.ensures)
