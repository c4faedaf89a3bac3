use Rattle.eb_eval.proofs.copying.copied_to.Goals as goal

pub returns-in_ok-copied_part-in-Some : goal.returns-in_ok-copied_part-in-Some
returns-in_ok-copied_part-in-Some c = rw (← c.in-Some.ensures.part, ← c.in_ok-push.ensures.ok, ← c.items-values.ensures) c.in_ok-copied_part-in-Some.ensures
