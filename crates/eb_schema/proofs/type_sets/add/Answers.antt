use Rattle.std.proofs.Common.{ap, sym, ◌∙◌}
use Rattle.std.specs.Prelude.{is_ok}
use Rattle.eb_schema.proofs.TypeOrderFacts.{put_at, put_at_place, same_with}
use Rattle.eb_schema.proofs.type_sets.add.Goals as goal

pub returns-in-Ok-clause-ok : goal.returns-in-Ok-clause-ok
returns-in-Ok-clause-ok c = sym (same_with c.args.kind c.args.kinds.now (ap is_ok (sym (rw c.items.ensures at c.in-Ok.ensures.place))))

pub returns-in_ok-insert-in-Err-clause-ok : goal.returns-in_ok-insert-in-Err-clause-ok
returns-in_ok-insert-in-Err-clause-ok c =
    c.in_ok-insert-in-Err.ensures.ok
    ∙ ap (λ r. put_at (λ j. j) r c.args.kinds.now c.args.kind) (rw c.items.ensures at c.in-Err.ensures.place) ∙ put_at_place (λ j. j) c.args.kind c.args.kinds.now
