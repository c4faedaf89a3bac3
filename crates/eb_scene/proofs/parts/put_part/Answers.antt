use Rattle.std.proofs.Common.{ap, ◌∙◌}
use Rattle.eb_scene.proofs.PartFacts.{place_in, gap_in, put_found, put_gap}
use Rattle.eb_scene.proofs.parts.put_part.Goals as goal

pub set-requires : goal.set-requires
set-requires c = place_in _ c.args.part.kind _ (rw c.items.ensures at c.in-Ok.ensures)

pub insert-requires : goal.insert-requires
insert-requires c = gap_in _ c.args.part.kind _ (rw c.items.ensures at c.in-Err.ensures)

pub returns-in-Ok-clause-ok : goal.returns-in-Ok-clause-ok
returns-in-Ok-clause-ok c = ap (λ ps. record c.args.object.now { components = ps }) (c.set.ensures ∙ put_found _ c.args.part _ (rw c.items.ensures at c.in-Ok.ensures))

pub returns-in_ok-insert-in-Err-clause-ok : goal.returns-in_ok-insert-in-Err-clause-ok
returns-in_ok-insert-in-Err-clause-ok c =
    ap (λ ps. record c.args.object.now { components = ps }) (c.in_ok-insert-in-Err.ensures.ok ∙ put_gap _ c.args.part _ (rw c.items.ensures at c.in-Err.ensures))
