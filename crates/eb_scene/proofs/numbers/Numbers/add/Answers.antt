use Rattle.std.proofs.Common.{ap, sym, ◌∙◌}
use Rattle.eb_scene.specs.Numbers.{with_number}
use Rattle.eb_scene.proofs.NumberFacts.{put_found, put_gap, sorted_with_number}
use Rattle.eb_scene.proofs.numbers.Numbers.add.Goals as goal

pub invariant_of-self-in-Err : goal.invariant_of-self-in-Err
invariant_of-self-in-Err c =
    rw (c.in_ok-insert-in-Err.ensures.items ∙ put_gap _ c.args.number _ (rw c.as_slice.ensures.value at c.in-Err.ensures.place))
    (sorted_with_number c.args.number _ c.self.invariant)

pub returns-in-Ok-clause-ok : goal.returns-in-Ok-clause-ok
returns-in-Ok-clause-ok c =
    sym c.self.view_is ∙ put_found _ c.args.number _ (rw c.as_slice.ensures.value at c.in-Ok.ensures.place) ∙ ap (λ ks. with_number ks c.args.number) c.self.view_is

pub returns-in_ok-insert-in-Err-clause-ok : goal.returns-in_ok-insert-in-Err-clause-ok
returns-in_ok-insert-in-Err-clause-ok c =
    c.in_ok-insert-in-Err.ensures.items ∙ put_gap _ c.args.number _ (rw c.as_slice.ensures.value at c.in-Err.ensures.place) ∙ ap (λ ks. with_number ks c.args.number) c.self.view_is
