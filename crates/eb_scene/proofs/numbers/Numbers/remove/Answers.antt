use Rattle.std.proofs.Common.{ap, sym, ◌∙◌}
use Rattle.eb_scene.specs.Numbers.{without_number}
use Rattle.eb_scene.proofs.NumberFacts.{take_found, take_gap, sorted_without}
use Rattle.eb_scene.proofs.numbers.Numbers.remove.Goals as goal

pub invariant_of-self : goal.invariant_of-self
invariant_of-self c =
    rw (c.remove.ensures.items ∙ take_found _ c.args.number _ c.self.invariant (rw c.as_slice.ensures.value at c.in-Ok.ensures.place))
    (sorted_without c.args.number _ c.self.invariant)

pub returns-in-Ok-clause-removed : goal.returns-in-Ok-clause-removed
returns-in-Ok-clause-removed c =
    c.remove.ensures.items ∙ take_found _ c.args.number _ c.self.invariant (rw c.as_slice.ensures.value at c.in-Ok.ensures.place) ∙ ap (λ ks. without_number ks c.args.number) c.self.view_is

pub returns-in-Err-clause-removed : goal.returns-in-Err-clause-removed
returns-in-Err-clause-removed c =
    sym c.self.view_is ∙ take_gap _ c.args.number _ c.self.invariant (rw c.as_slice.ensures.value at c.in-Err.ensures.place) ∙ ap (λ ks. without_number ks c.args.number) c.self.view_is
