use Rattle.std.proofs.Common.{rules, not, ap, ◌∙◌}
use Rattle.std.proofs.lemmas.Fn.{filter_same}
use Rattle.eb_scene.specs.Numbers.{has_number, without_numbers}
use Rattle.eb_scene.proofs.Removing.{sorted_left}
use Rattle.eb_scene.proofs.numbers.Numbers.remove_many.Goals as goal

pub invariant_of-self : goal.invariant_of-self
invariant_of-self c =
    rw (filter_same _ (λ n. not (has_number c.args.gone.now n)) _ (λ x b f k. search (rules, c.requires)) _ _ c.retain.ensures.filtered) (sorted_left _ c.args.gone.now c.self.invariant)

pub returns-clause-removed : goal.returns-clause-removed
returns-clause-removed c = filter_same _ (λ n. not (has_number c.args.gone.now n)) _ (λ x b f k. search (rules, c.requires)) _ _ c.retain.ensures.filtered ∙ ap (λ ks. without_numbers ks c.args.gone.now) c.self.view_is
