use Rattle.std.proofs.Common.{[], ap, sym, subst, ◌∙◌, ◌≡◌, true}
use Rattle.eb_world.specs.Tables.{names_in}
use Rattle.eb_world.specs.Worlds.{is_among}
use Rattle.eb_world.proofs.Dropping.{all_dropped}
use Rattle.eb_world.proofs.worlds.drop_section.Goals as goal

pub returns-in-Some-clause-beings : goal.returns-in-Some-clause-beings
returns-in-Some-clause-beings c =
    c.drop_each.ensures.beings
    ∙ all_dropped c.args.place _ c.args.beings.now.map (λ q h.
    subst (λ ns. is_among ns q ≡ true) (sym (c.items.ensures ∙ ap names_in c.in-Some.ensures.taken)) (c.requires.listed q h))

pub returns-in_default-clause-beings : goal.returns-in_default-clause-beings
returns-in_default-clause-beings c =
    all_dropped c.args.place [] c.args.beings.now.map (λ q h. subst (λ ns. is_among ns q ≡ true) (sym (ap names_in c.in_default.ensures.taken)) (c.requires.listed q h))
