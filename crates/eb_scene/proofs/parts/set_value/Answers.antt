use Rattle.std.proofs.Common.{ap, sym, ◌∙◌, arith, length}
use Rattle.std.specs.Prelude.{slice_set}
use Rattle.eb_scene.proofs.PartFacts.{in_range, revalued, set_at, not_set}
use Rattle.eb_scene.proofs.parts.set_value.Goals as goal

pub index_mut-requires : goal.index_mut-requires
index_mut-requires c =
    let same = ap length (c.into_vec-parts.ensures ∙ c.replace.ensures.value) in
    omega (arith, same, in_range c.args.object.now.components c.args.kind c.in-Some.at (sym (rw c.items.ensures at c.in-Some.ensures)))

pub returns-in-Some : goal.returns-in-Some
returns-in-Some c =
    let same = c.into_vec-parts.ensures ∙ c.replace.ensures.value in
    let ps = c.args.object.now.components in
    let part = rw same at c.index_mut.ensures.value in
    ap (λ qs. record c.args.object.now { components = qs }) (c.of.ensures ∙ rw (same, c.set_item.ensures)
    (ap (λ p. slice_set ps c.in-Some.at (revalued c.args.place c.args.value p)) part
    ∙ set_at ps c.args.kind c.in-Some.at c.args.place c.args.value _ (sym (rw c.items.ensures at c.in-Some.ensures))))

pub returns-in-None : goal.returns-in-None
returns-in-None c = ap (λ ps. record c.args.object.now { components = ps }) (sym (not_set c.args.object.now.components c.args.kind c.args.place c.args.value (sym (rw c.items.ensures at c.in-None.ensures))))
