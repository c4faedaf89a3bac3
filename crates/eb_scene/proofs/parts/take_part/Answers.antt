use Rattle.std.proofs.Common.{ap, sym, ◌∙◌}
use Rattle.eb_scene.proofs.PartFacts.{in_range, removed, not_removed}
use Rattle.eb_scene.proofs.parts.take_part.Goals as goal

pub remove-requires : goal.remove-requires
remove-requires c = in_range _ c.args.kind _ (sym (rw c.items.ensures at c.in-Some.ensures))

pub returns-in-Some : goal.returns-in-Some
returns-in-Some c = ap (λ ps. record c.args.object.now { components = ps }) (c.remove.ensures.items ∙ removed _ c.args.kind _ (sym (rw c.items.ensures at c.in-Some.ensures)))

pub returns-in-None : goal.returns-in-None
returns-in-None c = ap (λ ps. record c.args.object.now { components = ps }) (sym (not_removed c.args.object.now.components c.args.kind (sym (rw c.items.ensures at c.in-None.ensures))))
