use Rattle.std.proofs.Common.{sym}
use Rattle.eb_scene.proofs.IndexFacts.{lists_gone}
use Rattle.eb_scene.proofs.scenes.take_out.Goals as goal

pub returns-in-Some-clause-lists : goal.returns-in-Some-clause-lists
returns-in-Some-clause-lists c =
    rw c.take.ensures.taken
    (lists_gone c.args.number c.in-Some.object c.args.objects.now c.args.below.now _ c.requires (sym c.in-Some.ensures.found) c.unhang.ensures)
