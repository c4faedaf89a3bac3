use Rattle.std.proofs.Common.{◌≡◌, [], ◌∙◌}
use Rattle.std.specs.Map.Iter.{deref_pair}
use Rattle.std.proofs.lemmas.Map.Iter.{rest_all}
use Rattle.eb_system.specs.Totals.{numbers}
use Rattle.eb_system.proofs.TotalFacts.{total_all}
use Rattle.eb_system.proofs.totals.scene_totals.Goals as goal

pub returns : goal.returns
returns c = λ s.
    let end : c.loop-name.name-iterator ≡ [] = (rest_all deref_pair c.loop-name.name-iterator c.next.new.self c.next.result c.in-None.is c.next.ensures.steps) in
    let sums = rw end at (c.loop-name.invariant s) in
    sums ∙ total_all (numbers c.args.entities.now s c.args.summed.now.kind c.args.summed.now.place)
