use Rattle.std.proofs.Common.{◌∙◌}
use Rattle.eb_scene.proofs.NumberFacts.{any_found}
use Rattle.eb_scene.proofs.numbers.has.Goals as goal

pub returns : goal.returns
returns c sorted = c.is_ok.ensures.value ∙ any_found c.args.list.now c.args.number c.binary_search.result c.binary_search.ensures.position sorted
