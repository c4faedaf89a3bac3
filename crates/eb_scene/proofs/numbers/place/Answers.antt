use Rattle.eb_scene.proofs.NumberFacts.{found_place}
use Rattle.eb_scene.proofs.numbers.place.Goals as goal

pub returns-clause-place : goal.returns-clause-place
returns-clause-place c = found_place _ _ _ c.requires c.binary_search.ensures.bound c.binary_search.ensures.position
