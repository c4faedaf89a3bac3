use Rattle.eb_merge.proofs.LowestFacts.{lowest}
use Rattle.eb_merge.proofs.laws.the_lowest_stands.Goals as goal

pub returns : goal.returns
returns c = lowest
