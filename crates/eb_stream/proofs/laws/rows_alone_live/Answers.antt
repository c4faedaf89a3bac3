use Rattle.eb_stream.proofs.SectionFacts.{found_first}
use Rattle.eb_stream.proofs.laws.rows_alone_live.Goals as goal

pub returns : goal.returns
returns c image name l numbers has = found_first image name l numbers has
