use Rattle.eb_stream.proofs.SectionFacts.{unloaded_all}
use Rattle.eb_stream.proofs.laws.nothing_else_lives.Goals as goal

pub returns : goal.returns
returns c live place all = unloaded_all live place all
