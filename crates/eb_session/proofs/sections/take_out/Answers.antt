use Rattle.std.proofs.Common.{◌∙◌}
use Rattle.eb_stream.proofs.SectionFacts.{unloaded_all}
use Rattle.eb_session.specs.Images.{the_place}
use Rattle.eb_session.proofs.sections.take_out.Goals as goal

pub returns-clause-empty : goal.returns-clause-empty
returns-clause-empty c = c.unload.ensures.live ∙ unloaded_all c.args.world.now.live the_place c.requires
