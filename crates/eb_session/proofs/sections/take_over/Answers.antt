use Rattle.std.proofs.Common.{◌∙◌}
use Rattle.eb_stream.proofs.SectionFacts.{unloaded_all}
use Rattle.eb_session.specs.Images.{the_place}
use Rattle.eb_session.proofs.sections.take_over.Goals as goal

pub bring_into_empty-requires-clause-empty : goal.bring_into_empty-requires-clause-empty
bring_into_empty-requires-clause-empty c = c.unload.ensures.live ∙ unloaded_all c.args.world.now.live the_place c.requires.of_section
