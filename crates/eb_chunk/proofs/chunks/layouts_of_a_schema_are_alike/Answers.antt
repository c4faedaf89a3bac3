use Rattle.eb_chunk.proofs.AlikeFacts.{alike}
use Rattle.eb_chunk.proofs.chunks.layouts_of_a_schema_are_alike.Goals as goal

pub returns : goal.returns
returns c types kinds others = alike types kinds others
