use Rattle.eb_schema.proofs.SchemaSound.{schema_sound}
use Rattle.eb_schema.proofs.schemas.Schema.read.Goals as goal

pub of-requires : goal.of-requires
of-requires c = schema_sound _ _ c.in_ok-lists.ensures
