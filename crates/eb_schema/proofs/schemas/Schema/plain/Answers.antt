use Rattle.eb_schema.proofs.SchemaSound.{plain_sound}
use Rattle.eb_schema.proofs.schemas.Schema.plain.Goals as goal

pub of-requires : goal.of-requires
of-requires c = rw c.in_ok-lists.ensures plain_sound
