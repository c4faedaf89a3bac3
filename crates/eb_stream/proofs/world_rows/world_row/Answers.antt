use Rattle.eb_stream.proofs.LoadFacts.{IsRow-stored}
use Rattle.eb_stream.proofs.world_rows.world_row.Goals as goal

pub of-requires : goal.of-requires
of-requires c = rw c.in_ok-cells.ensures (IsRow-stored c.args.stored.now c.requires)
