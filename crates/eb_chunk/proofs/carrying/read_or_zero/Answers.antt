use Rattle.eb_chunk.proofs.carrying.read_or_zero.Goals as goal

pub read_slot-requires-clause-columns : goal.read_slot-requires-clause-columns
read_slot-requires-clause-columns c = (c.requires.column c.in-Some.column c.in-Some.is).0
