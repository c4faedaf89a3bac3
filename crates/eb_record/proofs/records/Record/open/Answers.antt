use Rattle.eb_record.proofs.IndexFacts.{none_indexed}
use Rattle.eb_record.proofs.records.Record.open.Goals as goal

pub invariant_of-result : goal.invariant_of-result
invariant_of-result c = rw (c.new-2.ensures, c.new.ensures) none_indexed
