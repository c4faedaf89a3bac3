use Rattle.std.proofs.Common.{arith}
use Rattle.eb_file.proofs.NumberRows.{valid_empty}
use Rattle.world_tests.proofs.files.empty_file.Goals as goal

pub encode-requires-clause-valid : goal.encode-requires-clause-valid
encode-requires-clause-valid c = rw c.new.ensures (valid_empty c.in_ok-schema.schema (record { scene = c.args.scene; section = c.args.section }) (omega arith) (omega arith) (omega arith))
