use Rattle.std.proofs.Common.{arith}
use Rattle.eb_schema.specs.Layouts.{row_bytes}
use Rattle.eb_schema.proofs.layouts.bytes_of.Goals as goal

pub loop-column-init : goal.loop-column-init
unfolding row_bytes
loop-column-init c = (omega arith, omega arith, omega arith)
