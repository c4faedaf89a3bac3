use Rattle.std.proofs.Common.{rules}
use Rattle.eb_system.proofs.TypeFacts.{none_sorted}
use Rattle.eb_system.proofs.filling.fill.Goals as goal

pub loop-cell-init : goal.loop-cell-init
loop-cell-init c = record { so_far = search rules; order = rw c.new-left.ensures none_sorted }
