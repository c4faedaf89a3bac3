-- Each write takes something of what is left.
use Rattle.std.proofs.Common.{length}
use Rattle.eb_outside.proofs.folder_shelf.write_all.Given as goal

abbrev pub decreases-loop-rest : goal.decreases-loop-rest
decreases-loop-rest g l = length l.rest
