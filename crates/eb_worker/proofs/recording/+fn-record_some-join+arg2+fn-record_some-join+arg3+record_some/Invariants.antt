use Rattle.std.proofs.Common.{◌+◌, ◌*◌}
use Rattle.eb_worker.proofs.recording.+fn-record_some-join+arg2+fn-record_some-join+arg3+record_some.Given as goal

abbrev pub decreases-join+arg2 : goal.decreases-join+arg2
decreases-join+arg2 g l = 2 * l.rest + 1

abbrev pub decreases-join+arg3 : goal.decreases-join+arg3
decreases-join+arg3 g l = 2 * l.half + 1

abbrev pub decreases-record_some : goal.decreases-record_some
decreases-record_some g l = 2 * l.workers
