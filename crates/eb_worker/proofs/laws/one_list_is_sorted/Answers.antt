use Rattle.eb_worker.proofs.OneOrder.{one_sort}
use Rattle.eb_worker.proofs.laws.one_list_is_sorted.Goals as goal

pub returns : goal.returns
returns g c = one_sort g.E.Keyed.key_of (g.R.Recorder.lists c.args.recorder.now) (g.met.R.Recorder.numbered c.args.recorder.now)
