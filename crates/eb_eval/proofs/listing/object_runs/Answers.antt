use Rattle.std.proofs.Common.{arith}
use Rattle.eb_eval.specs.Runs.{most_bakers, object_runs}
use Rattle.eb_eval.proofs.RunLists.{runs_end, runs_onward}
use Rattle.eb_eval.proofs.listing.object_runs.Goals as goal

pub loop-baker-preserved : goal.loop-baker-preserved
loop-baker-preserved c =
    let a = c.args in
    runs_onward a.rules.now a.project.now a.scene a.object c.loop-baker.runs c.push_run.new.runs (object_runs a.rules.now a.project.now a.scene a.object) c.loop-baker.baker most_bakers
    (omega (arith, c.loop-baker-test.true, c.most_bakers-baker-end.ensures)) c.loop-baker.invariant c.in_ok-push_run.ensures

pub returns : goal.returns
returns c =
    let a = c.args in
    runs_end a.rules.now a.project.now a.scene a.object c.loop-baker.runs (object_runs a.rules.now a.project.now a.scene a.object) c.loop-baker.baker most_bakers
    (omega (arith, c.loop-baker-test.false, c.most_bakers-baker-end.ensures)) c.loop-baker.invariant
