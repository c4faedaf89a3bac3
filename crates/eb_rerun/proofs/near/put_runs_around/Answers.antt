use Rattle.std.proofs.Common.{◌++◌, map, arith}
use Rattle.eb_eval.specs.Runs.{all_bakers, id_of, most_bakers}
use Rattle.eb_rerun.proofs.NearLists.{all_put, one_put}
use Rattle.eb_rerun.proofs.near.put_runs_around.Goals as goal

pub loop-baker-preserved : goal.loop-baker-preserved
loop-baker-preserved c =
    let a = c.args in
    one_put (id_of a.scene a.object) c.loop-baker.out c.push.new.self (a.out.now ++ map (id_of a.scene a.object) all_bakers) c.loop-baker.baker most_bakers
    (omega (arith, c.loop-baker-test.true, c.most_bakers-baker-end.ensures)) c.loop-baker.invariant c.in_ok-push.ensures.ok

pub returns : goal.returns
returns c =
    let a = c.args in
    all_put (id_of a.scene a.object) c.loop-baker.out (a.out.now ++ map (id_of a.scene a.object) all_bakers) c.loop-baker.baker most_bakers
    (omega (arith, c.loop-baker-test.false, c.most_bakers-baker-end.ensures)) c.loop-baker.invariant
