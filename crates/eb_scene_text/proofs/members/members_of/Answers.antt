use Rattle.std.proofs.lemmas.Result.{err_from_is_err_and}
use Rattle.eb_scene_text.proofs.MemberFacts.{goes_on, stops, ends}
use Rattle.eb_scene_text.proofs.members.members_of.Goals as goal

pub returns-in_err-read : goal.returns-in_err-read
returns-in_err-read g c =
    let p = err_from_is_err_and c.from_residual.result c.from_residual.ensures.1 in
    rw (p.1, p.2)
    (stops (g.F.MemberForm.reads c.args.form.now) _ _ _ c.in_err-read.field-0.0 _ _ _ (rw c.as_str.ensures.value at c.in_err-read.ensures) (rw c.in-Some.ensures.steps at c.loop-key.invariant))

pub loop-key-preserved : goal.loop-key-preserved
loop-key-preserved g c =
    rw (c.in_ok-push.ensures.items, c.after-next.ensures)
    (goes_on (g.F.MemberForm.reads c.args.form.now) _ _ _ _ _ _ _ (rw c.as_str.ensures.value at c.in_ok-read.ensures) (rw c.in-Some.ensures.steps at c.loop-key.invariant))

pub returns : goal.returns
returns g c = ends (g.F.MemberForm.reads c.args.form.now) _ _ _ (rw c.in-None.ensures.steps.0 at c.loop-key.invariant)
