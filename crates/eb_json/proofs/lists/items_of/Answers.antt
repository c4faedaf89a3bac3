use Rattle.std.proofs.lemmas.Result.{err_from_is_err_and}
use Rattle.eb_json.proofs.FormFacts.{goes_on, stops, ends}
use Rattle.eb_json.proofs.lists.items_of.Goals as goal

pub returns-in_err-read : goal.returns-in_err-read
returns-in_err-read g c =
    let p = err_from_is_err_and c.from_residual.result c.from_residual.ensures.1 in
    rw (p.1, p.2) (stops (g.F.Form.reads c.args.form.now) _ _ _ _ _ c.in_err-read.field-0.0 _ c.loop-value-test.true c.value-item.is c.in_err-read.ensures c.loop-value.invariant)

pub loop-value-preserved : goal.loop-value-preserved
loop-value-preserved g c =
    rw (c.in_ok-push.ensures.items, c.after-next.ensures)
    (goes_on (g.F.Form.reads c.args.form.now) _ _ _ _ _ _ _ c.loop-value-test.true c.value-item.is c.in_ok-read.ensures c.loop-value.invariant)

pub returns : goal.returns
returns g c = ends (g.F.Form.reads c.args.form.now) _ _ _ _ _ c.loop-value-test.false c.loop-value.invariant
