use Rattle.std.proofs.lemmas.Result.{err_from_is_err_and}
use Rattle.eb_schema.proofs.MakingFacts.{goes_on, stops, ends}
use Rattle.eb_schema.proofs.making.each.Goals as goal

pub returns-in_err-make : goal.returns-in_err-make
returns-in_err-make g c =
    let p = err_from_is_err_and c.from_residual.result c.from_residual.ensures.1 in
    rw (p.1, p.2)
    (stops (g.M.Maker.makes c.args.maker.now) _ _ _ _ c.loop-index.invariant c.in_err-make.field-0.0 _ (rw c.drafts-draft-items.ensures at c.loop-index-test.true) (rw c.drafts-draft-items.ensures at c.draft-item.is)
    c.in_err-make.ensures)

pub loop-index-preserved : goal.loop-index-preserved
loop-index-preserved g c =
    rw c.in_ok-push.ensures.items
    (goes_on (g.M.Maker.makes c.args.maker.now) _ _ _ _ c.loop-index.invariant _ _ (rw c.drafts-draft-items.ensures at c.loop-index-test.true) (rw c.drafts-draft-items.ensures at c.draft-item.is) c.in_ok-make.ensures)

pub returns : goal.returns
returns g c = rw c.of.ensures (ends (g.M.Maker.makes c.args.maker.now) _ _ _ _ c.loop-index.invariant (rw c.drafts-draft-items.ensures at c.loop-index-test.false))
