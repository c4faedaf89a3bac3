use Rattle.std.proofs.Common.{ap, ◌∙◌}
use Rattle.std.proofs.lemmas.Result.{err_from_is_err_and}
use Rattle.eb_record.specs.Readers.{without_looks}
use Rattle.eb_record.proofs.IndexFacts.{some_gone}
use Rattle.eb_record.proofs.looks.Looks.put_some.Goals as goal

pub returns-in_err-put-clause-err : goal.returns-in_err-put-clause-err
returns-in_err-put-clause-err c =
    let p = err_from_is_err_and c.from_residual.result c.from_residual.ensures.1 in
    rw p.1 (ap (λ m. without_looks c.args.id m c.args.keys.now) (c.in_err-put.ensures.err ∙ c.loop-key.invariant)
    ∙ some_gone c.args.id c.args.keys.now c.loop-key.key-index c.args.self.now)
