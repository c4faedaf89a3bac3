use Rattle.std.proofs.Common.{ap, ◌∙◌}
use Rattle.std.specs.FinMap as map
use Rattle.eb_record.specs.Records.{run_name}
use Rattle.eb_record.proofs.IndexFacts.{is_gone, taken_and_put}
use Rattle.eb_record.proofs.records.Record.put.Goals as goal

pub put_run-requires-clause-new : goal.put_run-requires-clause-new
put_run-requires-clause-new c = rw c.take_run.ensures.taken (is_gone c.self.inside.runs (run_name c.args.id))

pub returns-clause-ok : goal.returns-clause-ok
returns-clause-ok c =
    c.in_ok-put_run.ensures.ok
    ∙ ap (λ m. map.insert m (run_name c.args.id) c.args.run) c.take_run.ensures.taken
    ∙ taken_and_put c.self.inside.runs (run_name c.args.id) c.args.run
    ∙ ap (λ m. map.insert m (run_name c.args.id) c.args.run) c.self.view_is
