use Rattle.std.proofs.Common.{sym}
use Rattle.eb_record.proofs.IndexFacts.{taken_indexed, none_taken}
use Rattle.eb_record.proofs.records.take_run.Goals as goal

pub returns-in-Some-clause-index : goal.returns-in-Some-clause-index
returns-in-Some-clause-index c =
    rw (c.take_all.ensures, c.take.ensures.taken, c.keys.ensures, c.run_name.ensures)
    (taken_indexed c.args.looks.now c.args.runs.now c.args.id c.in-Some.run' c.requires (rw c.run_name.ensures at (sym c.in-Some.ensures.before)))

pub returns-in-None-clause-index : goal.returns-in-None-clause-index
returns-in-None-clause-index c =
    rw (c.take.ensures.taken, none_taken c.args.runs.now c.run_name.result (sym c.in-None.ensures.before)) c.requires
