use Rattle.std.specs.FinMap as map
use Rattle.eb_record.specs.Readers.{reads}
use Rattle.eb_record.specs.Records.{run_name}
use Rattle.eb_record.proofs.IndexFacts.{put_indexed, none_taken_indexed, put_and_taken, is_there}
use Rattle.eb_record.proofs.records.put_run.Goals as goal

pub returns-in-Ok-clause-index : goal.returns-in-Ok-clause-index
returns-in-Ok-clause-index c =
    rw (c.in-Ok.ensures.ok, c.in_ok-put.ensures.ok, c.run_name.ensures, is_there c.args.runs.now (run_name c.args.id) c.args.run)
    (put_indexed c.args.looks.now c.args.runs.now c.args.id c.args.run c.requires.index c.requires.new)

pub returns-in-Err-clause-index : goal.returns-in-Err-clause-index
returns-in-Err-clause-index c =
    rw (c.in-Err.ensures.err, c.take.ensures.taken, c.in_ok-put.ensures.ok, c.run_name.ensures, c.run_name-in-Err.ensures, put_and_taken c.args.runs.now (run_name c.args.id) c.args.run c.requires.new)
    (none_taken_indexed c.args.looks.now c.args.runs.now c.args.id (reads (map.get (map.insert c.args.runs.now (run_name c.args.id) c.args.run) (run_name c.args.id))) c.requires.index c.requires.new)

pub returns-in-Err-clause-err : goal.returns-in-Err-clause-err
returns-in-Err-clause-err c =
    rw (c.take.ensures.taken, c.in_ok-put.ensures.ok, c.run_name.ensures, c.run_name-in-Err.ensures) (put_and_taken c.args.runs.now (run_name c.args.id) c.args.run c.requires.new)
