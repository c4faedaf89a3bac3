use Rattle.std.proofs.Common.{rules}
use Rattle.eb_run.proofs.ToldFacts.{WhereTold-done}
use Rattle.eb_run.proofs.runs.run_within.Goals as goal

pub returns-in-Err-Limit : goal.returns-in-Err-Limit
returns-in-Err-Limit g c = record {
  headline = search rules;
  told = search rules;
  complete = λ faultless. WhereTold-done c.args.limits.now.lines c.args.limits.now.bytes 5 c.args.words.now (g.H.Shelf.files c.args.shelf.now) (g.H.Shelf.files c.outcome.new.shelf) (g.I.Source.left c.args.source.now) (g.I.Source.left c.outcome.new.source)
      (g.O.Sink.put c.args.sink.now) (g.O.Sink.put c.outcome.new.sink) (search rules);
  front = search rules;
  done = search rules;
  causes = search rules;
  words = search rules;
  no_form = search rules;
  refused = search rules;
  untouched = search rules;
  taken = search rules;
  names = search rules;
  range = search rules;
}
