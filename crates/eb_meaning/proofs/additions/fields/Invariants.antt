use Rattle.std.proofs.Common.{◌≡◌, [], drop}
use Rattle.eb_meaning.specs.Asks.{run}
use Rattle.eb_meaning.specs.Statements.{fields}
use Rattle.eb_meaning.proofs.additions.fields.Given as goal

abbrev pub invariant-loop-filling : goal.invariant-loop-filling
invariant-loop-filling g l =
    run (g.R.Reads.answers l.reads) (fields (g.R.Reads.sight l.reads) l.names (drop l.filling-index l.fillings) l.values) l.noted ≡ run (g.R.Reads.answers l.reads) (fields (g.R.Reads.sight l.reads) l.names l.fillings []) l.fn.noted
