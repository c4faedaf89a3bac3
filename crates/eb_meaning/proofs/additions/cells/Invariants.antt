use Rattle.std.proofs.Common.{◌≡◌, [], drop}
use Rattle.eb_meaning.specs.Asks.{run}
use Rattle.eb_meaning.specs.Statements.{cells}
use Rattle.eb_meaning.proofs.additions.cells.Given as goal

abbrev pub invariant-loop-addition : goal.invariant-loop-addition
invariant-loop-addition g l =
    run (g.R.Reads.answers l.reads) (cells (g.R.Reads.sight l.reads) l.names (drop l.addition-index l.additions) l.made) l.noted ≡ run (g.R.Reads.answers l.reads) (cells (g.R.Reads.sight l.reads) l.names l.additions []) l.fn.noted
