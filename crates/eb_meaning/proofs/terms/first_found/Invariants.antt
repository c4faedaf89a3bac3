use Rattle.std.proofs.Common.{◌≡◌, drop}
use Rattle.eb_meaning.specs.Asks.{run}
use Rattle.eb_meaning.specs.Meaning.{first_found}
use Rattle.eb_meaning.proofs.terms.first_found.Given as goal

abbrev pub invariant-loop-find : goal.invariant-loop-find
invariant-loop-find g l =
    run (g.R.Reads.answers l.reads) (first_found (g.R.Reads.sight l.reads) (drop l.find-index l.finds)) l.noted ≡ run (g.R.Reads.answers l.reads) (first_found (g.R.Reads.sight l.reads) l.finds) l.fn.noted
