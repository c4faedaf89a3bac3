use Rattle.std.proofs.Common.{◌≡◌, drop}
use Rattle.eb_meaning.specs.Asks.{run}
use Rattle.eb_meaning.specs.Meaning.{chain_meaning}
use Rattle.eb_meaning.proofs.terms.+valuing.Given as goal

abbrev pub invariant-chain_value-loop-link : goal.invariant-chain_value-loop-link
invariant-chain_value-loop-link g l =
    run (g.R.Reads.answers l.reads) (chain_meaning (g.R.Reads.sight l.reads) (drop l.link-index l.more) l.names l.left) l.noted ≡ run (g.R.Reads.answers l.reads) (chain_meaning (g.R.Reads.sight l.reads) l.more l.names l.fn.first) l.fn.noted
