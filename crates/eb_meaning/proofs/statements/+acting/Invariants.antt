use Rattle.std.proofs.Common.{◌≡◌, drop}
use Rattle.eb_meaning.specs.Asks.{run}
use Rattle.eb_meaning.specs.Statements.{body_acts}
use Rattle.eb_meaning.proofs.statements.+acting.Given as goal

abbrev pub invariant-act_all-loop-step : goal.invariant-act_all-loop-step
invariant-act_all-loop-step g l =
    run (g.R.Reads.answers l.reads) (body_acts (g.R.Reads.sight l.reads) (drop l.step-index l.body) l.scope) l.noted ≡ run (g.R.Reads.answers l.reads) (body_acts (g.R.Reads.sight l.reads) l.body l.fn.scope) l.fn.noted
