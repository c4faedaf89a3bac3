use Rattle.eb_meaning.proofs.Asking.{term_asks}
use Rattle.eb_meaning.proofs.AskingStatements.{body_asks, cell_asks}
use Rattle.eb_meaning.proofs.laws.reads_alone_ask.Goals as goal

pub returns-clause-expressions : goal.returns-clause-expressions
returns-clause-expressions c = term_asks

pub returns-clause-additions : goal.returns-clause-additions
returns-clause-additions c = cell_asks

pub returns-clause-statements : goal.returns-clause-statements
returns-clause-statements c = body_asks
