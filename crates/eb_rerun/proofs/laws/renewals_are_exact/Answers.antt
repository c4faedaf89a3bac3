use Rattle.eb_rerun.proofs.Ascending.{run_count}
use Rattle.eb_rerun.proofs.Renewals.{again_is, renewed_is}
use Rattle.eb_rerun.proofs.laws.renewals_are_exact.Goals as goal

pub returns-clause-kept : goal.returns-clause-kept
returns-clause-kept c = renewed_is

pub returns-clause-again : goal.returns-clause-again
returns-clause-again c = again_is

pub returns-clause-count : goal.returns-clause-count
returns-clause-count c = run_count
