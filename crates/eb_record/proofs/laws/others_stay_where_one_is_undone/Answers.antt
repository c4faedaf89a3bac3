use Rattle.eb_record.specs.Records.{run_name}
use Rattle.eb_record.proofs.IndexFacts.{is_gone, others_taken}
use Rattle.eb_record.proofs.laws.others_stay_where_one_is_undone.Goals as goal

pub returns-clause-none : goal.returns-clause-none
returns-clause-none c = λ kept id. is_gone kept (run_name id)

pub returns-clause-others : goal.returns-clause-others
returns-clause-others c = others_taken
