use Rattle.eb_record.specs.Records.{run_name}
use Rattle.eb_record.proofs.IndexFacts.{is_there, others_put}
use Rattle.eb_record.proofs.laws.others_stay_where_one_is_put.Goals as goal

pub returns-clause-new : goal.returns-clause-new
returns-clause-new c = λ kept id run. is_there kept (run_name id) run

pub returns-clause-others : goal.returns-clause-others
returns-clause-others c = others_put
