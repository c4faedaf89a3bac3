use Rattle.eb_query.proofs.LineFacts.{lists_all}
use Rattle.eb_query.proofs.queries.the_empty_query_lists_all.Goals as goal

pub returns : goal.returns
returns c types live = lists_all types live
