use Rattle.serde_json.specs.View.{view}
use Rattle.eb_session.proofs.OpeningFacts.{read-keeps}
use Rattle.eb_session.proofs.opening.project_in.Goals as goal

pub returns-clause-schema : goal.returns-clause-schema
returns-clause-schema c = read-keeps c.args.schema.now (view c.in_ok-document.document) c.project_of.result c.project_of.ensures
