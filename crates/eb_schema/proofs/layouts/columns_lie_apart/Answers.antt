use Rattle.eb_schema.proofs.LayoutFacts.{lie_apart}
use Rattle.eb_schema.proofs.layouts.columns_lie_apart.Goals as goal

pub returns : goal.returns
returns c columns = lie_apart columns
