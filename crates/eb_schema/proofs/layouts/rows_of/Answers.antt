use Rattle.std.proofs.Common.{◌/◌, min, ap, ◌∙◌}
use Rattle.eb_schema.specs.Layouts.{capacity}
use Rattle.eb_schema.proofs.layouts.rows_of.Goals as goal

pub returns-clause-value : goal.returns-clause-value
unfolding capacity
returns-clause-value c = c.min.ensures ∙ ap (λ b. min 128 (16384 / b)) c.requires.row
