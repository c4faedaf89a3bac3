use Rattle.eb_base.proofs.NameOrder.{names_total, exact_names}
use Rattle.eb_schema.proofs.EntityMaps.{put_here, put_elsewhere, taken_here, taken_elsewhere}
use Rattle.eb_schema.proofs.baked.entities_are_found.Goals as goal

pub returns-clause-put : goal.returns-clause-put
returns-clause-put c all name e = put_here names_total all name e

pub returns-clause-taken : goal.returns-clause-taken
returns-clause-taken c all name = taken_here names_total all name

pub returns-clause-put_others : goal.returns-clause-put_others
returns-clause-put_others c all name other e apart = put_elsewhere names_total exact_names all name other e apart

pub returns-clause-taken_others : goal.returns-clause-taken_others
returns-clause-taken_others c all name other apart = taken_elsewhere names_total exact_names all name other apart
