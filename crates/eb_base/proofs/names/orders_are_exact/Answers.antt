use Rattle.eb_base.proofs.NameOrder.{names_total, exact_names, places_total, exact_places}
use Rattle.eb_base.proofs.names.orders_are_exact.Goals as goal

pub returns-clause-names : goal.returns-clause-names
returns-clause-names c = names_total

pub returns-clause-same_name : goal.returns-clause-same_name
returns-clause-same_name c = exact_names

pub returns-clause-places : goal.returns-clause-places
returns-clause-places c = places_total

pub returns-clause-same_place : goal.returns-clause-same_place
returns-clause-same_place c = exact_places
