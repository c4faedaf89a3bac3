use Rattle.eb_schema.proofs.FoundTypes.{components_found, component_names_found, authoring_found, authoring_names_found}
use Rattle.eb_schema.proofs.laws.types_are_found.Goals as goal

pub returns-clause-components : goal.returns-clause-components
returns-clause-components c = components_found

pub returns-clause-component_names : goal.returns-clause-component_names
returns-clause-component_names c = component_names_found

pub returns-clause-authoring : goal.returns-clause-authoring
returns-clause-authoring c = authoring_found

pub returns-clause-authoring_names : goal.returns-clause-authoring_names
returns-clause-authoring_names c = authoring_names_found
