use Rattle.eb_schema.proofs.SlotFacts.{slot_length, slot_back, entity_back, name_back}
use Rattle.eb_schema.proofs.slots.slots_read_back.Goals as goal

pub returns-clause-size : goal.returns-clause-size
returns-clause-size c = slot_length

pub returns-clause-back : goal.returns-clause-back
returns-clause-back c = slot_back

pub returns-clause-entities : goal.returns-clause-entities
returns-clause-entities c = entity_back

pub returns-clause-names : goal.returns-clause-names
returns-clause-names c = name_back
