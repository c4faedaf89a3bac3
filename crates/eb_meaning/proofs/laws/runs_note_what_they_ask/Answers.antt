use Rattle.eb_meaning.proofs.Ended.{ended_badly, ended_well}
use Rattle.eb_meaning.proofs.Noted.{noted_all}
use Rattle.eb_meaning.proofs.laws.runs_note_what_they_ask.Goals as goal

pub returns-clause-told : goal.returns-clause-told
returns-clause-told c = noted_all

pub returns-clause-gives : goal.returns-clause-gives
returns-clause-gives c = ended_well

pub returns-clause-stops : goal.returns-clause-stops
returns-clause-stops c = ended_badly
