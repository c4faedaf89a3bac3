-- The first state that the files of a folder give.
use Rattle.eb_session.specs.Machine.{State}
use Rattle.eb_session.specs.Opening.{first_state}
use Rattle.eb_session.specs.declared.sessions.Folder.{Folder}

abbrev pub state_in : Folder → State
state_in folder = first_state folder.rules folder.project
