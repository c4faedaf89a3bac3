-- Which end of a session a failure of the outside is, and which end of an opening.
use Rattle.eb_outside.specs.declared.errors.OutsideError.{OutsideError}
use Rattle.eb_outside.specs.declared.errors.OutsideError.TheVariants as outside
use Rattle.eb_session.specs.declared.errors.SessionEnd.{SessionEnd}
use Rattle.eb_session.specs.declared.errors.SessionEnd.TheVariants as session
use Rattle.eb_session.specs.declared.errors.Refusal.{Refusal}
use Rattle.eb_session.specs.declared.errors.Refusal.TheVariants as refusal
use Rattle.eb_session.specs.declared.errors.OpenEnd.{OpenEnd}
use Rattle.eb_session.specs.declared.errors.OpenEnd.TheVariants as opening

abbrev pub session_end_of : OutsideError → SessionEnd
session_end_of outside.Fault = session.Shelf
session_end_of outside.Memory = session.Memory

abbrev pub open_end_of : OutsideError → OpenEnd
open_end_of outside.Fault = opening.Shelf
open_end_of outside.Memory = opening.Memory

abbrev pub open_end_of_refusal : Refusal → OpenEnd
open_end_of_refusal refusal.Memory = opening.Memory
open_end_of_refusal (refusal.Line line) = opening.Refused line
