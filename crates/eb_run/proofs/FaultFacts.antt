-- What a run has done at a fault, where the session was opened on the folder.
use Rattle.std.proofs.Common.{◌≡◌, ℕ, List}
use Rattle.std.specs.Prelude.{Option, None, Some, IfSome, Ok}
use Rattle.eb_outside.specs.Shelves.{Files}
use Rattle.eb_serve.specs.Faults as serve
use Rattle.eb_session.specs.Machine.{State}
use Rattle.eb_session.specs.Opening.{opened}
use Rattle.eb_run.specs.Answering.{answering, IsPublication}
use Rattle.eb_run.specs.Faults.{HasAnswered, IsAtPublication}

-- the replies to all whole lines that were taken are there
pub HasAnswered-opened : (state : State) (files : Option Files) (input left held now : Option (List ℕ)) → IfSome files (λ f. opened f ≡ Ok state)
    → serve.HasAnswered answering state files input left held now → HasAnswered files input left held now
HasAnswered-opened state None input left held now opens has = tt
HasAnswered-opened state (Some files) None left held now opens has = tt
HasAnswered-opened state (Some files) (Some input) None held now opens has = tt
HasAnswered-opened state (Some files) (Some input) (Some left) None now opens has = tt
HasAnswered-opened state (Some files) (Some input) (Some left) (Some held) None opens has = tt
HasAnswered-opened state (Some files) (Some input) (Some left) (Some held) (Some now) opens has =
    record { state = state; opens = opens; taken = has.taken; parts = has.parts; replies = has.replies }

-- the next line asks for a publication
pub IsAtPublication-opened : (lines bytes : ℕ) (state : State) (files : Option Files) (input held now : Option (List ℕ)) → IfSome files (λ f. opened f ≡ Ok state)
    → serve.IsAtFault answering IsPublication lines bytes state files input held now → IsAtPublication lines bytes files input held now
IsAtPublication-opened lines bytes state None input held now opens at = tt
IsAtPublication-opened lines bytes state (Some files) None held now opens at = tt
IsAtPublication-opened lines bytes state (Some files) (Some input) None now opens at = tt
IsAtPublication-opened lines bytes state (Some files) (Some input) (Some held) None opens at = tt
IsAtPublication-opened lines bytes state (Some files) (Some input) (Some held) (Some now) opens at =
    record { state = state; opens = opens; before = at.before; next = at.next; later = at.later; planned = at.planned; publishes = at.may_fail; replies = at.replies }
