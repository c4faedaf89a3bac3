-- What a run has done when a fault of the outside ends it: how far its replies go, and what comes next.
use Rattle.std.specs.Prelude.{◌≡◌, ℕ, ◌++◌, Option, None, Some, Ok, List, ◌∷◌, ⊤}
use Rattle.eb_outside.specs.Shelves.{Files}
use Rattle.eb_session.specs.Machine.{State}
use Rattle.eb_session.specs.Opening.{opened}
use Rattle.eb_session.specs.Requests.{request_of}
use Rattle.eb_session.specs.declared.requests.Request.TheVariants.{Publish}
use Rattle.eb_serve.specs.Lines.{pieces, plan}
use Rattle.eb_run.specs.Told.{replay}

-- The sink holds the replies to all whole lines among the bytes that were taken.
pub record AllAnswered (files : Files) (input left held now : List ℕ) : Type 0 where
  pub state : State
  pub opens : opened files ≡ Ok state
  pub taken : List ℕ
  pub parts : input ≡ taken ++ left
  pub replies : now ≡ held ++ (replay (pieces taken).ended state files).reply

-- Behind the replies that the sink holds, the next of the lines to answer asks for a publication.
pub record NextPublishes (lines bytes : ℕ) (files : Files) (input held now : List ℕ) : Type 0 where
  pub state : State
  pub opens : opened files ≡ Ok state
  pub before : List (List ℕ)
  pub next : List ℕ
  pub later : List (List ℕ)
  pub planned : (plan lines bytes input).lines ≡ before ++ next ∷ later
  pub publishes : request_of next ≡ Ok Publish
  pub replies : now ≡ held ++ (replay before state files).reply

-- the same, where the shelf, the source and the sink tell
abbrev pub HasAnswered : Option Files → Option (List ℕ) → Option (List ℕ) → Option (List ℕ) → Option (List ℕ) → Type 0
HasAnswered (Some files) (Some input) (Some left) (Some held) (Some now) = AllAnswered files input left held now
HasAnswered (Some files) (Some input) (Some left) (Some held) None = ⊤
HasAnswered (Some files) (Some input) (Some left) None now = ⊤
HasAnswered (Some files) (Some input) None held now = ⊤
HasAnswered (Some files) None left held now = ⊤
HasAnswered None input left held now = ⊤

abbrev pub IsAtPublication : ℕ → ℕ → Option Files → Option (List ℕ) → Option (List ℕ) → Option (List ℕ) → Type 0
IsAtPublication lines bytes (Some files) (Some input) (Some held) (Some now) = NextPublishes lines bytes files input held now
IsAtPublication lines bytes (Some files) (Some input) (Some held) None = ⊤
IsAtPublication lines bytes (Some files) (Some input) None now = ⊤
IsAtPublication lines bytes (Some files) None held now = ⊤
IsAtPublication lines bytes None input held now = ⊤

-- nothing was taken and nothing was given: the opening comes next
pub record IsAtOpening (input left held now : Option (List ℕ)) : Type 0 where
  pub untaken : left ≡ input
  pub ungiven : now ≡ held
