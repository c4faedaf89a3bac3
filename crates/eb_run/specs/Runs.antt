-- What a run owes, whatever its shelf, source and sink are: its status, and what it leaves of the three.
use Rattle.std.specs.Prelude.{◌≡◌, ◌≢◌, ℕ, ◌+◌, ◌≤◌, ◌⊎◌, true, false, Option, List, IfSome}
use Rattle.eb_outside.specs.Causes.{Rose}
use Rattle.eb_outside.specs.Shelves.{Files}
use Rattle.eb_serve.specs.Machines.{ended}
use Rattle.eb_serve.specs.Progress.{IsFront, IsSpent}
use Rattle.eb_serve.specs.Remains.{KeepsBut, IsWritten, TakesAtMost}
use Rattle.eb_run.specs.Answering.{IsNextSection}
use Rattle.eb_run.specs.Faults.{HasAnswered, IsAtOpening, IsAtPublication}
use Rattle.eb_run.specs.Told.{told, IsFaultless, IsRefused, IsWithin, WhereTold}
use Rattle.eb_run.specs.Words.{is_form}

-- What the shelf, the source and the sink tell at a moment, and how many faults each has counted.
pub record Moment : Type 0 where
  pub files : Option Files
  pub input : Option (List ℕ)
  pub output : Option (List ℕ)
  pub shelf_faults : ℕ
  pub source_faults : ℕ
  pub sink_faults : ℕ

abbrev pub moment : Option Files → Option (List ℕ) → Option (List ℕ) → ℕ → ℕ → ℕ → Moment
moment files input output shelf source sink = record {
  files = files;
  input = input;
  output = output;
  shelf_faults = shelf;
  source_faults = source;
  sink_faults = sink;
}

-- no count of faults rose
abbrev pub IsFaultlessSince : Moment → Moment → Type 0
IsFaultlessSince old new = IsFaultless old.shelf_faults new.shelf_faults old.source_faults new.source_faults old.sink_faults new.sink_faults

-- The sink failed; or the source did, and the replies to all whole lines that were taken are in the sink; or the shelf
-- did, and behind the replies in the sink comes the opening or a publication.
abbrev pub HasFailed : ℕ → ℕ → Moment → Moment → Type 0
HasFailed lines bytes old new = Rose old.sink_faults new.sink_faults
    ⊎ ((Rose old.source_faults new.source_faults × HasAnswered old.files old.input new.input old.output new.output)
    ⊎ (Rose old.shelf_faults new.shelf_faults × (IsAtOpening old.input new.input old.output new.output
    ⊎ IsAtPublication lines bytes old.files old.input old.output new.output)))

-- the end of the whole run under these limits, as far as it was told before
abbrev pub EndsAs : ℕ → ℕ → List (List ℕ) → ℕ → Moment → Moment → Type 0
EndsAs lines bytes words status old new = told lines bytes words old.files old.input old.output ≡ ended status new.files new.input new.output

-- what the sink holds is a front of the whole run's output
abbrev pub GivesFront : ℕ → ℕ → List (List ℕ) → Moment → Moment → Type 0
GivesFront lines bytes words old new = IsFront new.output (told lines bytes words old.files old.input old.output)

-- A run on these words, under limits on lines and bytes, ended with this status.
pub record Runs (lines bytes : ℕ) (given : List (List ℕ)) (status : ℕ) (old new : Moment) : Type 0 where
  pub headline : IsFaultlessSince old new → status ≢ 4 → EndsAs lines bytes given status old new
  pub told : status ≢ 1 → status ≢ 4 → EndsAs lines bytes given status old new
  pub complete : IsFaultlessSince old new → WhereTold old.files old.input old.output (λ files input held. IsWithin lines bytes given files input → (status ≡ 4) ⊎ (status ≡ 0))
  pub front : (status ≡ 1) ⊎ (status ≡ 4) → GivesFront lines bytes given old new
  pub done : status ≡ 0 → (is_form given ≡ true) × IsSpent new.input
  pub causes : status ≡ 1 → HasFailed lines bytes old new
  pub words : status ≡ 2 → is_form given ≡ false
  pub no_form : is_form given ≡ false → (status ≡ 2) ⊎ ((status ≡ 1) ⊎ (status ≡ 4))
  pub refused : status ≡ 3 → (is_form given ≡ true) × IfSome old.files IsRefused
  pub untouched : (is_form given ≡ false) ⊎ (status ≡ 3) → (new.input ≡ old.input) × (new.source_faults ≡ old.source_faults)
  pub taken : TakesAtMost (bytes + 1) old.input new.input
  pub names : KeepsBut (IsWritten IsNextSection lines) old.files new.files
  pub range : status ≤ 5
