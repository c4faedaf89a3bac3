-- The whole run of the program: its status, its output and the files that it leaves.
use Rattle.std.specs.Prelude.{◌≡◌, ℕ, ◌≤◌, ◌++◌, Bool, true, false, Option, None, Some, Result, Ok, Err, List, length, ⊤}
use Rattle.eb_outside.specs.Causes.{Rose}
use Rattle.eb_outside.specs.Shelves.{Files}
use Rattle.eb_serve.specs.Lines.{pieces, all_lines}
use Rattle.eb_serve.specs.Machines.{Step, End, end_with, ended}
use Rattle.eb_serve.specs.Machines as machines
use Rattle.eb_serve.specs.Progress.{IsFront}
use Rattle.eb_serve.specs.declared.stops.Stop.{Stop}
use Rattle.eb_serve.specs.declared.stops.Stop.TheVariants.{Outside, Memory, Limit}
use Rattle.eb_session.specs.Machine.{State}
use Rattle.eb_session.specs.Opening.{opened}
use Rattle.eb_run.specs.Answering.{answering}
use Rattle.eb_run.specs.Words.{is_form, usage_text}

-- the session's machine over the lines, one after the other, as one step
abbrev pub replay : List (List ℕ) → State → Files → Step State
replay lines state files = machines.replay answering lines state files

-- the lines of the input that are answered under the limits, from a state on, behind an output so far
abbrev pub session_end : ℕ → ℕ → State → Files → List ℕ → List ℕ → End
session_end lines bytes state files input output = machines.session_end answering lines bytes state files input output

abbrev pub opened_end : ℕ → ℕ → Result State (List ℕ) → Files → List ℕ → List ℕ → End
opened_end lines bytes (Err line) files input output = end_with 3 (output ++ line) files
opened_end lines bytes (Ok state) files input output = session_end lines bytes state files input output

abbrev pub run_end : Bool → ℕ → ℕ → Files → List ℕ → List ℕ → End
run_end false lines bytes files input output = end_with 2 (output ++ usage_text) files
run_end true lines bytes files input output = opened_end lines bytes (opened files) files input output

-- The run of these words under limits on lines and bytes, where the shelf tells its files, the source its
-- bytes and the sink what it holds.
unfoldable pub told : ℕ → ℕ → List (List ℕ) → Option Files → Option (List ℕ) → Option (List ℕ) → Option End
told lines bytes words (Some files) (Some input) (Some output) = Some (run_end (is_form words) lines bytes files input output)
told lines bytes words (Some files) (Some input) None = None
told lines bytes words (Some files) None output = None
told lines bytes words None input output = None

-- The run ended with this status, or by a limit; after a fault or want of memory the sink holds a front of the output.
abbrev pub Follows : Result ℕ Stop → Option End → Option Files → Option (List ℕ) → Option (List ℕ) → Type 0
Follows (Ok status) all files left held = all ≡ ended status files left held
Follows (Err Limit) all files left held = all ≡ ended 5 files left held
Follows (Err Outside) all files left held = IsFront held all
Follows (Err Memory) all files left held = IsFront held all

-- a statement for the run of a shelf that tells its files, a source that tells its bytes and a sink that tells what it holds
abbrev pub WhereTold : Option Files → Option (List ℕ) → Option (List ℕ) → (Files → List ℕ → List ℕ → Type 0) → Type 0
WhereTold (Some files) (Some input) (Some held) said = said files input held
WhereTold (Some files) (Some input) None said = ⊤
WhereTold (Some files) None held said = ⊤
WhereTold None input held said = ⊤

-- The folder doesn't open.
abbrev pub IsRefused : Files → Type 0
IsRefused files = (line : List ℕ) × (opened files ≡ Err line)

-- The words are a form, the folder opens, and the input keeps to the limits on lines and bytes.
pub record IsWithin (lines bytes : ℕ) (words : List (List ℕ)) (files : Files) (input : List ℕ) : Type 0 where
  pub form : is_form words ≡ true
  pub state : State
  pub opens : opened files ≡ Ok state
  pub bytes_fit : length input ≤ bytes
  pub lines_fit : length (all_lines (pieces input)) ≤ lines

-- What the headline rests on beside memory: no count of faults rose, of the shelf, of the source or of the sink.
pub record IsFaultless (shelf_old shelf_new source_old source_new sink_old sink_new : ℕ) : Type 0 where
  pub shelf : ¬ (Rose shelf_old shelf_new)
  pub source : ¬ (Rose source_old source_new)
  pub sink : ¬ (Rose sink_old sink_new)
