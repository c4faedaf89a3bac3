-- What a run leaves as it was: the names of the folder that it doesn't write, and the input behind what it takes.
use Rattle.std.specs.Prelude.{◌≡◌, ℕ, ◌<◌, ◌≤◌, ◌++◌, Option, option_map, List, length}
use Rattle.std.specs.FinMap.{get}
use Rattle.eb_outside.specs.Shelves.{Files}

-- each name of the folder has what it had, but for some
abbrev pub KeepsBut : (List ℕ → Type 0) → Option Files → Option Files → Type 0
KeepsBut some old new = (name : List ℕ) → (some name → ⊥) → option_map (λ f. get f name) new ≡ option_map (λ f. get f name) old

-- a name that one of the first writes may change, of so many
pub record IsWritten (names : ℕ → List ℕ → Type 0) (count : ℕ) (name : List ℕ) : Type 0 where
  pub write : ℕ
  pub within : write < count
  pub named : names write name

-- what a source had is what was taken, at most so many bytes, and what is left
pub record TakesAtMost (most : ℕ) (old new : Option (List ℕ)) : Type 0 where
  pub taken : List ℕ
  pub parts : old ≡ option_map (λ left. taken ++ left) new
  pub few : length taken ≤ most
