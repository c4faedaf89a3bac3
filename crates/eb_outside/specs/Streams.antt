-- What the calls of a source and of a sink do to their bytes. Either may tell nothing of them: then the meaning is None, and stays None.
use Rattle.std.specs.Prelude.{◌≡◌, ℕ, List, [], ◌++◌, take, Option, None, Some, option_map, Result, Ok, Err}

-- what a sink holds once it has taken these bytes
abbrev pub appended : Option (List ℕ) → List ℕ → Option (List ℕ)
appended held bytes = option_map (λ h. h ++ bytes) held

-- n bytes of the buffer's front were the first that were left; 0 comes at the end alone
pub record Takes (old new : List ℕ) (n : ℕ) (buffer : List ℕ) : Type 0 where
  pub front : old ≡ take n buffer ++ new
  pub end : n ≡ 0 → old ≡ []

-- a call took what it says from what was left; after an error everything is left
abbrev pub TakesKnown : {E : Type 0} → Option (List ℕ) → Option (List ℕ) → Result ℕ E → List ℕ → Type 0
TakesKnown None new result buffer = new ≡ None
TakesKnown (Some old) new (Ok n) buffer = (left : List ℕ) × (new ≡ Some left) × Takes old left n buffer
TakesKnown (Some old) new (Err e) buffer = new ≡ Some old
