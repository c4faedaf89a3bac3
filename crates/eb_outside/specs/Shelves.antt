-- What the calls of a shelf do to its files. A shelf may tell nothing of them: then the meaning is None, and stays None.
use Rattle.std.specs.Prelude.{◌≡◌, ◌≢◌, ℕ, List, Option, option_map}
use Rattle.std.specs.Ordering.{nat_cmp}
use Rattle.std.specs.Cmp.Lexicographic.{slice_cmp}
use Rattle.std.specs.FinMap.{FinMap, get, insert}

-- the bytes of each file, under the bytes of its name
abbrev pub Files : Type 0
Files = FinMap (slice_cmp nat_cmp) (List ℕ)

-- the files once this one holds these bytes
abbrev pub with_file : Option Files → List ℕ → List ℕ → Option Files
with_file files name bytes = option_map (λ f. insert f name bytes) files

-- all names but this one have what they had
abbrev pub KeepsOthers : Option Files → Option Files → List ℕ → Type 0
KeepsOthers old new name = (other : List ℕ) → other ≢ name → option_map (λ f. get f other) new ≡ option_map (λ f. get f other) old
