-- How many blocks of a pool are spare, and how many are out.
use Rattle.std.specs.Prelude.{◌≡◌, ◌≤◌, ◌+◌, ℕ, List, length}
use Rattle.std.specs.List.{All}
use Rattle.eb_block.specs.Bytes.{zero_bytes}

pub record Counts : Type 0 where
  pub spare : ℕ
  pub out : ℕ

abbrev pub counts : ℕ → ℕ → Counts
counts spare out = record { spare = spare; out = out }

-- there is room for all blocks, and those that are spare hold zeros
pub record IsPool (blocks : List (List ℕ)) (out capacity : ℕ) : Type 0 where
  pub room : length blocks + out ≤ capacity
  pub clean : All (λ block. block ≡ zero_bytes) blocks
