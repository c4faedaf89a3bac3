-- Bytes of a block, and a range of them replaced.
use Rattle.std.specs.Prelude.{◌≡◌, ◌≤◌, ◌⊎◌, ℕ, ◌+◌, List, ◌++◌, length, take, drop, replicate}
use Rattle.std.specs.List.{refill}
use denote.RawPtr.{Ptr}

-- the bytes with xs in the place of those from `at` on
abbrev pub written : List ℕ → ℕ → List ℕ → List ℕ
written bs at xs = take at bs ++ (xs ++ drop (at + length xs) bs)

-- the bytes with ws in the place of the len from `at` on
abbrev pub rewritten : List ℕ → ℕ → ℕ → List ℕ → List ℕ
rewritten bs at len ws = written bs at (refill len (take len (drop at bs)) ws)

-- a block of zeros
unfoldable pub zero_bytes : List ℕ
zero_bytes = replicate 16384 0

-- two ranges of n bytes, la from a on and lb from b on, that have no byte in common
pub record Apart (n a la b lb : ℕ) : Type 0 where
  pub first : a + la ≤ n
  pub second : b + lb ≤ n
  pub apart : (a + la ≤ b) ⊎ (b + lb ≤ a)

-- the la bytes from a on, and the lb from b on
abbrev pub AreRanges : List ℕ → ℕ → ℕ → ℕ → ℕ → List ℕ → List ℕ → Type 0
AreRanges bs a la b lb xs ys = (xs ≡ take la (drop a bs)) × (ys ≡ take lb (drop b bs)) × (length xs ≡ la) × (length ys ≡ lb)

-- the pointer leads to the memory, all of which is written
pub record IsBlock (base at : Ptr) (bytes : List ℕ) (room : ℕ) : Type 0 where
  pub place : base ≡ at
  pub size : length bytes ≡ 16384
  pub full : room ≡ 0
