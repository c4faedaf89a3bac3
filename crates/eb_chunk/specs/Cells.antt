-- The cells of a row in a block: columns of n places each lie one after the other, and a column's cells as well.
use Rattle.std.specs.Prelude.{ℕ, zero, suc, ◌+◌, ◌*◌, List, [], ◌∷◌, take, drop}

-- the w bytes from `at` on
abbrev pub part : List ℕ → ℕ → ℕ → List ℕ
part bs at w = take w (drop at bs)

-- the cells of row r, in columns of these widths, the first of which starts at `at`
abbrev pub cells_at : List ℕ → ℕ → ℕ → List ℕ → ℕ → List (List ℕ)
cells_at [] n at bs r = []
cells_at (w ∷ ws) n at bs r = part bs (at + r * w) w ∷ cells_at ws n (at + n * w) bs r

-- where the cell of row r in column c starts
abbrev pub place_from : List ℕ → ℕ → ℕ → ℕ → ℕ → ℕ
place_from [] n at c r = at
place_from (w ∷ ws) n at zero r = at + r * w
place_from (w ∷ ws) n at (suc c) r = place_from ws n (at + n * w) c r
