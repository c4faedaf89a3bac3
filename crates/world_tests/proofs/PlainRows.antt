-- A row with one number fits the plain schema.
use Rattle.std.proofs.Common.{[], ◌∷◌, ℤ, arith}
use Rattle.std.specs.Prelude.{FitsSigned}
use Rattle.std.specs.Int.{w64}
use Rattle.std.proofs.lemmas.List.Elements.{All-cons}
use Rattle.eb_schema.specs.declared.rows.Val.TheVariants.{Num}
use Rattle.eb_schema.specs.Schemas.{plain_types}
use Rattle.eb_world.specs.Worlds.{CellFits, RowFits}

cell_fits : (number : ℤ) → FitsSigned w64 number → CellFits plain_types (record { kind = 1; values = Num number ∷ [] })
unfolding plain_types
cell_fits number h = (h, tt)

pub number_fits : (number : ℤ) → FitsSigned w64 number → RowFits plain_types (record { kind = 1; values = Num number ∷ [] } ∷ [])
number_fits number h = All-cons (CellFits plain_types) (record { kind = 1; values = Num number ∷ [] }) [] (cell_fits number h) (λ k d less. absurd (omega (arith, less)))
