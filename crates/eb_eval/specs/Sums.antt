-- What is made of numbers: their sum, their count, the least and the greatest.
use Rattle.std.specs.Prelude.{ℤ, pos, ◌+ℤ◌, Bool, true, false, List, [], ◌∷◌, length, Option, Some, None, Result, Ok, Err, option_map, fold}
use Rattle.std.specs.Int.{int_min, int_max}
use Rattle.eb_base.specs.Arithmetic.{fits_i64}
use Rattle.eb_schema.specs.declared.kinds.Kind.{Kind}
use Rattle.eb_meaning.specs.declared.values.RunFault.{RunFault}
use Rattle.eb_meaning.specs.declared.values.RunFault.TheVariants as fault
use Rattle.eb_meaning.specs.declared.values.Value.{Value}
use Rattle.eb_meaning.specs.declared.values.Value.TheVariants as v
use Rattle.eb_eval.specs.declared.sums.Extreme.{Extreme}
use Rattle.eb_eval.specs.declared.sums.Extreme.TheVariants as extreme
use Rattle.eb_eval.specs.Walks.{value_as}

abbrev pub total : List ℤ → ℤ
total [] = pos 0
total (z ∷ zs) = z +ℤ total zs

abbrev pub sum_where : Bool → Kind → ℤ → Result Value RunFault
sum_where true kind z = Ok (value_as kind z)
sum_where false kind z = Err fault.Overflow

-- the exact sum, or Overflow where it doesn't lie in i64
abbrev pub sum_value : Kind → List ℤ → Result Value RunFault
sum_value kind zs = sum_where (fits_i64 (total zs)) kind (total zs)

abbrev pub count_value : List ℤ → Value
count_value zs = v.Int (pos (length zs))

-- the lesser or the greater of two
abbrev pub better : Extreme → ℤ → ℤ → ℤ
better extreme.Least a b = int_min a b
better extreme.Greatest a b = int_max a b

-- the least or the greatest, none of nothing
abbrev pub best_of : Extreme → List ℤ → Option ℤ
best_of e [] = None
best_of e (z ∷ zs) = Some (fold (better e) z zs)

abbrev pub best_value : Extreme → Kind → List ℤ → Option Value
best_value e kind zs = option_map (value_as kind) (best_of e zs)
