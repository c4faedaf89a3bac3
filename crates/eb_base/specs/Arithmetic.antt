-- The outcome of each calculation. A fixed number is a whole number of units, 65536 to the 1.
use Rattle.std.specs.Prelude.{ℕ, zero, suc, ◌^◌, Bool, cond, nat_lt, ℤ, pos, negsuc, neg_ℤ, ◌+ℤ◌, ◌-ℤ◌, ◌*ℤ◌, ◌/◌, Result, Ok, Err}
use Rattle.eb_base.specs.declared.calc.CalcFault.{CalcFault}
use Rattle.eb_base.specs.declared.calc.CalcFault.TheVariants.{Overflow, DivZero}

-- the greatest whole number that is no more than a / n
abbrev pub floor_over : ℤ → ℕ → ℤ
floor_over (pos a) n = pos (a / n)
floor_over (negsuc a) n = negsuc (a / n)

-- the greatest whole number that is no more than a / b, where b isn't 0
abbrev pub floor_quotient : ℤ → ℤ → ℤ
floor_quotient a (pos b) = floor_over a b
floor_quotient a (negsuc b) = floor_over (neg_ℤ a) (suc b)

-- z lies in i64
abbrev pub fits_i64 : ℤ → Bool
fits_i64 (pos n) = nat_lt n (2 ^ 63)
fits_i64 (negsuc n) = nat_lt n (2 ^ 63)

-- the value, or Overflow where it doesn't lie in i64
abbrev pub fitting : ℤ → Result ℤ CalcFault
fitting z = cond (fits_i64 z) (Ok z) (Err Overflow)

abbrev pub sum_of : ℤ → ℤ → Result ℤ CalcFault
sum_of a b = fitting (a +ℤ b)

abbrev pub difference_of : ℤ → ℤ → Result ℤ CalcFault
difference_of a b = fitting (a -ℤ b)

abbrev pub product_of : ℤ → ℤ → Result ℤ CalcFault
product_of a b = fitting (a *ℤ b)

-- the outcome of a division by b, where the value at another divisor than 0 is given
abbrev pub over : ℤ → ℤ → Result ℤ CalcFault
over (pos zero) value = Err DivZero
over (pos (suc b)) value = fitting value
over (negsuc b) value = fitting value

abbrev pub quotient_of : ℤ → ℤ → Result ℤ CalcFault
quotient_of a b = over b (floor_quotient a b)

abbrev pub fixed_product_of : ℤ → ℤ → Result ℤ CalcFault
fixed_product_of a b = fitting (floor_quotient (a *ℤ b) (pos 65536))

abbrev pub fixed_quotient_of : ℤ → ℤ → Result ℤ CalcFault
fixed_quotient_of a b = over b (floor_quotient (a *ℤ pos 65536) b)
