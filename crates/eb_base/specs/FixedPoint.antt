-- Fixed text: a decimal number that stands for a whole number of units, 65536 to the 1.
use Rattle.std.specs.Prelude.{ℕ, zero, suc, ◌+◌, ◌*◌, ◌/◌, ◌%◌, ◌^◌, Bool, true, false, cond, ◌&&◌, nat_lt, nat_le, ◌==◌, List, [], ◌∷◌, ◌++◌, length, take, drop, Option, Some, None, option_and_then, ℤ, pos, negsuc, neg_ℤ, decimal}
use Rattle.eb_base.specs.Arithmetic.{fits_i64, floor_over}
use Rattle.eb_base.specs.Digits.{digits_after, point_in}

-- ---- what a text is worth

abbrev pub with_sign : Bool → ℕ → ℤ
with_sign false n = pos n
with_sign true n = neg_ℤ (pos n)

-- the floor of the units of a number that has this many digits behind the point, and without the point is `digits`
abbrev pub units_of : Bool → ℕ → ℕ → ℤ
units_of negative places digits = floor_over (with_sign negative (digits * 65536)) (10 ^ places)

abbrev pub in_i64 : ℤ → Option ℤ
in_i64 z = cond (fits_i64 z) (Some z) None

-- 1 to 15 digits before the point, and at most 16 behind it
abbrev pub has_lengths : List ℕ → List ℕ → Bool
has_lengths whole fraction = nat_lt 0 (length whole) && (nat_le (length whole) 15 && nat_le (length fraction) 16)

-- the units, where both parts are digits and the value lies in i64
abbrev pub fixed_from : Bool → List ℕ → List ℕ → Option ℤ
fixed_from negative whole fraction =
    cond (has_lengths whole fraction) (option_and_then (λ digits. in_i64 (units_of negative (length fraction) digits)) (digits_after 0 (whole ++ fraction))) None

-- behind a point stands a digit
abbrev pub with_point : Bool → List ℕ → List ℕ → Option ℤ
with_point negative whole [] = None
with_point negative whole (d ∷ ds) = fixed_from negative whole (d ∷ ds)

-- a text behind the sign, where its first point may be
abbrev pub fixed_at : Bool → List ℕ → Option ℕ → Option ℤ
fixed_at negative text None = fixed_from negative text []
fixed_at negative text (Some at) = with_point negative (take at text) (drop (suc at) text)

-- the units that a text writes: None where it has another form or the value isn't in i64
abbrev pub fixed_of : List ℕ → Option ℤ
fixed_of [] = None
fixed_of (c ∷ cs) = cond (c == 45) (fixed_at true cs (point_in cs)) (fixed_at false (c ∷ cs) (point_in (c ∷ cs)))

-- ---- the text of a number of units

-- the digits of rest / 65536 behind the point, at most so many, as long as something is left
abbrev pub fraction_digits : ℕ → ℕ → List ℕ
fraction_digits most zero = []
fraction_digits zero (suc rest) = []
fraction_digits (suc most) (suc rest) = (48 + suc rest * 10 / 65536) ∷ fraction_digits most (suc rest * 10 % 65536)

-- a point and the digits, where there is a fraction. A 65536th has at most 16 digits
abbrev pub fraction_text : ℕ → List ℕ
fraction_text zero = []
fraction_text (suc rest) = 46 ∷ fraction_digits 16 (suc rest)

abbrev pub size_text : ℕ → List ℕ
size_text n = decimal (n / 65536) ++ fraction_text (n % 65536)

abbrev pub fixed_text : ℤ → List ℕ
fixed_text (pos n) = size_text n
fixed_text (negsuc n) = 45 ∷ size_text (suc n)
