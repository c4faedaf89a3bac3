-- Numbers in decimal digits.
use Rattle.std.specs.Prelude.{ℕ, suc, ◌+◌, ◌-◌, ◌*◌, Bool, true, false, cond, not, nat_lt, ◌==◌, List, [], ◌∷◌, Option, Some, None, option_map}
use Rattle.std.specs.Str.{all_ascii_digits}

-- the number that these digits go on to write, where n was written before them
abbrev pub value_after : ℕ → List ℕ → ℕ
value_after n [] = n
value_after n (c ∷ cs) = value_after (n * 10 + (c - 48)) cs

-- the same of any text: None where it isn't digits alone
abbrev pub digits_after : ℕ → List ℕ → Option ℕ
digits_after n text = cond (all_ascii_digits text) (Some (value_after n text)) None

-- the number, where it is below the limit
abbrev pub below : ℕ → Option ℕ → Option ℕ
below limit None = None
below limit (Some n) = cond (nat_lt n limit) (Some n) None

-- not empty, and with no leading zero: the text 0 itself has none
abbrev pub is_plain : List ℕ → Bool
is_plain [] = false
is_plain (c ∷ []) = true
is_plain (c ∷ (d ∷ ds)) = not (c == 48)

-- the number that a text writes in decimal digits, without sign or leading zero
abbrev pub number_below : ℕ → List ℕ → Option ℕ
number_below limit text = cond (is_plain text) (below limit (digits_after 0 text)) None

-- the place of the first point
abbrev pub point_in : List ℕ → Option ℕ
point_in [] = None
point_in (c ∷ cs) = cond (c == 46) (Some 0) (option_map suc (point_in cs))
