-- Digits one by one: where one isn't a digit, or makes the number too large, the text has no number.
use Rattle.std.proofs.Common.{◌≡◌, ℕ, ◌+◌, ◌-◌, ◌*◌, ◌≤◌, Bool, true, false, cond, ◌&&◌, nat_lt, List, [], ◌∷◌, refl, arith}
use Rattle.std.specs.Prelude.{Option, Some, None}
use Rattle.std.specs.Char.{is_ascii_digit}
use Rattle.std.specs.Str.{all_ascii_digits}
use Rattle.std.proofs.lemmas.Bool.Decides.{nat_tests}
use Rattle.eb_base.specs.Digits.{value_after, digits_after, below}

-- digits never make a number smaller
pub value_after_least : (n : ℕ) (cs : List ℕ) → n ≤ value_after n cs
value_after_least n [] = omega arith
value_after_least n (c ∷ cs) = omega (arith, value_after_least (n * 10 + (c - 48)) cs)

above : (b : Bool) (limit m n : ℕ) → m ≤ n → cond (nat_lt m limit) (Some m) None ≡ None → below limit (cond b (Some n) None) ≡ None
above false limit m n h e = refl
above true limit m n h e = grind (arith, nat_tests)

first_none : (b : Bool) (limit m : ℕ) (cs : List ℕ) → below limit (cond (b && true) (Some m) None) ≡ None → below limit (cond (b && all_ascii_digits cs) (Some (value_after m cs)) None) ≡ None
first_none false limit m cs e = refl
first_none true limit m cs e = above (all_ascii_digits cs) limit m (value_after m cs) (value_after_least m cs) e

-- where a digit isn't one, or makes the number too large, the others don't mend it
pub digit_none : (limit n c : ℕ) (cs : List ℕ) → below limit (digits_after n (c ∷ [])) ≡ None → below limit (digits_after n (c ∷ cs)) ≡ None
digit_none limit n c cs e = first_none (is_ascii_digit c) limit (n * 10 + (c - 48)) cs e

-- what a search of the rest of a text found, counted from the text's start
abbrev pub onward : ℕ → Option ℕ → Option ℕ
onward i None = None
onward i (Some k) = Some (i + k)
