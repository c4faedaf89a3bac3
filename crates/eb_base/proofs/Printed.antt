-- What is printed in decimal is read again, and a plain number is what is printed.
use Rattle.std.proofs.Common.{◌≡◌, ℕ, suc, ◌<◌, ◌≤◌, ◌^◌, Bool, true, false, cond, ◌&&◌, not, nat_lt, ◌==◌, List, [], ◌∷◌, ◌++◌, length, drop, get_or, decimal, refl, sym, ◌∙◌, ap, subst, arith, inl, inr}
use Rattle.std.specs.Prelude.{Option, Some, None, option_map}
use Rattle.std.specs.Char.{is_ascii_digit}
use Rattle.std.specs.Str.{all_ascii_digits}
use Rattle.std.proofs.Math.Nat.{eq-zero-or-pos}
use Rattle.std.proofs.lemmas.Bool.{lt-ltb, ltb-true}
use Rattle.std.proofs.lemmas.Bool.Decides.{nat_tests}
use Rattle.std.proofs.lemmas.Str.Parse.{IsNumeralModel, numerals_by_fold, tells_all_ascii_digits}
use Rattle.std.proofs.lemmas.Fmt.{decimal_digit, first_decimal, digits_decimal, digits_value-decimal, decimal-digits_value}
use Rattle.eb_base.specs.Digits.{value_after, digits_after, below, is_plain, number_below, point_in}

pub numerals : IsNumeralModel (λ ds. all_ascii_digits ds ≡ true) (value_after 0)
numerals = numerals_by_fold _ tells_all_ascii_digits value_after (record { empty = λ n. refl; more = λ n c cs h. refl })

-- ---- the point

digit_first : (c : ℕ) (b : Bool) → (is_ascii_digit c && b) ≡ true → (c == 46) ≡ false
digit_first c b h = grind (arith, nat_tests)

digit_rest : (a b : Bool) → (a && b) ≡ true → b ≡ true
digit_rest true b h = h
digit_rest false b h = cc

pub point_behind : (ds rest : List ℕ) → all_ascii_digits ds ≡ true → point_in (ds ++ 46 ∷ rest) ≡ Some (length ds)
point_behind [] rest h = refl
point_behind (c ∷ cs) rest h =
    ap (λ b. cond b (Some 0) (option_map suc (point_in (cs ++ 46 ∷ rest)))) (digit_first c _ h) ∙ ap (option_map suc) (point_behind cs rest (digit_rest _ _ h))

pub point_nowhere : (ds : List ℕ) → all_ascii_digits ds ≡ true → point_in ds ≡ None
point_nowhere [] h = refl
point_nowhere (c ∷ cs) h =
    ap (λ b. cond b (Some 0) (option_map suc (point_in cs))) (digit_first c _ h) ∙ ap (option_map suc) (point_nowhere cs (digit_rest _ _ h))

pub drop_behind : (ds rest : List ℕ) → drop (suc (length ds)) (ds ++ 46 ∷ rest) ≡ rest
drop_behind [] rest = refl
drop_behind (c ∷ cs) rest = drop_behind cs rest

-- ---- numbers

plain_from_first : (ds : List ℕ) → 48 < get_or ds 0 0 → is_plain ds ≡ true
plain_from_first [] h = absurd (omega arith)
plain_from_first (c ∷ []) h = refl
plain_from_first (c ∷ (d ∷ ds)) h = grind (arith, nat_tests)

not_both : (c : ℕ) → not (c == 48) ≡ true → c ≡ 48 → ⊥
not_both c h e = grind (arith, nat_tests)

plain_zero : (n : ℕ) → n ≡ 0 → is_plain (decimal n) ≡ true
plain_zero n e = ap is_plain (decimal_digit n (omega arith))

pub plain_decimal : (n : ℕ) → n < 2 ^ 64 → is_plain (decimal n) ≡ true
plain_decimal n h = elim (eq-zero-or-pos n) [ inl z ↦ plain_zero n z | inr p ↦ plain_from_first (decimal n) (first_decimal n p h) ]

pub number_below-decimal : (limit n : ℕ) → n < limit → n < 2 ^ 64 → number_below limit (decimal n) ≡ Some n
number_below-decimal limit n small h =
    ap (λ b. cond b (below limit (digits_after 0 (decimal n))) None) (plain_decimal n h)
    ∙ ap (λ b. below limit (cond b (Some (value_after 0 (decimal n))) None)) (digits_decimal numerals n h)
    ∙ ap (λ m. below limit (Some m)) (digits_value-decimal numerals n h)
    ∙ ap (λ b. cond b (Some n) None) (lt-ltb n limit small)

pub cond_some : {X : Type 0} (b : Bool) (o : Option X) (x : X) → cond b o None ≡ Some x → (b ≡ true) × (o ≡ Some x)
cond_some true o x h = (refl, h)
cond_some false o x h = cc

pub below_some : (limit : ℕ) (o : Option ℕ) (n : ℕ) → below limit o ≡ Some n → (o ≡ Some n) × (n < limit)
below_some limit None n h = cc
below_some limit (Some m) n h =
    let parts = cond_some (nat_lt m limit) (Some m) n h in
    let same : m ≡ n = cc in
    (ap Some same, subst (λ k. k < limit) same (ltb-true m limit parts.0))

one_zero : (ds : List ℕ) → is_plain ds ≡ true → (0 < length ds) × (get_or ds 0 0 ≡ 48 → length ds ≡ 1)
one_zero [] h = cc
one_zero (c ∷ []) h = (omega arith, λ _. refl)
one_zero (c ∷ (d ∷ ds)) h = (omega arith, λ e. absurd (not_both c h e))

-- a number that is read is the text that is printed of it
pub decimal-number_below : (limit : ℕ) (text : List ℕ) (n : ℕ) → limit ≤ 2 ^ 64 → number_below limit text ≡ Some n → (text ≡ decimal n) × (n < limit)
decimal-number_below limit text n small h =
    let plain = cond_some (is_plain text) (below limit (digits_after 0 text)) n h in
    let few = below_some limit (digits_after 0 text) n plain.1 in
    let digits = cond_some (all_ascii_digits text) (Some (value_after 0 text)) n few.0 in
    let value : value_after 0 text ≡ n = cc in
    let shape = one_zero text plain.0 in
    let bound : value_after 0 text < 2 ^ 64 = omega (arith, few.1, value, small) in
    (sym (decimal-digits_value numerals text digits.0 shape.0 shape.1 bound) ∙ ap decimal value, few.1)
