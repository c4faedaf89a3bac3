-- Reading fixed text: room for the digits, and the two parts.
use Rattle.std.proofs.Common.{◌≡◌, ℕ, ◌+◌, ◌-◌, ◌*◌, ◌^◌, ◌<◌, ◌≤◌, Bool, true, false, cond, ◌&&◌, List, [], ◌∷◌, ◌++◌, length, take, drop, refl, sym, ◌∙◌, ap, subst, arith, add-one, lit<}
use Rattle.std.specs.Prelude.{Option, Some, None, option_and_then, IfSome}
use Rattle.std.specs.Char.{is_ascii_digit}
use Rattle.std.specs.Str.{all_ascii_digits}
use Rattle.std.proofs.Math.Nat.{pow-suc, pow-le-pow_right, mul-le-mul, mul-le-mul_right, mul_assoc, mul_comm}
use Rattle.std.proofs.lemmas.Bool.{lt-ltb}
use Rattle.std.proofs.lemmas.Bool.Decides.{nat_tests}
use Rattle.std.proofs.lemmas.List.{take_rest}
use Rattle.eb_base.specs.Digits.{value_after, digits_after, below, point_in}
use Rattle.eb_base.specs.FixedPoint.{fixed_at, with_point}

-- ---- room

digit_small : (c : ℕ) (b : Bool) → (is_ascii_digit c && b) ≡ true → c - 48 ≤ 9
digit_small c b h = grind (arith, nat_tests)

digits_rest : (a b : Bool) → (a && b) ≡ true → b ≡ true
digits_rest true b h = h
digits_rest false b h = cc

grown : (n d p : ℕ) → d ≤ 9 → (n * 10 + d + 1) * p ≤ (n + 1) * (p * 10)
grown n d p h =
    let wide : n * 10 + d + 1 ≤ (n + 1) * 10 = omega arith in
    let same : (n + 1) * 10 * p ≡ (n + 1) * (p * 10) = mul_assoc (n + 1) 10 p ∙ ap (λ k. (n + 1) * k) (mul_comm 10 p) in
    subst (λ k. (n * 10 + d + 1) * p ≤ k) same (mul-le-mul_right p wide)

-- so many digits multiply by no more than ten each
pub value_bound : (n : ℕ) (ds : List ℕ) → all_ascii_digits ds ≡ true → value_after n ds < (n + 1) * 10 ^ length ds
value_bound n [] h = omega arith
value_bound n (c ∷ cs) h =
    let rest = value_bound (n * 10 + (c - 48)) cs (digits_rest (is_ascii_digit c) (all_ascii_digits cs) h) in
    let more = grown n (c - 48) (10 ^ length cs) (digit_small c (all_ascii_digits cs) h) in
    let whole : value_after (n * 10 + (c - 48)) cs < (n + 1) * (10 ^ length cs * 10) = omega (arith, rest, more) in
    subst (λ k. value_after (n * 10 + (c - 48)) cs < (n + 1) * k) (sym (pow-suc 10 (length cs))) whole

room_at : (b : Bool) (limit v : ℕ) → (b ≡ true → v < limit) → below limit (cond b (Some v) None) ≡ cond b (Some v) None
room_at true limit v h = ap (λ b. cond b (Some v) None) (lt-ltb v limit (h refl))
room_at false limit v h = refl

pub all_room : (limit n : ℕ) (ds : List ℕ) → (n + 1) * 10 ^ length ds ≤ limit → below limit (digits_after n ds) ≡ digits_after n ds
all_room limit n ds h = room_at (all_ascii_digits ds) limit (value_after n ds) (λ e. omega (arith, value_bound n ds e, h))

bound_at : (b : Bool) (limit v : ℕ) → (b ≡ true → v < limit) → IfSome (cond b (Some v) None) (λ m. m < limit)
bound_at true limit v h = h refl
bound_at false limit v h = tt

pub digits_bound : (n : ℕ) (ds : List ℕ) → IfSome (digits_after n ds) (λ m. m < (n + 1) * 10 ^ length ds)
digits_bound n ds = bound_at (all_ascii_digits ds) ((n + 1) * 10 ^ length ds) (value_after n ds) (value_bound n ds)

-- a number of 15 digits and 16 more have room
pub few_room : (n : ℕ) (ds : List ℕ) → n < 10 ^ 15 → length ds ≤ 16 → (n + 1) * 10 ^ length ds ≤ 2 ^ 120
few_room n ds small few =
    let places : 10 ^ length ds ≤ 10 ^ 16 = pow-le-pow_right (lit< tt) few in
    let start : n + 1 ≤ 10 ^ 15 = omega arith in
    let product : (n + 1) * 10 ^ length ds ≤ 10 ^ 15 * 10 ^ 16 = mul-le-mul start places in
    omega (arith, product)

pub whole_bound : (m : ℕ) (ds : List ℕ) → length ds ≤ 15 → m < (0 + 1) * 10 ^ length ds → m < 10 ^ 15
whole_bound m ds few h = let places : 10 ^ length ds ≤ 10 ^ 15 = pow-le-pow_right (lit< tt) few in omega (arith, h, places)

pub both_bound : (n m : ℕ) (ds : List ℕ) → n < 10 ^ 15 → length ds ≤ 16 → m < (n + 1) * 10 ^ length ds → m < 10 ^ 31
both_bound n m ds small few h =
    let places : 10 ^ length ds ≤ 10 ^ 16 = pow-le-pow_right (lit< tt) few in
    let start : n + 1 ≤ 10 ^ 15 = omega arith in
    let product : (n + 1) * 10 ^ length ds ≤ 10 ^ 15 * 10 ^ 16 = mul-le-mul start places in
    omega (arith, product, h)

-- ---- two parts

append_at : (b : Bool) (m : ℕ) (xs ys : List ℕ) → digits_after m (xs ++ ys) ≡ option_and_then (λ k. digits_after k ys) (digits_after m xs)
    → cond (b && all_ascii_digits (xs ++ ys)) (Some (value_after m (xs ++ ys))) None ≡ option_and_then (λ k. digits_after k ys) (cond (b && all_ascii_digits xs) (Some (value_after m xs)) None)
append_at true m xs ys h = h
append_at false m xs ys h = refl

pub digits_after-append : (n : ℕ) (xs ys : List ℕ) → digits_after n (xs ++ ys) ≡ option_and_then (λ m. digits_after m ys) (digits_after n xs)
digits_after-append n [] ys = refl
digits_after-append n (c ∷ cs) ys = append_at (is_ascii_digit c) (n * 10 + (c - 48)) cs ys (digits_after-append (n * 10 + (c - 48)) cs ys)

pub both_none : (xs ys : List ℕ) → digits_after 0 xs ≡ None → digits_after 0 (xs ++ ys) ≡ None
both_none xs ys none = digits_after-append 0 xs ys ∙ ap (option_and_then (λ m. digits_after m ys)) none

pub both_some : (d : ℕ) (xs ys : List ℕ) → Some d ≡ digits_after 0 xs → digits_after d ys ≡ digits_after 0 (xs ++ ys)
both_some d xs ys found = ap (option_and_then (λ m. digits_after m ys)) found ∙ sym (digits_after-append 0 xs ys)

pub both_room : (o : Option ℕ) (n : ℕ) (ds : List ℕ) → n < 10 ^ 15 → length ds ≤ 16 → IfSome o (λ m. m < (n + 1) * 10 ^ length ds) → IfSome o (λ m. m < 10 ^ 31)
both_room None n ds small few h = tt
both_room (Some m) n ds small few h = both_bound n m ds small few h

pub point_found : (negative : Bool) (text : List ℕ) (at : ℕ) → Some at ≡ point_in text → with_point negative (take at text) (take (length text - (at + 1)) (drop (at + 1) text)) ≡ fixed_at negative text (point_in text)
point_found negative text at found =
    ap (with_point negative (take at text)) (take_rest text (at + 1) ∙ ap (λ k. drop k text) (add-one at)) ∙ ap (fixed_at negative text) found
