-- What is printed of a number of units is exact, and reads back.
use Rattle.std.proofs.Common.{◌≡◌, ℕ, zero, suc, ◌+◌, ◌-◌, ◌*◌, ◌/◌, ◌%◌, ◌^◌, ◌<◌, ◌≤◌, Bool, true, false, cond, ◌&&◌, nat_lt, nat_le, ◌==◌, List, [], ◌∷◌, ◌++◌, length, drop, slice_index, decimal, ℤ, pos, negsuc, neg_ℤ, refl, sym, ◌∙◌, ap, subst, arith, lit<, zero-add, append-nil, ◌≢◌}
use Rattle.std.specs.Prelude.{Option, Some, None, option_and_then}
use Rattle.std.specs.Char.{is_ascii_digit}
use Rattle.std.specs.Str.{all_ascii_digits}
use Rattle.std.proofs.Math.Nat.{pow-suc, add-mul, mul_assoc, mul_comm, mul-div_cancel, add-mul-div_left, one-le-pow, zero-mul, div-eq_of_lt}
use Rattle.std.proofs.Math.Seq.{take-append_seam}
use Rattle.std.proofs.lemmas.Bool.{ltb-true}
use Rattle.std.proofs.lemmas.Bool.Decides.{nat_tests}
use Rattle.std.proofs.lemmas.Fmt.{digits_decimal, digits_value-decimal, decimal_nonempty, length-decimal-le}
use Rattle.eb_base.specs.Arithmetic.{floor_over, fits_i64}
use Rattle.eb_base.specs.Digits.{value_after, digits_after, point_in}
use Rattle.eb_base.specs.FixedPoint.{with_sign, units_of, in_i64, has_lengths, fixed_from, with_point, fixed_at, fixed_of, fraction_digits, fraction_text, size_text, fixed_text}
use Rattle.eb_base.proofs.Printed.{numerals, point_behind, point_nowhere, drop_behind}
use Rattle.eb_base.proofs.FixedReads.{digits_after-append}

-- ---- the value of digits

digit_apart : (n d p : ℕ) → (n * 10 + d) * p ≡ n * (p * 10) + d * p
digit_apart n d p = add-mul (n * 10) d p ∙ ap (λ k. k + d * p) (mul_assoc n 10 p ∙ ap (λ k. n * k) (mul_comm 10 p))

-- what was written before counts as many tens as digits follow
pub value_split : (n : ℕ) (ds : List ℕ) → value_after n ds ≡ n * 10 ^ length ds + value_after 0 ds
value_split n [] = omega arith
value_split n (c ∷ cs) =
    let p = 10 ^ length cs in
    let d = c - 48 in
    let left : value_after (n * 10 + d) cs ≡ (n * 10 + d) * p + value_after 0 cs = value_split (n * 10 + d) cs in
    let right : value_after (0 * 10 + d) cs ≡ (0 * 10 + d) * p + value_after 0 cs = value_split (0 * 10 + d) cs in
    let alone : (0 * 10 + d) * p ≡ d * p = ap (λ k. k * p) (zero-add d) in
    let apart = digit_apart n d p in
    let whole : value_after (n * 10 + d) cs ≡ n * (p * 10) + value_after (0 * 10 + d) cs = omega (arith, left, right, alone, apart) in
    subst (λ k. value_after (n * 10 + d) cs ≡ n * k + value_after (0 * 10 + d) cs) (sym (pow-suc 10 (length cs))) whole

-- ---- the digits of a fraction

tens : (s d r p : ℕ) → s * 10 ≡ 65536 * d + r → s * (p * 10) ≡ 65536 * (d * p) + r * p
tens s d r p e =
    ap (λ k. s * k) (mul_comm p 10) ∙ sym (mul_assoc s 10 p) ∙ ap (λ k. k * p) e ∙ add-mul (65536 * d) r p ∙ ap (λ k. k + r * p) (mul_assoc 65536 d p)

-- with as many digits as it takes, they are the fraction itself
pub fraction_exact : (k r q : ℕ) → r < 65536 → r * 10 ^ k ≡ q * 65536 → value_after 0 (fraction_digits k r) * 65536 ≡ r * 10 ^ length (fraction_digits k r)
fraction_exact zero zero q small e = refl
fraction_exact (suc k) zero q small e = refl
fraction_exact zero (suc r) q small e = absurd (omega arith)
fraction_exact (suc k) (suc r) q small e =
    let s = suc r in
    let d = s * 10 / 65536 in
    let rest = s * 10 % 65536 in
    let ds = fraction_digits k rest in
    let cut : s * 10 ≡ 65536 * d + rest = omega arith in
    let below : rest < 65536 = omega arith in
    let power : s * (10 ^ k * 10) ≡ q * 65536 = ap (λ p. s * p) (sym (pow-suc 10 k)) ∙ e in
    let split_here = tens s d rest (10 ^ k) cut in
    let left : rest * 10 ^ k ≡ (q - d * 10 ^ k) * 65536 = omega (arith, power, split_here) in
    let later = fraction_exact k rest (q - d * 10 ^ k) below left in
    let split_after = tens s d rest (10 ^ length ds) cut in
    let digit : 0 * 10 + (48 + d - 48) ≡ d = omega arith in
    let value : value_after (0 * 10 + (48 + d - 48)) ds ≡ d * 10 ^ length ds + value_after 0 ds = ap (λ n. value_after n ds) digit ∙ value_split d ds in
    let whole : value_after (0 * 10 + (48 + d - 48)) ds * 65536 ≡ s * (10 ^ length ds * 10) = omega (arith, value, later, split_after) in
    subst (λ p. value_after (0 * 10 + (48 + d - 48)) ds * 65536 ≡ s * p) (sym (pow-suc 10 (length ds))) whole

both_true : (a b : Bool) → a ≡ true → b ≡ true → (a && b) ≡ true
both_true a b p q = cc

a_digit : (d : ℕ) → d < 10 → is_ascii_digit (48 + d) ≡ true
a_digit d h = grind (arith, nat_tests)

pub fraction_all : (k r : ℕ) → r < 65536 → all_ascii_digits (fraction_digits k r) ≡ true
fraction_all zero zero h = refl
fraction_all (suc k) zero h = refl
fraction_all zero (suc r) h = refl
fraction_all (suc k) (suc r) h =
    both_true (is_ascii_digit (48 + suc r * 10 / 65536)) (all_ascii_digits (fraction_digits k (suc r * 10 % 65536))) (a_digit (suc r * 10 / 65536) (omega arith)) (fraction_all k (suc r * 10 % 65536) (omega arith))

pub fraction_length : (k r : ℕ) → length (fraction_digits k r) ≤ k
fraction_length zero zero = omega arith
fraction_length (suc k) zero = omega arith
fraction_length zero (suc r) = omega arith
fraction_length (suc k) (suc r) = omega (arith, fraction_length k (suc r * 10 % 65536))

last_of_more : (d : ℕ) (ds : List ℕ) → (length ds ≡ 0 → d ≢ 48) → (0 < length ds → slice_index ds (length ds - 1) ≢ 48) → slice_index (d ∷ ds) (length ds) ≢ 48
last_of_more d [] alone later = alone refl
last_of_more d (e ∷ es) alone later =
    let same : length es ≡ length (e ∷ es) - 1 = omega arith in
    subst (λ k. slice_index (e ∷ es) k ≢ 48) (sym same) (later (omega arith))

empty_done : (k r q : ℕ) → r < 65536 → r * 10 ^ k ≡ q * 65536 → length (fraction_digits k r) ≡ 0 → r ≡ 0
empty_done zero zero q small e none = refl
empty_done (suc k) zero q small e none = refl
empty_done zero (suc r) q small e none = absurd (omega arith)
empty_done (suc k) (suc r) q small e none = absurd (omega arith)

positive_digit : (s d rest : ℕ) → s * 10 ≡ 65536 * d + rest → 0 < s → rest ≡ 0 → 48 + d ≢ 48
positive_digit s d rest cut h z e = omega arith

-- they end with the last that isn't 0
pub fraction_ends : (k r q : ℕ) → r < 65536 → r * 10 ^ k ≡ q * 65536 → 0 < length (fraction_digits k r) → slice_index (fraction_digits k r) (length (fraction_digits k r) - 1) ≢ 48
fraction_ends zero zero q small e some_digit = absurd (omega arith)
fraction_ends (suc k) zero q small e some_digit = absurd (omega arith)
fraction_ends zero (suc r) q small e some_digit = absurd (omega arith)
fraction_ends (suc k) (suc r) q small e some_digit =
    let s = suc r in
    let d = s * 10 / 65536 in
    let rest = s * 10 % 65536 in
    let ds = fraction_digits k rest in
    let cut : s * 10 ≡ 65536 * d + rest = omega arith in
    let below : rest < 65536 = omega arith in
    let power : s * (10 ^ k * 10) ≡ q * 65536 = ap (λ p. s * p) (sym (pow-suc 10 k)) ∙ e in
    let split_here = tens s d rest (10 ^ k) cut in
    let left : rest * 10 ^ k ≡ (q - d * 10 ^ k) * 65536 = omega (arith, power, split_here) in
    let whole = last_of_more (48 + d) ds (λ none. positive_digit s d rest cut (omega arith) (empty_done k rest (q - d * 10 ^ k) below left none)) (fraction_ends k rest (q - d * 10 ^ k) below left) in
    let same : length ds ≡ suc (length ds) - 1 = omega arith in
    subst (λ i. slice_index ((48 + d) ∷ ds) i ≢ 48) same whole

-- ---- the floor of a whole number of units

below_next : (q : ℕ) → q < suc q
below_next q = omega arith

zero_over : (p : ℕ) → 0 < p → 0 / p ≡ 0
zero_over p h = div-eq_of_lt h

floor_whole : (negative : Bool) (n p : ℕ) → 0 < p → floor_over (with_sign negative (n * p)) p ≡ with_sign negative n
floor_whole false n p h = ap pos (mul-div_cancel n h)
floor_whole true zero p h = rw (zero-mul p) (ap pos (zero_over p h))
floor_whole true (suc m) zero h = absurd (omega arith)
floor_whole true (suc m) (suc q) h =
    let size : suc m * suc q ≡ suc (q + suc q * m) = omega (arith, add-mul m 1 (suc q), mul_comm m (suc q)) in
    let quotient : (q + suc q * m) / suc q ≡ m = add-mul-div_left q m h ∙ ap (λ k. k + m) (div-eq_of_lt (below_next q)) ∙ zero-add m in
    ap (λ n. floor_over (neg_ℤ (pos n)) (suc q)) size ∙ ap negsuc quotient

-- ---- a number of units that is printed

pub units_back : (negative : Bool) (n : ℕ) (ds : List ℕ) → value_after 0 ds * 65536 ≡ n % 65536 * 10 ^ length ds → units_of negative (length ds) (value_after (n / 65536) ds) ≡ with_sign negative n
units_back negative n ds exact =
    let p = 10 ^ length ds in
    let w = n / 65536 in
    let f = n % 65536 in
    let value = value_split w ds in
    let cut : n ≡ 65536 * w + f = omega arith in
    let split_here : n * p ≡ 65536 * (w * p) + f * p = ap (λ k. k * p) cut ∙ add-mul (65536 * w) f p ∙ ap (λ k. k + f * p) (mul_assoc 65536 w p) in
    let whole : value_after w ds * 65536 ≡ n * p = omega (arith, value, exact, split_here) in
    ap (λ k. floor_over (with_sign negative k) p) whole ∙ floor_whole negative n p (one-le-pow (length ds) 10 (lit< tt))

pub digits_back : (w : ℕ) (ds : List ℕ) → w < 2 ^ 64 → all_ascii_digits ds ≡ true → digits_after 0 (decimal w ++ ds) ≡ Some (value_after w ds)
digits_back w ds small all =
    digits_after-append 0 (decimal w) ds
    ∙ ap (λ b. option_and_then (λ m. digits_after m ds) (cond b (Some (value_after 0 (decimal w))) None)) (digits_decimal numerals w small)
    ∙ ap (λ m. digits_after m ds) (digits_value-decimal numerals w small)
    ∙ ap (λ b. cond b (Some (value_after w ds)) None) all

tests : (a b : ℕ) → 0 < a → a ≤ 15 → b ≤ 16 → (nat_lt 0 a && (nat_le a 15 && nat_le b 16)) ≡ true
tests a b p q r = grind (arith, nat_tests)

pub lengths_back : (w : ℕ) (ds : List ℕ) → w < 2 ^ 48 → length ds ≤ 16 → has_lengths (decimal w) ds ≡ true
lengths_back w ds small few =
    let some_digit : 0 < length (decimal w) = decimal_nonempty w (omega arith) in
    let most : length (decimal w) ≤ 15 = length-decimal-le 15 w (omega arith) (omega arith) (omega arith) in
    tests (length (decimal w)) (length ds) some_digit most few

from_back : (negative : Bool) (n : ℕ) (ds : List ℕ) → n ≤ 2 ^ 63 → ds ≡ fraction_digits 16 (n % 65536) → fixed_from negative (decimal (n / 65536)) ds ≡ in_i64 (with_sign negative n)
from_back negative n ds small e =
    let f = n % 65536 in
    let below : f < 65536 = omega arith in
    let exact : value_after 0 ds * 65536 ≡ f * 10 ^ length ds = subst (λ t. value_after 0 t * 65536 ≡ f * 10 ^ length t) (sym e) (fraction_exact 16 f (f * 152587890625) below (omega arith)) in
    let all : all_ascii_digits ds ≡ true = ap all_ascii_digits e ∙ fraction_all 16 f below in
    let few : length ds ≤ 16 = subst (λ t. length t ≤ 16) (sym e) (fraction_length 16 f) in
    let units : ℕ → Option ℤ = λ digits. in_i64 (units_of negative (length ds) digits) in
    ap (λ b. cond b (option_and_then units (digits_after 0 (decimal (n / 65536) ++ ds))) None) (lengths_back (n / 65536) ds (omega arith) few)
    ∙ ap (option_and_then units) (digits_back (n / 65536) ds (omega arith) all)
    ∙ ap in_i64 (units_back negative n ds exact)

at_back : (negative : Bool) (n f : ℕ) → n ≤ 2 ^ 63 → f ≡ n % 65536 → fixed_at negative (decimal (n / 65536) ++ fraction_text f) (point_in (decimal (n / 65536) ++ fraction_text f)) ≡ in_i64 (with_sign negative n)
at_back negative n zero small e =
    let w = n / 65536 in
    ap (λ t. fixed_at negative t (point_in t)) (append-nil (decimal w))
    ∙ ap (fixed_at negative (decimal w)) (point_nowhere (decimal w) (digits_decimal numerals w (omega arith)))
    ∙ from_back negative n [] small (ap (fraction_digits 16) e)
at_back negative n (suc f) small e =
    let w = n / 65536 in
    let ds = fraction_digits 16 (suc f) in
    ap (fixed_at negative (decimal w ++ 46 ∷ ds)) (point_behind (decimal w) ds (digits_decimal numerals w (omega arith)))
    ∙ ap (λ t. with_point negative t (drop (suc (length (decimal w))) (decimal w ++ 46 ∷ ds))) (take-append_seam (decimal w) (46 ∷ ds))
    ∙ ap (with_point negative (decimal w)) (drop_behind (decimal w) ds)
    ∙ from_back negative n ds small (ap (fraction_digits 16) e)

size_back : (negative : Bool) (n : ℕ) → n ≤ 2 ^ 63 → fixed_at negative (size_text n) (point_in (size_text n)) ≡ in_i64 (with_sign negative n)
size_back negative n small = at_back negative n (n % 65536) small refl

no_sign : (c : ℕ) (b : Bool) → (is_ascii_digit c && b) ≡ true → (c == 45) ≡ false
no_sign c b h = grind (arith, nat_tests)

pub unsigned : (ds rest : List ℕ) → all_ascii_digits ds ≡ true → 0 < length ds → fixed_of (ds ++ rest) ≡ fixed_at false (ds ++ rest) (point_in (ds ++ rest))
unsigned [] rest all some_digit = absurd (omega arith)
unsigned (c ∷ cs) rest all some_digit =
    ap (λ b. cond b (fixed_at true (cs ++ rest) (point_in (cs ++ rest))) (fixed_at false (c ∷ (cs ++ rest)) (point_in (c ∷ (cs ++ rest))))) (no_sign c (all_ascii_digits cs) all)

pub fixed_of-fixed_text : (z : ℤ) → fits_i64 z ≡ true → fixed_of (fixed_text z) ≡ Some z
fixed_of-fixed_text (pos n) h =
    let small : n < 2 ^ 63 = ltb-true n (2 ^ 63) h in
    unsigned (decimal (n / 65536)) (fraction_text (n % 65536)) (digits_decimal numerals (n / 65536) (omega arith)) (decimal_nonempty (n / 65536) (omega arith))
    ∙ size_back false n (omega arith) ∙ ap (λ b. cond b (Some (pos n)) None) h
fixed_of-fixed_text (negsuc n) h =
    let small : n < 2 ^ 63 = ltb-true n (2 ^ 63) h in
    size_back true (suc n) (omega arith) ∙ ap (λ b. cond b (Some (negsuc n)) None) h
