-- Names and numbers are given back by their texts.
use Rattle.std.proofs.Common.{◌≡◌, ℕ, zero, suc, ◌+◌, ◌*◌, ◌/◌, ◌%◌, ◌<◌, ◌≤◌, ◌^◌, min, ℤ, pos, Bool, true, false, cond, ◌&&◌, if◌then◌else◌, ◌==◌, [], ◌∷◌, ◌++◌, length, drop, slice_index, decimal, refl, sym, ap, ◌∙◌, append_assoc, append-nil, arith, rules}
use Rattle.std.specs.Prelude.{Option, Some, None, option_and_then}
use Rattle.std.specs.Char.{is_ascii_digit}
use Rattle.std.specs.Str.{all_ascii_digits}
use Rattle.std.specs.List.{prefix_len, list_all}
use Rattle.std.proofs.Math.Seq.{take-append_seam, get_or-append_seam}
use Rattle.std.proofs.lemmas.Bool.{lt-ltb}
use Rattle.std.proofs.lemmas.Bool.Decides.{nat_tests}
use Rattle.std.proofs.lemmas.Fmt.{digits_decimal, digits_value-decimal, decimal_nonempty}
use Rattle.eb_base.specs.Arithmetic.{fits_i64}
use Rattle.eb_base.specs.Digits.{value_after, digits_after, below}
use Rattle.eb_base.specs.FixedPoint.{units_of, in_i64, with_point, fixed_at, fixed_of, fraction_digits, fraction_text}
use Rattle.eb_base.specs.TypeNames.{word_byte, letter, starts_with_letter}
use Rattle.eb_base.proofs.Printed.{numerals, point_behind, drop_behind}
use Rattle.eb_base.proofs.FixedPrints.{units_back, digits_back, lengths_back, unsigned, fraction_exact, fraction_all, fraction_length}
use Rattle.eb_rule_text.specs.declared.cutting.Sort.TheVariants as sort
use Rattle.eb_rule_text.specs.declared.cutting.Start.TheVariants as start
use Rattle.eb_rule_text.specs.declared.cutting.Run.TheVariants as run
use Rattle.eb_rule_text.specs.declared.lexemes.Lexeme.TheVariants as l
use Rattle.eb_rule_text.specs.declared.lexing.Found.TheVariants as found
use Rattle.eb_rule_text.specs.Tokens.{Text, cut, cut_at, start_of, is_in, is_digit, is_blank, number_where, keyword, int_found, fix_found, meaning}
use Rattle.eb_rule_text.specs.Spelling.{spell, has_point, pointed, IsSpelled}

-- ---- names

head_true : (a b : Bool) → (a && b) ≡ true → (a ≡ true) × (b ≡ true)
head_true true b h = (refl, h)
head_true false b h = absurd (search rules)

word_run : (x rest : Text) → list_all word_byte x ≡ true → prefix_len word_byte (x ++ 32 ∷ rest) ≡ length x
word_run [] rest h = refl
word_run (c ∷ cs) rest h =
    let p = head_true (word_byte c) (list_all word_byte cs) h in
    ap (λ b. cond b (1 + prefix_len word_byte (cs ++ 32 ∷ rest)) 0) p.0 ∙ ap (λ n. 1 + n) (word_run cs rest p.1) ∙ omega arith

letter_where : (c : ℕ) (a b d w : Bool) → a ≡ false → b ≡ false → d ≡ false → w ≡ true
    → (if a then start.Blank else (if b then start.Comment else (if d then start.Number else (if w then start.Word else start.Other)))) ≡ start.Word
letter_where c a b d w ea eb ed ew = rw (ea, eb, ed, ew) refl

letter_starts : (c : ℕ) → letter c ≡ true → start_of c ≡ start.Word
letter_starts c h = letter_where c (is_blank c) (c == 35) (is_digit c) (word_byte c) (grind (arith, nat_tests)) (grind (arith, nat_tests)) (grind (arith, nat_tests)) (rw h refl)

short : (n : ℕ) → n ≤ 32 → min n 32 ≡ n
short n h = omega arith

name_cut : (c : ℕ) (cs rest : Text) → letter c ≡ true → list_all word_byte (c ∷ cs) ≡ true → length (c ∷ cs) ≤ 32 → cut ((c ∷ cs) ++ 32 ∷ rest) ≡ (sort.Word, length (c ∷ cs))
unfolding cut
name_cut c cs rest h all few =
    ap (λ s. cut_at s ((c ∷ cs) ++ 32 ∷ rest)) (letter_starts c h)
    ∙ ap (λ n. (sort.Word, min n 32)) (word_run (c ∷ cs) rest all) ∙ ap (λ n. (sort.Word, n)) (short (length (c ∷ cs)) few)

name_means : (c : ℕ) (cs : Text) → letter c ≡ true → keyword (c ∷ cs) ≡ None → meaning sort.Word (c ∷ cs) ≡ found.Token (l.Name (c ∷ cs))
name_means c cs h free = rw (free, h) refl

pub name_spelled : (x : Text) → starts_with_letter x ≡ true → list_all word_byte x ≡ true → length x ≤ 32 → keyword x ≡ None → IsSpelled (l.Name x)
name_spelled [] h all few free = absurd (search rules)
name_spelled (c ∷ cs) h all few free = record { of = sort.Word; some = omega arith; cuts = λ rest. name_cut c cs rest h all few; means = name_means c cs h free }

-- ---- whole numbers

digit_is : (c : ℕ) → is_ascii_digit c ≡ true → is_digit c ≡ true
digit_is c h = grind (arith, nat_tests)

number_where_ : (c : ℕ) (a b d : Bool) → a ≡ false → b ≡ false → d ≡ true
    → (if a then start.Blank else (if b then start.Comment else (if d then start.Number else (if word_byte c then start.Word else start.Other)))) ≡ start.Number
number_where_ c a b d ea eb ed = rw (ea, eb, ed) refl

digit_starts : (c : ℕ) → is_ascii_digit c ≡ true → start_of c ≡ start.Number
digit_starts c h = number_where_ c (is_blank c) (c == 35) (is_digit c) (grind (arith, nat_tests)) (grind (arith, nat_tests)) (digit_is c h)

digits_run : (ds rest : Text) (c : ℕ) → all_ascii_digits ds ≡ true → is_digit c ≡ false → prefix_len (is_in run.Digits) (ds ++ c ∷ rest) ≡ length ds
digits_run [] rest c all h = ap (λ b. cond b (1 + prefix_len (is_in run.Digits) rest) 0) h
digits_run (d ∷ ds) rest c all h =
    let p = head_true (is_ascii_digit d) (all_ascii_digits ds) all in
    ap (λ b. cond b (1 + prefix_len (is_in run.Digits) (ds ++ c ∷ rest)) 0) (digit_is d p.0) ∙ ap (λ n. 1 + n) (digits_run ds rest c p.1 h) ∙ omega arith

first_starts : (ds rest : Text) → all_ascii_digits ds ≡ true → 0 < length ds → start_of (slice_index (ds ++ rest) 0) ≡ start.Number
first_starts [] rest all some = absurd (omega arith)
first_starts (d ∷ ds) rest all some = digit_starts d (head_true (is_ascii_digit d) (all_ascii_digits ds) all).0

no_fraction : (b : Bool) → (32 == 46 && b) ≡ false
no_fraction b = refl

int_cut : (ds rest : Text) → all_ascii_digits ds ≡ true → 0 < length ds → cut (ds ++ 32 ∷ rest) ≡ (sort.Int, length ds)
unfolding cut
int_cut ds rest all some =
    let z = ds ++ 32 ∷ rest in
    let long = digits_run ds rest 32 all refl in
    let behind : slice_index z (length ds) ≡ 32 = get_or-append_seam ds 32 rest 0 in
    ap (λ s. cut_at s z) (first_starts ds (32 ∷ rest) all some)
    ∙ ap (λ n. number_where (slice_index z n == 46 && is_digit (slice_index z (n + 1))) n z) long
    ∙ ap (λ c. number_where (c == 46 && is_digit (slice_index z (length ds + 1))) (length ds) z) behind

int_means : (n : ℕ) → n < 2 ^ 63 → meaning sort.Int (decimal n) ≡ found.Token (l.Int (pos n))
int_means n small =
    let room : n < 2 ^ 64 = omega arith in
    ap (λ b. int_found (below (2 ^ 63) (cond b (Some (value_after 0 (decimal n))) None))) (digits_decimal numerals n room)
    ∙ ap (λ v. int_found (below (2 ^ 63) (Some v))) (digits_value-decimal numerals n room)
    ∙ ap (λ b. int_found (cond b (Some n) None)) (lt-ltb n (2 ^ 63) small)

pub int_spelled : (n : ℕ) → n < 2 ^ 63 → IsSpelled (l.Int (pos n))
int_spelled n small =
    let room : n < 2 ^ 64 = omega arith in
    let some : 0 < length (decimal n) = decimal_nonempty n (omega arith) in
    record { of = sort.Int; some = omega (arith, some); cuts = λ rest. int_cut (decimal n) rest (digits_decimal numerals n room) some; means = int_means n small }

-- ---- numbers with a point

fraction_goes : (d : ℕ) → is_ascii_digit d ≡ true → (46 == 46 && is_digit d) ≡ true
fraction_goes d h = digit_is d h

point_parts : (ds fs rest : Text) → (ds ++ 46 ∷ fs) ++ 32 ∷ rest ≡ ds ++ 46 ∷ (fs ++ 32 ∷ rest)
point_parts ds fs rest = append_assoc ds (46 ∷ fs) (32 ∷ rest)

length_parts : (ds fs : Text) → length (ds ++ 46 ∷ fs) ≡ length ds + 1 + length fs
length_parts [] fs = omega arith
length_parts (d ∷ ds) fs = let a = length_parts ds fs in omega (arith, a)

second : (ds : Text) (d : ℕ) (rest : Text) → slice_index (ds ++ 46 ∷ d ∷ rest) (length ds + 1) ≡ d
second [] d rest = refl
second (c ∷ cs) d rest = let e : suc (length cs) + 1 ≡ suc (length cs + 1) = omega arith in ap (slice_index ((c ∷ cs) ++ 46 ∷ d ∷ rest)) e ∙ second cs d rest

behind_point : (ds rest : Text) → drop (length ds + 1) (ds ++ 46 ∷ rest) ≡ rest
behind_point ds rest = let e : length ds + 1 ≡ suc (length ds) = omega arith in ap (λ n. drop n (ds ++ 46 ∷ rest)) e ∙ drop_behind ds rest

fix_cut : (ds : Text) (d : ℕ) (fs rest : Text) → all_ascii_digits ds ≡ true → 0 < length ds → all_ascii_digits (d ∷ fs) ≡ true
    → cut ((ds ++ 46 ∷ d ∷ fs) ++ 32 ∷ rest) ≡ (sort.Fix, length (ds ++ 46 ∷ d ∷ fs))
unfolding cut
fix_cut ds d fs rest all some more =
    let z = ds ++ 46 ∷ ((d ∷ fs) ++ 32 ∷ rest) in
    let long = digits_run ds ((d ∷ fs) ++ 32 ∷ rest) 46 all refl in
    let behind : slice_index z (length ds) ≡ 46 = get_or-append_seam ds 46 ((d ∷ fs) ++ 32 ∷ rest) 0 in
    let next = second ds d (fs ++ 32 ∷ rest) in
    let first = (head_true (is_ascii_digit d) (all_ascii_digits fs) more).0 in
    ap (λ t. cut_at (start_of (slice_index t 0)) t) (point_parts ds (d ∷ fs) rest)
    ∙ ap (λ s. cut_at s z) (first_starts ds (46 ∷ ((d ∷ fs) ++ 32 ∷ rest)) all some)
    ∙ ap (λ n. number_where (slice_index z n == 46 && is_digit (slice_index z (n + 1))) n z) long
    ∙ ap (λ c. number_where (c == 46 && is_digit (slice_index z (length ds + 1))) (length ds) z) behind
    ∙ ap (λ c. number_where (46 == 46 && is_digit c) (length ds) z) next
    ∙ ap (λ b. number_where b (length ds) z) (fraction_goes d first)
    ∙ ap (λ t. (sort.Fix, length ds + 1 + prefix_len (is_in run.Digits) t)) (behind_point ds ((d ∷ fs) ++ 32 ∷ rest))
    ∙ ap (λ n. (sort.Fix, length ds + 1 + n)) (digits_run (d ∷ fs) rest 32 more refl)
    ∙ ap (λ n. (sort.Fix, n)) (sym (length_parts ds (d ∷ fs)))

fits : (n : ℕ) → n < 2 ^ 63 → fits_i64 (pos n) ≡ true
fits n h = lt-ltb n (2 ^ 63) h

fixed_back : (n d : ℕ) (fs : Text) → n < 2 ^ 63 → all_ascii_digits (d ∷ fs) ≡ true → length (d ∷ fs) ≤ 16 → value_after 0 (d ∷ fs) * 65536 ≡ n % 65536 * 10 ^ length (d ∷ fs)
    → fixed_of (decimal (n / 65536) ++ 46 ∷ d ∷ fs) ≡ Some (pos n)
fixed_back n d fs small all few exact =
    let w = n / 65536 in
    let ds = d ∷ fs in
    let digits = digits_decimal numerals w (omega arith) in
    let units : ℕ → Option ℤ = λ q. in_i64 (units_of false (length ds) q) in
    unsigned (decimal w) (46 ∷ ds) digits (decimal_nonempty w (omega arith))
    ∙ ap (fixed_at false (decimal w ++ 46 ∷ ds)) (point_behind (decimal w) ds digits)
    ∙ ap (λ t. with_point false t (drop (suc (length (decimal w))) (decimal w ++ 46 ∷ ds))) (take-append_seam (decimal w) (46 ∷ ds))
    ∙ ap (with_point false (decimal w)) (drop_behind (decimal w) ds)
    ∙ ap (λ b. cond b (option_and_then units (digits_after 0 (decimal w ++ ds))) None) (lengths_back w ds (omega arith) few)
    ∙ ap (option_and_then units) (digits_back w ds (omega arith) all)
    ∙ ap in_i64 (units_back false n ds exact)
    ∙ ap (λ b. cond b (Some (pos n)) None) (fits n small)

-- the digits that are printed behind the point
record Parts (n : ℕ) : Type 0 where
  first : ℕ
  more : Text
  text : spell (l.Fix (pos n)) ≡ decimal (n / 65536) ++ 46 ∷ first ∷ more
  all : all_ascii_digits (first ∷ more) ≡ true
  few : length (first ∷ more) ≤ 16
  exact : value_after 0 (first ∷ more) * 65536 ≡ n % 65536 * 10 ^ length (first ∷ more)

no_point_at : (c : ℕ) → is_ascii_digit c ≡ true → (c == 46) ≡ false
no_point_at c h = grind (arith, nat_tests)

no_point : (ds : Text) → all_ascii_digits ds ≡ true → has_point ds ≡ false
no_point [] h = refl
no_point (c ∷ cs) h = let p = head_true (is_ascii_digit c) (all_ascii_digits cs) h in let e : (c == 46) ≡ false = no_point_at c p.0 in rw e (no_point cs p.1)

some_point : (ds rest : Text) → all_ascii_digits ds ≡ true → has_point (ds ++ 46 ∷ rest) ≡ true
some_point [] rest h = refl
some_point (c ∷ cs) rest h = let p = head_true (is_ascii_digit c) (all_ascii_digits cs) h in let e : (c == 46) ≡ false = no_point_at c p.0 in rw e (some_point cs rest p.1)

whole_text : (ds : Text) → all_ascii_digits ds ≡ true → pointed (ds ++ []) ≡ ds ++ 46 ∷ 48 ∷ []
whole_text ds h = ap pointed (append-nil ds) ∙ ap (λ b. if b then ds else ds ++ 46 ∷ 48 ∷ []) (no_point ds h)

fraction_left : (ds rest : Text) → all_ascii_digits ds ≡ true → pointed (ds ++ 46 ∷ rest) ≡ ds ++ 46 ∷ rest
fraction_left ds rest h = ap (λ b. if b then ds ++ 46 ∷ rest else (ds ++ 46 ∷ rest) ++ 46 ∷ 48 ∷ []) (some_point ds rest h)

parts_where : (n r : ℕ) → n < 2 ^ 63 → n % 65536 ≡ r → Parts n
parts_where n zero small e =
    let w = n / 65536 in
    let digits = digits_decimal numerals w (omega arith) in
    record {
      first = 48;
      more = [];
      text = ap (λ q. pointed (decimal w ++ fraction_text q)) e ∙ whole_text (decimal w) digits;
      all = refl;
      few = omega arith;
      exact = ap (λ q. q * 10 ^ 1) (sym e);
    }
parts_where n (suc r) small e =
    let w = n / 65536 in
    let digits = digits_decimal numerals w (omega arith) in
    let f = suc r in
    let less : f < 65536 = omega arith in
    let exact = fraction_exact 16 f (f * 152587890625) less (omega arith) in
    record {
      first = 48 + f * 10 / 65536;
      more = fraction_digits 15 (f * 10 % 65536);
      text = ap (λ q. pointed (decimal w ++ fraction_text q)) e ∙ fraction_left (decimal w) (fraction_digits 16 f) digits;
      all = fraction_all 16 f less;
      few = fraction_length 16 f;
      exact = exact ∙ ap (λ q. q * 10 ^ length (fraction_digits 16 f)) (sym e);
    }

fix_from : (n : ℕ) → n < 2 ^ 63 → Parts n → IsSpelled (l.Fix (pos n))
fix_from n small p =
    let w = n / 65536 in
    let digits = digits_decimal numerals w (omega arith) in
    let some : 0 < length (decimal w) = decimal_nonempty w (omega arith) in
    let z = decimal w ++ 46 ∷ p.first ∷ p.more in
    let long : 1 ≤ length z = omega (arith, length_parts (decimal w) (p.first ∷ p.more)) in
    record {
      of = sort.Fix;
      some = rw p.text long;
      cuts = λ rest. rw p.text (fix_cut (decimal w) p.first p.more rest digits some p.all);
      means = rw p.text (ap fix_found (fixed_back n p.first p.more small p.all p.few p.exact));
    }

pub fix_spelled : (n : ℕ) → n < 2 ^ 63 → IsSpelled (l.Fix (pos n))
fix_spelled n small = fix_from n small (parts_where n (n % 65536) small refl)
