-- What is cut from the front of a text is the longest token there.
use Rattle.std.proofs.Common.{◌≡◌, ℕ, zero, suc, ◌+◌, ◌<◌, ◌≤◌, min, Bool, true, false, cond, ◌&&◌, ◌||◌, if◌then◌else◌, ◌==◌, nat_le, List, [], ◌∷◌, ◌++◌, length, take, drop, slice_index, refl, sym, ap, ◌∙◌, append_assoc, subst, arith, rules}
use Rattle.std.specs.Prelude.{Option, Some, None, bytes_eq}
use Rattle.std.specs.List.{prefix_len, list_all, list_any}
use Rattle.std.proofs.lemmas.List.{length-take-le, take-append-drop}
use Rattle.std.proofs.lemmas.Bool.Decides.{nat_tests, Decides-eqb}
use Rattle.std.proofs.lemmas.Slice.Eq.{bytes_eq-Decides}
use Rattle.eb_base.specs.TypeNames.{word_byte}
use Rattle.eb_rule_text.specs.declared.cutting.Sort.{Sort}
use Rattle.eb_rule_text.specs.declared.cutting.Sort.TheVariants as sort
use Rattle.eb_rule_text.specs.declared.cutting.Start.{Start}
use Rattle.eb_rule_text.specs.declared.cutting.Start.TheVariants as start
use Rattle.eb_rule_text.specs.declared.marks.Mark.{Mark}
use Rattle.eb_rule_text.specs.declared.marks.Mark.TheVariants as m
use Rattle.eb_rule_text.specs.Tokens.{Text, is_digit, is_blank, start_of, number_where, pair, double, single, longer, cut_at, cut, is_found}
use Rattle.eb_rule_text.specs.OneToken.{IsWord, AreDigits, HasPoint, signs, is_sign, IsOf, BeginsNone, Takes, TakesLongest}

-- ---- runs of bytes
both : (a b : Bool) → (a && b) ≡ true → (a ≡ true) × (b ≡ true)
both true b h = (refl, h)
both false b h = absurd (search rules)

front_step : (p : ℕ → Bool) (cs : Text) (n : ℕ) (b : Bool) → (n ≤ prefix_len p cs → list_all p (take n cs) ≡ true) → suc n ≤ cond b (1 + prefix_len p cs) 0 → (b && list_all p (take n cs)) ≡ true
front_step p cs n true more h = more (omega arith)
front_step p cs n false more h = absurd (omega arith)

-- a run's bytes pass its test
run_passes : (p : ℕ → Bool) (z : Text) (n : ℕ) → n ≤ prefix_len p z → list_all p (take n z) ≡ true
run_passes p z zero h = refl
run_passes p [] (suc n) h = refl
run_passes p (c ∷ cs) (suc n) h = front_step p cs n (p c) (run_passes p cs n) h

longer_step : (p : ℕ → Bool) (cs : Text) (n : ℕ) (b : Bool) → (list_all p (take n cs) ≡ true → n ≤ prefix_len p cs) → (b && list_all p (take n cs)) ≡ true → suc n ≤ cond b (1 + prefix_len p cs) 0
longer_step p cs n true more h = let a = more h in omega (arith, a)
longer_step p cs n false more h = absurd (search rules)

-- and no front whose bytes pass it is longer
run_longest : (p : ℕ → Bool) (z : Text) (n : ℕ) → n ≤ length z → list_all p (take n z) ≡ true → n ≤ prefix_len p z
run_longest p z zero few h = omega arith
run_longest p [] (suc n) few h = absurd (omega arith)
run_longest p (c ∷ cs) (suc n) few h = longer_step p cs n (p c) (run_longest p cs n (omega arith)) h

within_step : (p : ℕ → Bool) (cs : Text) (b : Bool) → prefix_len p cs ≤ length cs → cond b (1 + prefix_len p cs) 0 ≤ suc (length cs)
within_step p cs true h = omega arith
within_step p cs false h = omega arith

run_within : (p : ℕ → Bool) (z : Text) → prefix_len p z ≤ length z
run_within p [] = omega arith
run_within p (c ∷ cs) = within_step p cs (p c) (run_within p cs)

some_step : (p : ℕ → Bool) (cs : Text) (b : Bool) → b ≡ true → 1 ≤ cond b (1 + prefix_len p cs) 0
some_step p cs true h = omega arith
some_step p cs false h = absurd (search rules)

run_some : (p : ℕ → Bool) (z : Text) → 0 < length z → p (slice_index z 0) ≡ true → 1 ≤ prefix_len p z
run_some p [] some h = absurd (omega arith)
run_some p (c ∷ cs) some h = some_step p cs (p c) h

first_stays : (n : ℕ) (z : Text) → 1 ≤ n → slice_index (take n z) 0 ≡ slice_index z 0
first_stays zero z h = absurd (omega arith)
first_stays (suc n) [] h = refl
first_stays (suc n) (c ∷ cs) h = refl

-- ---- signs

same_text : (s z : Text) → bytes_eq s z ≡ true → s ≡ z
same_text s z h = (bytes_eq-Decides s z).0 h

sign_step : (test : Text → Bool) (s z : Text) (b rest : Bool) → bytes_eq s z ≡ b → test s ≡ true → (rest ≡ true → test z ≡ true) → (b || rest) ≡ true → test z ≡ true
sign_step test s z true rest e h more g = subst (λ x. test x ≡ true) (same_text s z e) h
sign_step test s z false rest e h more g = more g

-- what is true of each sign is true of a text that is one of them
of_signs : (test : Text → Bool) (all : List Text) (z : Text) → list_all test all ≡ true → list_any (λ s. bytes_eq s z) all ≡ true → test z ≡ true
of_signs test [] z each h = absurd (search rules)
of_signs test (s ∷ ss) z each h =
    let a = both (test s) (list_all test ss) each in
    sign_step test s z (bytes_eq s z) (list_any (λ t. bytes_eq t z) ss) refl a.0 (of_signs test ss z a.1) h

abbrev is_other : Start → Bool
is_other start.Other = true
is_other _ = false

abbrev begins_other : Text → Bool
begins_other z = is_other (start_of (slice_index z 0))

abbrev is_short : Text → Bool
is_short z = nat_le 1 (length z) && nat_le (length z) 2

abbrev is_cut : Text → Bool
is_cut [] = false
is_cut (b ∷ []) = is_found (single b)
is_cut (b ∷ c ∷ z) = is_found (double b c)

other_is : (s : Start) → is_other s ≡ true → s ≡ start.Other
other_is start.Other h = refl
other_is _ h = absurd (search rules)

sign_begins : (z : Text) → is_sign z ≡ true → start_of (slice_index z 0) ≡ start.Other
sign_begins z h = other_is (start_of (slice_index z 0)) (of_signs begins_other signs z refl h)

sign_short : (z : Text) → is_sign z ≡ true → (1 ≤ length z) × (length z ≤ 2)
sign_short z h = let a = of_signs is_short signs z refl h in (grind (arith, nat_tests), grind (arith, nat_tests))

sign_cut : (z : Text) → is_sign z ≡ true → is_cut z ≡ true
sign_cut z h = of_signs is_cut signs z refl h

-- ---- how a token begins

abbrev class : Bool → Bool → Bool → Bool → Start
class a b d w = if a then start.Blank else (if b then start.Comment else (if d then start.Number else (if w then start.Word else start.Other)))

digit_class : (c : ℕ) (a b d : Bool) → a ≡ false → b ≡ false → d ≡ true → class a b d (word_byte c) ≡ start.Number
digit_class c a b d ea eb ed = rw (ea, eb, ed) refl

digit_starts : (c : ℕ) → is_digit c ≡ true → start_of c ≡ start.Number
digit_starts c h = digit_class c (is_blank c) (c == 35) (is_digit c) (grind (arith, nat_tests)) (grind (arith, nat_tests)) h

word_class : (a b d w : Bool) → a ≡ false → b ≡ false → d ≡ false → w ≡ true → class a b d w ≡ start.Word
word_class a b d w ea eb ed ew = rw (ea, eb, ed, ew) refl

word_starts : (c : ℕ) → word_byte c ≡ true → is_digit c ≡ false → start_of c ≡ start.Word
word_starts c h d = word_class (is_blank c) (c == 35) (is_digit c) (word_byte c) (grind (arith, nat_tests)) (grind (arith, nat_tests)) d h

-- what the class of a byte says of it
abbrev Says : Start → ℕ → Type 0
Says start.Number c = is_digit c ≡ true
Says start.Word c = (is_digit c ≡ false) × (word_byte c ≡ true)
Says _ c = Unit {0}

class_says : (c : ℕ) (a b d w : Bool) → is_digit c ≡ d → word_byte c ≡ w → Says (class a b d w) c
class_says c true b d w ed ew = tt
class_says c false true d w ed ew = tt
class_says c false false true w ed ew = ed
class_says c false false false true ed ew = (ed, ew)
class_says c false false false false ed ew = tt

says : (c : ℕ) (s : Start) → start_of c ≡ s → Says s c
says c s e = subst (λ k. Says k c) e (class_says c (is_blank c) (c == 35) (is_digit c) (word_byte c) refl refl)

first_passes : (p : ℕ → Bool) (z : Text) → 1 ≤ length z → list_all p z ≡ true → p (slice_index z 0) ≡ true
first_passes p [] some h = absurd (omega arith)
first_passes p (c ∷ cs) some h = (both (p c) (list_all p cs) h).0

first_whole : (w r : Text) → 1 ≤ length w → slice_index (w ++ r) 0 ≡ slice_index w 0
first_whole [] r some = absurd (omega arith)
first_whole (c ∷ cs) r some = refl

digits_begin : (z : Text) → AreDigits z → start_of (slice_index z 0) ≡ start.Number
digits_begin z are = digit_starts (slice_index z 0) (first_passes is_digit z are.some are.all)

-- the class of the first byte of a token of this sort
abbrev begins : Sort → Start
begins sort.Word = start.Word
begins sort.Int = start.Number
begins sort.Fix = start.Number
begins _ = start.Other

token_begins : (s : Sort) (z : Text) → IsOf s z → start_of (slice_index z 0) ≡ begins s
token_begins sort.Blank z is = absurd is
token_begins sort.Word z is = word_starts (slice_index z 0) (first_passes word_byte z is.some is.all) is.begins
token_begins sort.Int z is = digits_begin z is
token_begins sort.Fix z is = ap (λ x. start_of (slice_index x 0)) is.is ∙ ap start_of (first_whole is.whole (46 ∷ is.fraction) is.before.some) ∙ digits_begin is.whole is.before
token_begins (sort.Sign k) z is = sign_begins z is.0
token_begins sort.Illegal z is = absurd is

point_some : (w f : Text) → 1 ≤ length (w ++ 46 ∷ f)
point_some [] f = omega arith
point_some (c ∷ w) f = omega arith

token_some : (s : Sort) (z : Text) → IsOf s z → 1 ≤ length z
token_some sort.Blank z is = absurd is
token_some sort.Word z is = is.some
token_some sort.Int z is = is.some
token_some sort.Fix z is = rw is.is (point_some is.whole is.fraction)
token_some (sort.Sign k) z is = (sign_short z is.0).0
token_some sort.Illegal z is = absurd is

-- a front that is a token begins as the text does
front_begins : (z : Text) (m : ℕ) (s : Sort) → IsOf s (take m z) → start_of (slice_index z 0) ≡ begins s
front_begins z zero s is = let a = token_some s [] is in absurd (omega arith)
front_begins z (suc m) s is = ap start_of (sym (first_stays (suc m) z (omega arith))) ∙ token_begins s (take (suc m) z) is

-- ---- blanks and comments

gap_none : (s : Sort) → (start.Blank ≡ begins s → ⊥) × (start.Comment ≡ begins s → ⊥)
gap_none sort.Blank = (λ h. search rules, λ h. search rules)
gap_none sort.Word = (λ h. search rules, λ h. search rules)
gap_none sort.Int = (λ h. search rules, λ h. search rules)
gap_none sort.Fix = (λ h. search rules, λ h. search rules)
gap_none (sort.Sign k) = (λ h. search rules, λ h. search rules)
gap_none sort.Illegal = (λ h. search rules, λ h. search rules)

blank_takes : (z : Text) → start_of (slice_index z 0) ≡ start.Blank → BeginsNone z
blank_takes z e m is = (gap_none is.of).0 (sym e ∙ front_begins z m is.of is.is)

comment_takes : (z : Text) → start_of (slice_index z 0) ≡ start.Comment → BeginsNone z
comment_takes z e m is = (gap_none is.of).1 (sym e ∙ front_begins z m is.of is.is)

-- ---- words

word_no_longer : (z : Text) (m : ℕ) (s : Sort) → start_of (slice_index z 0) ≡ start.Word → min (prefix_len word_byte z) 32 < m → m ≤ length z → IsOf s (take m z) → ⊥
word_no_longer z m sort.Blank e more few is = is
word_no_longer z m sort.Word e more few is =
    let a = run_longest word_byte z m few is.all in
    let b = length-take-le m z few in
    let c = is.few in
    omega (arith, a, b, c)
word_no_longer z m sort.Int e more few is = let c = sym e ∙ front_begins z m sort.Int is in search rules
word_no_longer z m sort.Fix e more few is = let c = sym e ∙ front_begins z m sort.Fix is in search rules
word_no_longer z m (sort.Sign k) e more few is = let c = sym e ∙ front_begins z m (sort.Sign k) is in search rules
word_no_longer z m sort.Illegal e more few is = is

word_front : (z : Text) (n : ℕ) → n ≡ min (prefix_len word_byte z) 32 → 0 < length z → is_digit (slice_index z 0) ≡ false → word_byte (slice_index z 0) ≡ true → IsWord (take n z)
word_front z n e some d w =
    let a = run_within word_byte z in
    let b = run_some word_byte z some w in
    let c = length-take-le n z (omega arith) in
    record {
      some = omega (arith, b, c);
      few = omega (arith, c);
      all = run_passes word_byte z n (omega arith);
      begins = ap is_digit (first_stays n z (omega (arith, b))) ∙ d;
    }

word_takes : (z : Text) → 0 < length z → start_of (slice_index z 0) ≡ start.Word → Takes sort.Word (min (prefix_len word_byte z) 32) z
word_takes z some e =
    let a = says (slice_index z 0) start.Word e in
    (word_front z (min (prefix_len word_byte z) 32) refl some a.0 a.1, λ m more few is. word_no_longer z m is.of e more few is.is)

-- ---- numbers

-- Where a point with a digit behind it follows the digits at the front of a text.
record Pointed (z : Text) (m : ℕ) : Type 0 where
  more : ℕ
  point : slice_index z (prefix_len is_digit z) ≡ 46
  digit : is_digit (slice_index z (prefix_len is_digit z + 1)) ≡ true
  few : more ≤ prefix_len is_digit (drop (prefix_len is_digit z + 1) z)
  long : m ≡ prefix_len is_digit z + 1 + more

point_run : (w r : Text) → list_all is_digit w ≡ true → prefix_len is_digit (w ++ 46 ∷ r) ≡ length w
point_run [] r h = refl
point_run (c ∷ w) r h =
    let a = both (is_digit c) (list_all is_digit w) h in
    ap (λ b. cond b (1 + prefix_len is_digit (w ++ 46 ∷ r)) 0) a.0 ∙ ap (λ n. 1 + n) (point_run w r a.1) ∙ omega arith

point_at : (w r : Text) → slice_index (w ++ 46 ∷ r) (length w) ≡ 46
point_at [] r = refl
point_at (c ∷ w) r = point_at w r

one_more : (n : ℕ) → suc n + 1 ≡ suc (n + 1)
one_more n = omega arith

behind_point : (w r : Text) → drop (length w + 1) (w ++ 46 ∷ r) ≡ r
behind_point [] r = refl
behind_point (c ∷ w) r = ap (λ n. drop n (c ∷ (w ++ 46 ∷ r))) (one_more (length w)) ∙ behind_point w r

index_behind : (w r : Text) → slice_index (w ++ 46 ∷ r) (length w + 1) ≡ slice_index r 0
index_behind [] r = refl
index_behind (c ∷ w) r = ap (λ n. slice_index (c ∷ (w ++ 46 ∷ r)) n) (one_more (length w)) ∙ index_behind w r

run_of : (p : ℕ → Bool) (f r : Text) → list_all p f ≡ true → length f ≤ prefix_len p (f ++ r)
run_of p [] r h = omega arith
run_of p (c ∷ f) r h =
    let a = both (p c) (list_all p f) h in
    let b = run_of p f r a.1 in
    let e : cond (p c) (1 + prefix_len p (f ++ r)) 0 ≡ 1 + prefix_len p (f ++ r) = ap (λ t. cond t (1 + prefix_len p (f ++ r)) 0) a.0 in
    omega (arith, b, e)

length_pointed : (w f : Text) → length (w ++ 46 ∷ f) ≡ length w + 1 + length f
length_pointed [] f = omega arith
length_pointed (c ∷ w) f = let a = length_pointed w f in omega (arith, a)

pointed_of : (w f r : Text) → AreDigits w → AreDigits f → Pointed (w ++ 46 ∷ (f ++ r)) (length w + 1 + length f)
pointed_of w f r before behind =
    let e = point_run w (f ++ r) before.all in
    record {
      more = length f;
      point = ap (slice_index (w ++ 46 ∷ (f ++ r))) e ∙ point_at w (f ++ r);
      digit = ap (λ n. is_digit (slice_index (w ++ 46 ∷ (f ++ r)) (n + 1))) e ∙ ap is_digit (index_behind w (f ++ r) ∙ first_whole f r behind.some) ∙ first_passes is_digit f behind.some behind.all;
      few = rw (e, behind_point w (f ++ r)) (run_of is_digit f r behind.all);
      long = ap (λ n. n + 1 + length f) (sym e);
    }

pointed : (z : Text) (m : ℕ) → m ≤ length z → HasPoint (take m z) → Pointed z m
pointed z m few is =
    let e : is.whole ++ 46 ∷ (is.fraction ++ drop m z) ≡ z = sym (append_assoc is.whole (46 ∷ is.fraction) (drop m z)) ∙ ap (λ x. x ++ drop m z) (sym is.is) ∙ take-append-drop m z in
    let n : length is.whole + 1 + length is.fraction ≡ m = sym (length_pointed is.whole is.fraction) ∙ ap length (sym is.is) ∙ length-take-le m z few in
    subst (λ k. Pointed z k) n (subst (λ x. Pointed x (length is.whole + 1 + length is.fraction)) e (pointed_of is.whole is.fraction (drop m z) is.before is.behind))

abbrev goes_on : Text → Bool
goes_on z = slice_index z (prefix_len is_digit z) == 46 && is_digit (slice_index z (prefix_len is_digit z + 1))

pointed_goes : (z : Text) (m : ℕ) → Pointed z m → goes_on z ≡ true
pointed_goes z m is = rw (is.point, is.digit) refl

no_longer_pointed : (z : Text) (m : ℕ) (b : Bool) → goes_on z ≡ b → (number_where b (prefix_len is_digit z) z).1 < m → Pointed z m → ⊥
no_longer_pointed z m true e more is = let a = is.long in let b = is.few in omega (arith, a, b)
no_longer_pointed z m false e more is = let a = sym e ∙ pointed_goes z m is in search rules

at_least : (z : Text) (b : Bool) → prefix_len is_digit z ≤ (number_where b (prefix_len is_digit z) z).1
at_least z true = omega arith
at_least z false = omega arith

number_no_longer : (z : Text) (m : ℕ) (s : Sort) (b : Bool) → goes_on z ≡ b → start_of (slice_index z 0) ≡ start.Number
    → (number_where b (prefix_len is_digit z) z).1 < m → m ≤ length z → IsOf s (take m z) → ⊥
number_no_longer z m sort.Blank b g e more few is = is
number_no_longer z m sort.Word b g e more few is = let c = sym e ∙ front_begins z m sort.Word is in search rules
number_no_longer z m sort.Int b g e more few is = let a = run_longest is_digit z m few is.all in let c = at_least z b in omega (arith, a, c)
number_no_longer z m sort.Fix b g e more few is = no_longer_pointed z m b g more (pointed z m few is)
number_no_longer z m (sort.Sign k) b g e more few is = let c = sym e ∙ front_begins z m (sort.Sign k) is in search rules
number_no_longer z m sort.Illegal b g e more few is = is

index_within : (z : Text) (a c : ℕ) → 0 < c → slice_index z a ≡ c → a < length z
index_within [] a c some h = absurd (omega (arith, h))
index_within (x ∷ xs) zero c some h = omega arith
index_within (x ∷ xs) (suc a) c some h = let r = index_within xs a c some h in omega (arith, r)

seam : (z : Text) (a c : ℕ) → a < length z → take (a + 1 + c) z ≡ take a z ++ slice_index z a ∷ take c (drop (a + 1) z)
seam [] a c h = absurd (omega arith)
seam (x ∷ xs) zero c h = let e : 0 + 1 + c ≡ suc c = omega arith in ap (λ n. take n (x ∷ xs)) e
seam (x ∷ xs) (suc a) c h =
    let e : suc a + 1 + c ≡ suc (a + 1 + c) = omega arith in
    ap (λ n. take n (x ∷ xs)) e ∙ ap (λ t. x ∷ t) (seam xs a c (omega arith))
    ∙ ap (λ n. x ∷ (take a xs ++ slice_index xs a ∷ take c (drop n (x ∷ xs)))) (sym (one_more a))

digits_front : (z : Text) (n : ℕ) → n ≤ prefix_len is_digit z → 1 ≤ n → AreDigits (take n z)
digits_front z n few some =
    let a = run_within is_digit z in
    let b = length-take-le n z (omega arith) in
    record { some = omega (arith, b); all = run_passes is_digit z n few }

index_drop : (z : Text) (n : ℕ) → slice_index (drop n z) 0 ≡ slice_index z n
index_drop z zero = refl
index_drop [] (suc n) = refl
index_drop (x ∷ xs) (suc n) = index_drop xs n

digit_some : (z : Text) → is_digit (slice_index z 0) ≡ true → 0 < length z
digit_some [] h = absurd (search rules)
digit_some (x ∷ xs) h = omega arith

some_behind : (z : Text) (w : ℕ) → is_digit (slice_index z (w + 1)) ≡ true → 1 ≤ prefix_len is_digit (drop (w + 1) z)
some_behind z w digit =
    let a = ap is_digit (index_drop z (w + 1)) ∙ digit in run_some is_digit (drop (w + 1) z) (digit_some (drop (w + 1) z) a) a

point_front : (z : Text) (w : ℕ) → w ≡ prefix_len is_digit z → 1 ≤ w → slice_index z w ≡ 46 → is_digit (slice_index z (w + 1)) ≡ true → HasPoint (take (w + 1 + prefix_len is_digit (drop (w + 1) z)) z)
point_front z w e some point digit =
    let f = prefix_len is_digit (drop (w + 1) z) in
    let within = index_within z w 46 (omega arith) point in
    let behind = some_behind z w digit in
    record {
      whole = take w z;
      fraction = take f (drop (w + 1) z);
      is = seam z w f within ∙ ap (λ c. take w z ++ c ∷ take f (drop (w + 1) z)) point;
      before = digits_front z w (omega arith) some;
      behind = digits_front (drop (w + 1) z) f (omega arith) behind;
    }

number_front : (z : Text) (b : Bool) → goes_on z ≡ b → 1 ≤ prefix_len is_digit z → IsOf (number_where b (prefix_len is_digit z) z).0 (take (number_where b (prefix_len is_digit z) z).1 z)
number_front z false g some = digits_front z (prefix_len is_digit z) (omega arith) some
number_front z true g some =
    let w = prefix_len is_digit z in
    let a = both (slice_index z w == 46) (is_digit (slice_index z (w + 1))) g in
    point_front z w refl some ((Decides-eqb (slice_index z w) 46).0 a.0) a.1

number_takes_where : (z : Text) (b : Bool) → goes_on z ≡ b → 0 < length z → start_of (slice_index z 0) ≡ start.Number → TakesLongest (number_where b (prefix_len is_digit z) z) z
number_takes_where z true g some e =
    let d = run_some is_digit z some (says (slice_index z 0) start.Number e) in
    (number_front z true g d, λ m more few is. number_no_longer z m is.of true g e more few is.is)
number_takes_where z false g some e =
    let d = run_some is_digit z some (says (slice_index z 0) start.Number e) in
    (number_front z false g d, λ m more few is. number_no_longer z m is.of false g e more few is.is)

-- ---- signs at the front of a text

pick : (t : Bool) (x y : Option Mark) (k : Mark) (P : Type 0) → (if t then x else y) ≡ Some k → (t ≡ true → x ≡ Some k → P) → (y ≡ Some k → P) → P
pick true x y k P h f g = f refl h
pick false x y k P h f g = g h

abbrev Spelt : Mark → Text → Type 0
Spelt k z = IsOf (sort.Sign k) z

one_at : (b c : ℕ) (k t : Mark) → Spelt k (c ∷ []) → (b == c) ≡ true → Some k ≡ Some t → Spelt t (b ∷ [])
one_at b c k t is e f =
    let same : c ≡ b = sym ((Decides-eqb b c).0 e) in
    let mark : k ≡ t = search rules in
    subst (λ x. Spelt t (x ∷ [])) same (subst (λ x. Spelt x (c ∷ [])) mark is)

none_is : (k : Mark) (P : Type 0) → None ≡ Some k → P
none_is k P h = absurd (search rules)

single_is : (b : ℕ) (k : Mark) → single b ≡ Some k → Spelt k (b ∷ [])
single_is b k h =
    pick (b == 123) _ _ k _ h (one_at b 123 m.LBrace k (refl, refl)) (λ h.
    pick (b == 125) _ _ k _ h (one_at b 125 m.RBrace k (refl, refl)) (λ h.
    pick (b == 40) _ _ k _ h (one_at b 40 m.LParen k (refl, refl)) (λ h.
    pick (b == 41) _ _ k _ h (one_at b 41 m.RParen k (refl, refl)) (λ h.
    pick (b == 44) _ _ k _ h (one_at b 44 m.Comma k (refl, refl)) (λ h.
    pick (b == 58) _ _ k _ h (one_at b 58 m.Colon k (refl, refl)) (λ h.
    pick (b == 59) _ _ k _ h (one_at b 59 m.Semicolon k (refl, refl)) (λ h.
    pick (b == 46) _ _ k _ h (one_at b 46 m.Dot k (refl, refl)) (λ h.
    pick (b == 61) _ _ k _ h (one_at b 61 m.Assign k (refl, refl)) (λ h.
    pick (b == 60) _ _ k _ h (one_at b 60 m.Less k (refl, refl)) (λ h.
    pick (b == 62) _ _ k _ h (one_at b 62 m.Greater k (refl, refl)) (λ h.
    pick (b == 43) _ _ k _ h (one_at b 43 m.Plus k (refl, refl)) (λ h.
    pick (b == 45) _ _ k _ h (one_at b 45 m.Minus k (refl, refl)) (λ h.
    pick (b == 42) _ _ k _ h (one_at b 42 m.Star k (refl, refl)) (λ h.
    pick (b == 47) _ _ k _ h (one_at b 47 m.Slash k (refl, refl)) (λ h.
    pick (b == 33) _ _ k _ h (one_at b 33 m.Not k (refl, refl)) (none_is k _))))))))))))))))

two_at : (b c x y : ℕ) (k t : Mark) → Spelt k (x ∷ y ∷ []) → (b == x) ≡ true → pair c y k ≡ Some t → Spelt t (b ∷ c ∷ [])
two_at b c x y k t is e h = pick (c == y) (Some k) None t (Spelt t (b ∷ c ∷ [])) h (λ f g.
    let first : x ≡ b = sym ((Decides-eqb b x).0 e) in
    let next : y ≡ c = sym ((Decides-eqb c y).0 f) in
    let mark : k ≡ t = search rules in
    subst (λ a. Spelt t (b ∷ a ∷ [])) next (subst (λ a. Spelt t (a ∷ y ∷ [])) first (subst (λ a. Spelt a (x ∷ y ∷ [])) mark is))) (none_is t _)

double_is : (b c : ℕ) (k : Mark) → double b c ≡ Some k → Spelt k (b ∷ c ∷ [])
double_is b c k h =
    pick (b == 61) _ _ k _ h (two_at b c 61 61 m.Equal k (refl, refl)) (λ h.
    pick (b == 33) _ _ k _ h (two_at b c 33 61 m.NotEqual k (refl, refl)) (λ h.
    pick (b == 60) _ _ k _ h (two_at b c 60 61 m.AtMost k (refl, refl)) (λ h.
    pick (b == 62) _ _ k _ h (two_at b c 62 61 m.AtLeast k (refl, refl)) (λ h.
    pick (b == 38) _ _ k _ h (two_at b c 38 38 m.And k (refl, refl)) (λ h.
    pick (b == 124) _ _ k _ h (two_at b c 124 124 m.Either k (refl, refl)) (none_is k _))))))

-- the byte behind the end of a text is the second of no sign
abbrev is_whole : Text → Bool
is_whole [] = true
is_whole (b ∷ []) = true
is_whole (b ∷ c ∷ z) = nat_le 1 c

second_some : (b : ℕ) (k : Mark) → double b 0 ≡ Some k → ⊥
second_some b k h = let a = of_signs is_whole signs (b ∷ 0 ∷ []) refl (double_is b 0 k h).0 in search rules

two_front : (z : Text) (k : Mark) → 0 < length z → double (slice_index z 0) (slice_index z 1) ≡ Some k → Spelt k (take 2 z)
two_front [] k some h = absurd (omega arith)
two_front (b ∷ []) k some h = absurd (second_some b k h)
two_front (b ∷ c ∷ z) k some h = double_is b c k h

one_front : (z : Text) (k : Mark) → 0 < length z → single (slice_index z 0) ≡ Some k → Spelt k (take 1 z)
one_front [] k some h = absurd (omega arith)
one_front (b ∷ z) k some h = single_is b k h

unfound : (o : Option Mark) → o ≡ None → is_found o ≡ true → ⊥
unfound None e h = search rules
unfound (Some k) e h = search rules

too_long : (b c d : ℕ) (z : Text) → is_sign (b ∷ c ∷ d ∷ z) ≡ true → ⊥
too_long b c d z h = let a = sign_short (b ∷ c ∷ d ∷ z) h in omega (arith, a.1)

-- where two bytes are no sign, only the first of them can be one
no_pair : (z : Text) (m : ℕ) → double (slice_index z 0) (slice_index z 1) ≡ None → 1 < m → m ≤ length z → is_sign (take m z) ≡ true → ⊥
no_pair z zero none more few h = omega arith
no_pair z (suc zero) none more few h = omega arith
no_pair [] (suc (suc m)) none more few h = omega arith
no_pair (b ∷ []) (suc (suc m)) none more few h = omega arith
no_pair (b ∷ c ∷ z) (suc (suc zero)) none more few h = unfound (double b c) none (sign_cut (b ∷ c ∷ []) h)
no_pair (b ∷ c ∷ []) (suc (suc (suc m))) none more few h = omega arith
no_pair (b ∷ c ∷ d ∷ z) (suc (suc (suc m))) none more few h = too_long b c d (take m z) h

no_sign : (z : Text) (m : ℕ) → double (slice_index z 0) (slice_index z 1) ≡ None → single (slice_index z 0) ≡ None → is_sign (take m z) ≡ true → ⊥
no_sign z zero none one h = search rules
no_sign [] (suc m) none one h = search rules
no_sign (b ∷ z) (suc zero) none one h = unfound (single b) one (sign_cut (b ∷ []) h)
no_sign (b ∷ []) (suc (suc m)) none one h = unfound (single b) one (sign_cut (b ∷ []) h)
no_sign (b ∷ c ∷ z) (suc (suc zero)) none one h = unfound (double b c) none (sign_cut (b ∷ c ∷ []) h)
no_sign (b ∷ c ∷ []) (suc (suc (suc m))) none one h = unfound (double b c) none (sign_cut (b ∷ c ∷ []) h)
no_sign (b ∷ c ∷ d ∷ z) (suc (suc (suc m))) none one h = too_long b c d (take m z) h

-- a front of a text that begins with no blank, word or number is a token only as a sign
only_sign : (z : Text) (m : ℕ) (s : Sort) → start_of (slice_index z 0) ≡ start.Other → IsOf s (take m z) → is_sign (take m z) ≡ true
only_sign z m sort.Blank e is = absurd is
only_sign z m sort.Word e is = let c = sym e ∙ front_begins z m sort.Word is in absurd (search rules)
only_sign z m sort.Int e is = let c = sym e ∙ front_begins z m sort.Int is in absurd (search rules)
only_sign z m sort.Fix e is = let c = sym e ∙ front_begins z m sort.Fix is in absurd (search rules)
only_sign z m (sort.Sign k) e is = is.0
only_sign z m sort.Illegal e is = absurd is

not_three : (z : Text) (m : ℕ) → 2 < m → m ≤ length z → is_sign (take m z) ≡ true → ⊥
not_three z m more few h = let a = sign_short (take m z) h in let b = length-take-le m z few in omega (arith, a.1, b)

sign_takes : (z : Text) (two one : Option Mark) → 0 < length z → start_of (slice_index z 0) ≡ start.Other → double (slice_index z 0) (slice_index z 1) ≡ two → single (slice_index z 0) ≡ one → TakesLongest (longer two one) z
sign_takes z (Some k) one some e two_is one_is = (two_front z k some two_is, λ m more few is. not_three z m more few (only_sign z m is.of e is.is))
sign_takes z None (Some k) some e two_is one_is = (one_front z k some one_is, λ m more few is. no_pair z m two_is more few (only_sign z m is.of e is.is))
sign_takes z None None some e two_is one_is = λ m is. no_sign z m two_is one_is (only_sign z m is.of e is.is)

-- ---- whatever stands at the front

takes_where : (z : Text) (s : Start) → 0 < length z → start_of (slice_index z 0) ≡ s → TakesLongest (cut_at s z) z
takes_where z start.Blank some e = blank_takes z e
takes_where z start.Comment some e = comment_takes z e
takes_where z start.Number some e = number_takes_where z (goes_on z) refl some e
takes_where z start.Word some e = word_takes z some e
takes_where z start.Other some e = sign_takes z (double (slice_index z 0) (slice_index z 1)) (single (slice_index z 0)) some e refl refl

pub cut_longest : (z : Text) → 0 < length z → TakesLongest (cut z) z
unfolding cut
cut_longest z some = takes_where z (start_of (slice_index z 0)) some refl
