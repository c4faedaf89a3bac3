-- The tokens of a text are spelled: each is given back by its text.
use Rattle.std.proofs.Common.{◌≡◌, ℕ, zero, suc, ◌+◌, ◌-◌, ◌*◌, ◌/◌, ◌<◌, ◌≤◌, ◌^◌, min, ℤ, pos, Bool, true, false, cond, ◌&&◌, if◌then◌else◌, ◌==◌, [], ◌∷◌, ◌++◌, length, take, drop, slice_index, Ok, Err, refl, sym, ap, subst, ◌∙◌, arith, rules}
use Rattle.std.specs.Prelude.{Option, Some, None, option_and_then}
use Rattle.std.specs.List.{prefix_len, list_all}
use Rattle.std.proofs.lemmas.Bool.{ltb-true}
use Rattle.std.proofs.lemmas.Bool.Decides.{nat_tests}
use Rattle.eb_base.specs.Arithmetic.{fits_i64}
use Rattle.eb_base.specs.Digits.{below, digits_after, point_in}
use Rattle.eb_base.specs.FixedPoint.{units_of, in_i64, fixed_from, with_point, fixed_at, fixed_of, has_lengths}
use Rattle.eb_base.specs.TypeNames.{word_byte, starts_with_letter}
use Rattle.eb_base.proofs.Printed.{cond_some, below_some}
use Rattle.eb_rule_text.specs.declared.cutting.Sort.TheVariants as sort
use Rattle.eb_rule_text.specs.declared.cutting.Start.{Start}
use Rattle.eb_rule_text.specs.declared.cutting.Start.TheVariants as start
use Rattle.eb_rule_text.specs.declared.cutting.Run.TheVariants as run
use Rattle.eb_rule_text.specs.declared.lexemes.Lexed.{Lexed}
use Rattle.eb_rule_text.specs.declared.lexemes.Lexeme.{Lexeme}
use Rattle.eb_rule_text.specs.declared.lexemes.Lexeme.TheVariants as l
use Rattle.eb_rule_text.specs.declared.lexing.Found.{Found}
use Rattle.eb_rule_text.specs.declared.lexing.Found.TheVariants as found
use Rattle.eb_rule_text.specs.declared.marks.Mark.{Mark}
use Rattle.eb_rule_text.specs.Tokens.{Text, Lexes, cut, cut_at, start_of, is_blank, is_digit, is_in, number_where, longer, double, single, keyword, word_found, int_found, fix_found, meaning, onward, before, nothing_lexed, tokens_from, tokens}
use Rattle.eb_rule_text.specs.Spelling.{IsSpelled, EachSpelled}
use Rattle.eb_rule_text.proofs.SpelledBack.{mark_spelled, underscore_spelled}
use Rattle.eb_rule_text.proofs.SpelledNumbers.{name_spelled, int_spelled, fix_spelled}

-- what a found token says of it
Spelled : Found → Type 0
Spelled f = (x : Lexeme) → f ≡ found.Token x → IsSpelled x

no_token : Spelled found.Nothing
unfolding Spelled
no_token x h = absurd (search rules)

no_blank : Spelled found.Blank
unfolding Spelled
no_blank x h = absurd (search rules)

a_token : (x : Lexeme) → IsSpelled x → Spelled (found.Token x)
unfolding Spelled
a_token x is y h = let e : x ≡ y = search rules in subst IsSpelled e is

-- ---- words

front_step : (p : ℕ → Bool) (cs : Text) (n : ℕ) (b : Bool) → (n ≤ prefix_len p cs → list_all p (take n cs) ≡ true) → suc n ≤ cond b (1 + prefix_len p cs) 0 → (b && list_all p (take n cs)) ≡ true
front_step p cs n true more h = more (omega arith)
front_step p cs n false more h = absurd (omega arith)

list_front : (p : ℕ → Bool) (z : Text) (n : ℕ) → n ≤ prefix_len p z → list_all p (take n z) ≡ true
list_front p z zero h = refl
list_front p [] (suc n) h = refl
list_front p (c ∷ cs) (suc n) h = front_step p cs n (p c) (list_front p cs n) h

short_front : (n : ℕ) (z : Text) → length (take n z) ≤ n
short_front zero z = omega arith
short_front (suc n) [] = omega arith
short_front (suc n) (c ∷ cs) = let a = short_front n cs in omega arith

name_where : (x : Text) (b : Bool) → starts_with_letter x ≡ b → list_all word_byte x ≡ true → length x ≤ 32 → keyword x ≡ None → IsSpelled (if b then l.Name x else l.Underscored)
name_where x true e all few free = name_spelled x e all few free
name_where x false e all few free = underscore_spelled

word_where : (x : Text) (k : Option Mark) → keyword x ≡ k → list_all word_byte x ≡ true → length x ≤ 32 → IsSpelled (word_found k x)
word_where x (Some k) e all few = mark_spelled k
word_where x None e all few = name_where x (starts_with_letter x) refl all few e

min_left : (a b : ℕ) → min a b ≤ a
min_left a b = omega arith

min_right : (a b : ℕ) → min a b ≤ b
min_right a b = omega arith

at_most : (a b n : ℕ) → a ≤ b → b ≤ n → a ≤ n
at_most a b n h g = omega arith

word_spelled : (z : Text) → Spelled (meaning sort.Word (take (min (prefix_len word_byte z) 32) z))
word_spelled z =
    let n = min (prefix_len word_byte z) 32 in
    let x = take n z in
    a_token (word_found (keyword x) x) (word_where x (keyword x) refl (list_front word_byte z n (min_left (prefix_len word_byte z) 32)) (at_most (length x) n 32 (short_front n z) (min_right (prefix_len word_byte z) 32)))

-- ---- numbers

int_where : (o : Option ℕ) → (q : Option ℕ) → below (2 ^ 63) q ≡ o → Spelled (int_found o)
int_where None q e = no_token
int_where (Some n) q e = a_token (l.Int (pos n)) (int_spelled n (below_some (2 ^ 63) q n e).1)

-- fixed text that has no sign is no less than 0
record Above (u : ℤ) : Type 0 where
  units : ℕ
  is : u ≡ pos units
  small : units < 2 ^ 63

some_same : (a b : ℤ) → Some a ≡ Some b → a ≡ b
some_same a b h = search rules

in_range : (n : ℕ) (u : ℤ) → in_i64 (pos n) ≡ Some u → Above u
in_range n u h =
    let c = cond_some (fits_i64 (pos n)) (Some (pos n)) u h in
    record { units = n; is = sym (some_same (pos n) u c.1); small = ltb-true n (2 ^ 63) c.0 }

from_where : (places : ℕ) (o : Option ℕ) (u : ℤ) → option_and_then (λ digits. in_i64 (units_of false places digits)) o ≡ Some u → Above u
from_where places None u h = absurd (search rules)
from_where places (Some digits) u h = in_range (digits * 65536 / 10 ^ places) u h

fixed_from_above : (whole fraction : Text) (u : ℤ) → fixed_from false whole fraction ≡ Some u → Above u
fixed_from_above whole fraction u h =
    from_where (length fraction) (digits_after 0 (whole ++ fraction)) u (cond_some (has_lengths whole fraction) (option_and_then (λ digits. in_i64 (units_of false (length fraction) digits)) (digits_after 0 (whole ++ fraction))) u h).1

with_point_above : (whole fraction : Text) (u : ℤ) → with_point false whole fraction ≡ Some u → Above u
with_point_above whole [] u h = absurd (search rules)
with_point_above whole (d ∷ ds) u h = fixed_from_above whole (d ∷ ds) u h

fixed_at_above : (text : Text) (at : Option ℕ) (u : ℤ) → fixed_at false text at ≡ Some u → Above u
fixed_at_above text None u h = fixed_from_above text [] u h
fixed_at_above text (Some at) u h = with_point_above (take at text) (drop (suc at) text) u h

fixed_of_above : (text : Text) (u : ℤ) → (slice_index text 0 == 45) ≡ false → fixed_of text ≡ Some u → Above u
fixed_of_above [] u e h = absurd (search rules)
fixed_of_above (c ∷ cs) u e h =
    fixed_at_above (c ∷ cs) (point_in (c ∷ cs)) u (sym (ap (λ b. cond b (fixed_at true cs (point_in cs)) (fixed_at false (c ∷ cs) (point_in (c ∷ cs)))) e) ∙ h)

fix_where : (text : Text) (o : Option ℤ) → (slice_index text 0 == 45) ≡ false → fixed_of text ≡ o → Spelled (fix_found o)
fix_where text None e h = no_token
fix_where text (Some u) e h = let a = fixed_of_above text u e h in a_token (l.Fix u) (subst (λ v. IsSpelled (l.Fix v)) (sym a.is) (fix_spelled a.units a.small))

first_stays : (n : ℕ) (z : Text) → 1 ≤ n → slice_index (take n z) 0 ≡ slice_index z 0
first_stays zero z h = absurd (omega arith)
first_stays (suc n) [] h = refl
first_stays (suc n) (c ∷ cs) h = refl

digit_no_sign : (c : ℕ) → is_digit c ≡ true → (c == 45) ≡ false
digit_no_sign c h = grind (arith, nat_tests)

some_more : (a b : ℕ) → 1 ≤ a + 1 + b
some_more a b = omega arith

number_spelled : (z : Text) (b : Bool) (whole : ℕ) → is_digit (slice_index z 0) ≡ true
    → Spelled (meaning (number_where b whole z).0 (take (number_where b whole z).1 z))
number_spelled z false whole h = int_where (below (2 ^ 63) (digits_after 0 (take whole z))) (digits_after 0 (take whole z)) refl
number_spelled z true whole h =
    let n = whole + 1 + prefix_len (is_in run.Digits) (drop (whole + 1) z) in
    fix_where (take n z) (fixed_of (take n z)) (ap (λ c. c == 45) (first_stays n z (some_more whole (prefix_len (is_in run.Digits) (drop (whole + 1) z)))) ∙ digit_no_sign (slice_index z 0) h) refl

-- ---- signs

sign_where : (two one : Option Mark) (z : Text) → Spelled (meaning (longer two one).0 (take (longer two one).1 z))
sign_where (Some k) one z = a_token (l.Mark k) (mark_spelled k)
sign_where None (Some k) z = a_token (l.Mark k) (mark_spelled k)
sign_where None None z = no_token

-- ---- whatever stands at the front

number_is : (c : ℕ) (a b d w : Bool) → is_digit c ≡ d
    → (if a then start.Blank else (if b then start.Comment else (if d then start.Number else (if w then start.Word else start.Other)))) ≡ start.Number → is_digit c ≡ true
number_is c true b d w e h = absurd (search rules)
number_is c false true d w e h = absurd (search rules)
number_is c false false true w e h = e
number_is c false false false true e h = absurd (search rules)
number_is c false false false false e h = absurd (search rules)

starts_digit : (c : ℕ) → start_of c ≡ start.Number → is_digit c ≡ true
starts_digit c h = number_is c (is_blank c) (c == 35) (is_digit c) (word_byte c) refl h

piece_where : (z : Text) (s : Start) → start_of (slice_index z 0) ≡ s → Spelled (meaning (cut_at s z).0 (take (cut_at s z).1 z))
piece_where z start.Blank e = no_blank
piece_where z start.Comment e = no_blank
piece_where z start.Number e =
    let whole = prefix_len (is_in run.Digits) z in
    number_spelled z (slice_index z whole == 46 && is_digit (slice_index z (whole + 1))) whole (starts_digit (slice_index z 0) e)
piece_where z start.Word e = word_spelled z
piece_where z start.Other e = sign_where (double (slice_index z 0) (slice_index z 1)) (single (slice_index z 0)) z

piece_spelled : (z : Text) → Spelled (meaning (cut z).0 (take (cut z).1 z))
unfolding cut
piece_spelled z = piece_where z (start_of (slice_index z 0)) refl

-- ---- a whole text

AllSpelled : Lexes → Type 0
AllSpelled r = (x : Lexed) → r ≡ Ok x → EachSpelled x.lexemes

none_spelled : AllSpelled (Ok nothing_lexed)
unfolding AllSpelled
none_spelled x h = let e : nothing_lexed ≡ x = search rules in subst (λ y. EachSpelled y.lexemes) e tt

before_spelled : (at : ℕ) (x : Lexeme) (r : Lexes) → IsSpelled x → AllSpelled r → AllSpelled (before at x r)
unfolding AllSpelled
before_spelled at x (Ok rest) is all y h =
    let e : record { places = at ∷ rest.places; lexemes = x ∷ rest.lexemes } ≡ y = search rules in subst (λ z. EachSpelled z.lexemes) e (is, all rest refl)
before_spelled at x (Err e) is all y h = absurd (search rules)

onward_spelled : (f : Found) (at : ℕ) (r : Lexes) → Spelled f → AllSpelled r → AllSpelled (onward f at r)
unfolding AllSpelled Spelled
onward_spelled found.Nothing at r is all y h = absurd (search rules)
onward_spelled found.Blank at r is all y h = all y h
onward_spelled (found.Token x) at r is all y h = before_spelled at x r (is x refl) all y h

from_spelled : (taken at : ℕ) (z : Text) → AllSpelled (tokens_from taken at z)
from_spelled taken at [] = none_spelled
from_spelled (suc taken) at (b ∷ z) = from_spelled taken (at + 1) z
from_spelled zero at (b ∷ z) =
    let t = cut (b ∷ z) in
    onward_spelled (meaning t.0 (take t.1 (b ∷ z))) at (tokens_from (t.1 - 1) (at + 1) z) (piece_spelled (b ∷ z)) (from_spelled (t.1 - 1) (at + 1) z)

pub tokens_spelled : (z : Text) (x : Lexed) → tokens z ≡ Ok x → EachSpelled x.lexemes
unfolding tokens AllSpelled
tokens_spelled z x h = from_spelled 0 0 z x h
