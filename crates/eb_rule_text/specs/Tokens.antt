-- The tokens of a text, and where they begin.
use Rattle.std.specs.Prelude.{◌≡◌, ◌≢◌, ◌≤◌, ℕ, zero, suc, ◌+◌, ◌-◌, ◌^◌, min, Bool, true, false, not, ◌&&◌, ◌||◌, if◌then◌else◌, ◌==◌, nat_le, List, [], ◌∷◌, ◌++◌, take, drop, map, slice_index, Option, Some, None, Result, Ok, Err, ℤ, pos, bytes_eq}
use Rattle.std.specs.List.{prefix_len}
use Rattle.eb_base.specs.{Digits.below, Digits.digits_after, FixedPoint.fixed_of, TypeNames.word_byte, TypeNames.starts_with_letter}
use Rattle.eb_rule_text.specs.declared.cutting.{Sort.Sort, Start.Start, Run.Run}
use Rattle.eb_rule_text.specs.declared.errors.TokenError.TheVariants.{Memory, Token}
use Rattle.eb_rule_text.specs.declared.errors.TokenError.{TokenError}
use Rattle.eb_rule_text.specs.declared.lexemes.{Lexed.Lexed, Lexeme.Lexeme}
use Rattle.eb_rule_text.specs.declared.lexing.{Found.Found, TheConstants.WORDS}
use Rattle.eb_rule_text.specs.declared.marks.Mark.{Mark}
use Rattle.eb_rule_text.specs.declared.cutting.Sort.TheVariants as sort
use Rattle.eb_rule_text.specs.declared.cutting.Start.TheVariants as start
use Rattle.eb_rule_text.specs.declared.cutting.Run.TheVariants as run
use Rattle.eb_rule_text.specs.declared.lexemes.Lexeme.TheVariants as l
use Rattle.eb_rule_text.specs.declared.lexing.Found.TheVariants as found
use Rattle.eb_rule_text.specs.declared.marks.Mark.TheVariants as m

abbrev pub Text : Type 0
Text = List ℕ

-- ---- where a token ends. A text reads as 0 behind its end, and 0 begins no token

abbrev pub is_digit : ℕ → Bool
is_digit b = nat_le 48 b && nat_le b 57

abbrev pub is_blank : ℕ → Bool
is_blank b = b == 32 || (b == 9 || (b == 10 || b == 13))

abbrev pub start_of : ℕ → Start
start_of b =
    if is_blank b then start.Blank else (if b == 35 then start.Comment
    else (if is_digit b then start.Number else (if word_byte b then start.Word else start.Other)))

abbrev pub is_in : Run → ℕ → Bool
is_in run.Line b = not (b == 10)
is_in run.Digits b = is_digit b
is_in run.Word b = word_byte b

abbrev pub number_where : Bool → ℕ → Text → Sort × ℕ
number_where true whole z = (sort.Fix, whole + 1 + prefix_len (is_in run.Digits) (drop (whole + 1) z))
number_where false whole z = (sort.Int, whole)

-- digits, and where a point with a digit behind it follows, the digits behind it too
abbrev pub number : Text → Sort × ℕ
number z =
    let whole = prefix_len (is_in run.Digits) z in
    number_where (slice_index z whole == 46 && is_digit (slice_index z (whole + 1))) whole z

abbrev pub pair : ℕ → ℕ → Mark → Option Mark
pair next second mark = if next == second then Some mark else None

-- the sign of two bytes
abbrev pub double : ℕ → ℕ → Option Mark
double b next =
    if b == 61 then pair next 61 m.Equal else (if b == 33 then pair next 61 m.NotEqual else (if b == 60 then pair next 61 m.AtMost
    else (if b == 62 then pair next 61 m.AtLeast else (if b == 38 then pair next 38 m.And else (if b == 124 then pair next 124 m.Either else None)))))

-- the sign of one byte
abbrev pub single : ℕ → Option Mark
single b =
    if b == 123 then Some m.LBrace else (if b == 125 then Some m.RBrace else (if b == 40 then Some m.LParen else (if b == 41 then Some m.RParen
    else (if b == 44 then Some m.Comma else (if b == 58 then Some m.Colon else (if b == 59 then Some m.Semicolon else (if b == 46 then Some m.Dot
    else (if b == 61 then Some m.Assign else (if b == 60 then Some m.Less else (if b == 62 then Some m.Greater else (if b == 43 then Some m.Plus
    else (if b == 45 then Some m.Minus else (if b == 42 then Some m.Star else (if b == 47 then Some m.Slash else (if b == 33 then Some m.Not
    else None)))))))))))))))

abbrev pub longer : Option Mark → Option Mark → Sort × ℕ
longer (Some two) one = (sort.Sign two, 2)
longer None (Some one) = (sort.Sign one, 1)
longer None None = (sort.Illegal, 1)

abbrev pub sign : ℕ → ℕ → Sort × ℕ
sign b next = longer (double b next) (single b)

-- one byte long, or two where there is a second
abbrev pub IsShort : ℕ → ℕ → Type 0
IsShort next len = (1 ≤ len) × (len ≤ 2) × (next ≡ 0 → len ≡ 1)

abbrev pub cut_at : Start → Text → Sort × ℕ
cut_at start.Blank z = (sort.Blank, 1)
cut_at start.Comment z = (sort.Blank, prefix_len (is_in run.Line) z)
cut_at start.Number z = number z
cut_at start.Word z = (sort.Word, min (prefix_len (is_in run.Word) z) 32)
cut_at start.Other z = sign (slice_index z 0) (slice_index z 1)

-- the sort of what stands at the front of a text, and its length
unfoldable pub cut : Text → Sort × ℕ
cut z = cut_at (start_of (slice_index z 0)) z

-- ---- what a token means

abbrev pub lookup : List (Text × Mark) → Text → Option Mark
lookup [] word = None
lookup (k ∷ ks) word = if bytes_eq k.0 word then Some k.1 else lookup ks word

unfoldable pub keyword : Text → Option Mark
keyword = lookup (map (λ k. (k.0.now, k.1)) WORDS)

-- whether a word is reserved
abbrev pub is_found : Option Mark → Bool
is_found None = false
is_found (Some k) = true

abbrev pub name_found : Text → Lexeme
name_found word = if starts_with_letter word then l.Name word else l.Underscored

abbrev pub word_found : Option Mark → Text → Lexeme
word_found (Some mark) word = l.Mark mark
word_found None word = name_found word

abbrev pub int_found : Option ℕ → Found
int_found None = found.Nothing
int_found (Some n) = found.Token (l.Int (pos n))

abbrev pub fix_found : Option ℤ → Found
fix_found None = found.Nothing
fix_found (Some units) = found.Token (l.Fix units)

abbrev pub meaning : Sort → Text → Found
meaning sort.Blank z = found.Blank
meaning sort.Illegal z = found.Nothing
meaning (sort.Sign mark) z = found.Token (l.Mark mark)
meaning sort.Int z = int_found (below (2 ^ 63) (digits_after 0 z))
meaning sort.Fix z = fix_found (fixed_of z)
meaning sort.Word z = found.Token (word_found (keyword z) z)

-- ---- a whole text

abbrev pub Lexes : Type 0
Lexes = Result Lexed TokenError

abbrev pub nothing_lexed : Lexed
nothing_lexed = record { places = []; lexemes = [] }

-- one more token behind those so far
abbrev pub kept : Lexed → ℕ → Lexeme → Lexed
kept done at x = record { places = done.places ++ at ∷ []; lexemes = done.lexemes ++ x ∷ [] }

-- the tokens so far, and then the rest
abbrev pub after : Lexed → Lexes → Lexes
after done (Ok rest) = Ok (record { places = done.places ++ rest.places; lexemes = done.lexemes ++ rest.lexemes })
after done (Err e) = Err e

abbrev pub before : ℕ → Lexeme → Lexes → Lexes
before at x (Ok rest) = Ok (record { places = at ∷ rest.places; lexemes = x ∷ rest.lexemes })
before at x (Err e) = Err e

abbrev pub onward : Found → ℕ → Lexes → Lexes
onward found.Nothing at rest = Err (Token at)
onward found.Blank at rest = rest
onward (found.Token x) at rest = before at x rest

-- The tokens of a text whose first byte stands at `at`. The first number counts the bytes of a token that was taken already.
abbrev pub tokens_from : ℕ → ℕ → Text → Lexes
tokens_from taken at [] = Ok nothing_lexed
tokens_from (suc taken) at (b ∷ z) = tokens_from taken (at + 1) z
tokens_from zero at (b ∷ z) =
    let t = cut (b ∷ z) in onward (meaning t.0 (take t.1 (b ∷ z))) at (tokens_from (t.1 - 1) (at + 1) z)

unfoldable pub tokens : Text → Lexes
tokens = tokens_from 0 0

-- ---- what a function ensures: the answer of a definition, unless memory fails

abbrev pub Tells : {A : Type 0} → Result A TokenError → Result A TokenError → Type 0
Tells told (Ok a) = told ≡ Ok a
Tells told (Err e) = e ≢ Memory → told ≡ Err e

-- the same of refusals alone
abbrev pub Refuses : {A B : Type 0} → Result A TokenError → Result B TokenError → Type 0
Refuses (Ok a) told = Unit {0}
Refuses (Err e) told = e ≢ Memory → told ≡ Err e
