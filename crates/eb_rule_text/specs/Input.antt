-- What a reader reads from, and the steps that every line of the grammar is made of.
use Rattle.std.specs.Prelude.{◌≡◌, ◌≢◌, ℕ, zero, suc, Bool, true, false, if◌then◌else◌, ◌==◌, List, [], ◌∷◌, ◌++◌, length, drop, Option, Some, None, Result, Ok, Err, ℤ}
use denote.Enum.Bare.{sameb}
use Rattle.eb_rule_text.specs.declared.errors.ReadError.TheVariants.{Memory, Syntax, Depth}
use Rattle.eb_rule_text.specs.declared.errors.ReadError.{ReadError}
use Rattle.eb_rule_text.specs.declared.{lexemes.Lexeme.Lexeme, marks.Mark.Mark}
use Rattle.eb_rule_text.specs.declared.lexemes.Lexeme.TheVariants as l
use Rattle.eb_rule_text.specs.declared.marks.Mark.TheVariants as m
use Rattle.eb_rule_text.specs.{contracts.marks.Mark.the_type, Tokens.Text}

-- the tokens from the next one on
abbrev pub Input : Type 0
Input = List Lexeme

-- what was read, and the tokens behind it; or the refusal
abbrev pub Outcome : Type 0 → Type 0
Outcome A = Result (A × Input) ReadError

abbrev pub Parser : Type 0 → Type 0
Parser A = Input → Outcome A

-- the next token can't follow
abbrev pub refuse : {A : Type 0} → Parser A
refuse i = Err (Syntax (length i))

-- takes no token
abbrev pub pure : {A : Type 0} → A → Parser A
pure x i = Ok (x, i)

-- What was read says how the tokens behind it are read. Behind a refusal nothing is.
abbrev pub go_on : {A B : Type 0} → Outcome A → (A → Parser B) → Outcome B
go_on (Err refusal) next = Err refusal
go_on (Ok read) next = next read.0 read.1

-- one thing and then another, in the lines of `do`
infixl 10 ◌>>=◌
abbrev pub ◌>>=◌ : {A B : Type 0} → Parser A → (A → Parser B) → Parser B
first >>= next = λ i. go_on (first i) next

infixl 10 ◌>>◌
abbrev pub ◌>>◌ : {A B : Type 0} → Parser A → Parser B → Parser B
first >> second = λ i. go_on (first i) (λ read. second)

-- what was read, as a part of a tree
infixl 11 ◌into◌
abbrev pub ◌into◌ : {A B : Type 0} → Parser A → (A → B) → Parser B
part into whole = λ i. go_on (part i) (λ read. pure (whole read))

-- ---- one token

-- the reserved word or sign that comes next
abbrev pub mark : Input → Option Mark
mark (l.Mark k ∷ i) = Some k
mark _ = None

-- `==` on marks
unfoldable pub same_mark : Mark → Mark → Bool
same_mark = sameb the_type

abbrev pub is_mark : Mark → Option Mark → Bool
is_mark k None = false
is_mark k (Some other) = same_mark other k

unfoldable pub sees : Mark → Input → Bool
sees k i = is_mark k (mark i)

unfoldable pub expect : Mark → Parser (Unit {0})
expect k = λ i. if sees k i then Ok (tt, drop 1 i) else refuse i

-- takes this token, if it comes next
unfoldable pub eat : Mark → Parser Bool
eat k = λ i. if sees k i then Ok (true, drop 1 i) else Ok (false, i)

-- a token that opens a level, of which so many are left
unfoldable pub opens : ℕ → Mark → Parser (Unit {0})
opens depth k = λ i. if depth == 0 then (if sees k i then Err (Depth (length i)) else refuse i) else expect k i

unfoldable pub name : Parser Text
name (l.Name x ∷ i) = Ok (x, i)
name i = refuse i

-- whether a name comes next
abbrev pub sees_name : Input → Bool
sees_name (l.Name x ∷ i) = true
sees_name _ = false

unfoldable pub int : Parser ℤ
int (l.Int n ∷ i) = Ok (n, i)
int i = refuse i

-- nothing comes any more
unfoldable pub end : Parser (Unit {0})
end [] = Ok (tt, [])
end i = refuse i

-- ---- lists in braces. The number bounds the turns, and each turn takes a token

abbrev pub until_brace : {A : Type 0} → Parser A → ℕ → List A → Parser (List A)
until_brace item zero done = refuse
until_brace item (suc n) done = do
  ends ← eat m.RBrace
  (if ends then pure done else (item >>= (λ x. until_brace item n (done ++ x ∷ []))))

-- ---- what a function that reads ensures: the outcome of the definition, unless memory fails

abbrev pub Reads : {A : Type 0} → Outcome A → Result A ReadError → Input → Type 0
Reads outcome (Ok a) new = outcome ≡ Ok (a, new)
Reads outcome (Err e) new = e ≢ Memory → outcome ≡ Err e

-- what was read behind something that was kept
abbrev pub behind : {A B : Type 0} → Result (A × B) ReadError → Result B ReadError
behind (Ok both) = Ok both.1
behind (Err refusal) = Err refusal
