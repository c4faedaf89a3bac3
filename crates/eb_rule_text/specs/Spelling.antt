-- The text of a list of tokens: each as it is spelled, and a blank byte behind it.
use Rattle.std.specs.Prelude.{◌≡◌, ◌≤◌, length, ℕ, Bool, true, false, if◌then◌else◌, ◌==◌, List, [], ◌∷◌, ◌++◌, codes}
use Rattle.std.specs.{Fmt.signed_decimal, List.list_any}
use Rattle.eb_base.specs.FixedPoint.{fixed_text}
use Rattle.eb_rule_text.specs.declared.{lexemes.Lexeme.Lexeme, marks.Mark.Mark, cutting.Sort.Sort}
use Rattle.eb_rule_text.specs.declared.lexemes.Lexeme.TheVariants as l
use Rattle.eb_rule_text.specs.declared.marks.Mark.TheVariants as m
use Rattle.eb_rule_text.specs.declared.lexing.Found.TheVariants as found
use Rattle.eb_rule_text.specs.Tokens.{Text, cut, meaning}

abbrev pub mark_text : Mark → Text
mark_text m.Baker = codes "baker"
mark_text m.System = codes "system"
mark_text m.Job = codes "job"
mark_text m.On = codes "on"
mark_text m.Let = codes "let"
mark_text m.If = codes "if"
mark_text m.Else = codes "else"
mark_text m.Add = codes "add"
mark_text m.Set = codes "set"
mark_text m.Remove = codes "remove"
mark_text m.Create = codes "create"
mark_text m.Destroy = codes "destroy"
mark_text m.Extra = codes "extra"
mark_text m.This = codes "this"
mark_text m.Own = codes "own"
mark_text m.Parent = codes "parent"
mark_text m.Children = codes "children"
mark_text m.Within = codes "within"
mark_text m.Asset = codes "asset"
mark_text m.Entity = codes "entity"
mark_text m.At = codes "at"
mark_text m.Sum = codes "sum"
mark_text m.Count = codes "count"
mark_text m.Min = codes "min"
mark_text m.Max = codes "max"
mark_text m.All = codes "all"
mark_text m.Any = codes "any"
mark_text m.None = codes "none"
mark_text m.Key = codes "key"
mark_text m.Or = codes "or"
mark_text m.Fix = codes "fix"
mark_text m.Int = codes "int"
mark_text m.Null = codes "null"
mark_text m.True = codes "true"
mark_text m.False = codes "false"
mark_text m.LBrace = codes "{"
mark_text m.RBrace = codes "}"
mark_text m.LParen = codes "("
mark_text m.RParen = codes ")"
mark_text m.Comma = codes ","
mark_text m.Colon = codes ":"
mark_text m.Semicolon = codes ";"
mark_text m.Dot = codes "."
mark_text m.Assign = codes "="
mark_text m.Equal = codes "=="
mark_text m.NotEqual = codes "!="
mark_text m.Less = codes "<"
mark_text m.AtMost = codes "<="
mark_text m.Greater = codes ">"
mark_text m.AtLeast = codes ">="
mark_text m.Plus = codes "+"
mark_text m.Minus = codes "-"
mark_text m.Star = codes "*"
mark_text m.Slash = codes "/"
mark_text m.And = codes "&&"
mark_text m.Either = codes "||"
mark_text m.Not = codes "!"

abbrev pub has_point : Text → Bool
has_point = list_any (λ b. b == 46)

-- a number with a point, also where it is whole
abbrev pub pointed : Text → Text
pointed z = if has_point z then z else z ++ codes ".0"

abbrev pub spell : Lexeme → Text
spell (l.Mark k) = mark_text k
spell (l.Name x) = x
spell l.Underscored = codes "_"
spell (l.Int n) = signed_decimal n
spell (l.Fix units) = pointed (fixed_text units)

-- a line ends behind a semicolon and behind a closing brace
abbrev pub ends_line : Lexeme → Bool
ends_line (l.Mark m.Semicolon) = true
ends_line (l.Mark m.RBrace) = true
ends_line _ = false

abbrev pub gap : Lexeme → ℕ
gap x = if ends_line x then 10 else 32

-- a token and the blank behind it
unfoldable pub token_text : Lexeme → Text
token_text x = spell x ++ gap x ∷ []

abbrev pub text_of : List Lexeme → Text
text_of [] = []
text_of (x ∷ xs) = token_text x ++ text_of xs

-- a token that its text gives back
pub record IsSpelled (x : Lexeme) : Type 0 where
  pub of : Sort
  pub some : 1 ≤ length (spell x)
  pub cuts : (rest : Text) → cut (spell x ++ gap x ∷ rest) ≡ (of, length (spell x))
  pub means : meaning of (spell x) ≡ found.Token x

abbrev pub EachSpelled : List Lexeme → Type 0
EachSpelled [] = Unit {0}
EachSpelled (x ∷ xs) = IsSpelled x × EachSpelled xs
