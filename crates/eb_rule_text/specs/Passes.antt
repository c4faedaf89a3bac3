-- The two passes over a text, and the byte of a refusal.
use Rattle.std.specs.Prelude.{◌≡◌, ◌≢◌, ℕ, ◌-◌, ◌||◌, if◌then◌else◌, ◌==◌, nat_lt, List, length, slice_index, Result, Ok, Err}
use Rattle.eb_rule_text.specs.declared.errors.TextError.TheVariants.{Memory, Token, Syntax, Depth}
use Rattle.eb_rule_text.specs.declared.errors.{ReadError.ReadError, TextError.TextError}
use Rattle.eb_rule_text.specs.declared.errors.TokenError.{TokenError}
use Rattle.eb_rule_text.specs.declared.passes.Placed.{Placed}
use Rattle.eb_rule_text.specs.declared.errors.ReadError.TheVariants as read
use Rattle.eb_rule_text.specs.declared.errors.TokenError.TheVariants as token
use Rattle.eb_rule_text.specs.{Input.Input, Input.Outcome, Input.Parser, Tokens.Text, Tokens.Lexes, Tokens.tokens}

-- where the token begins that so many tokens are left from; with none left it is the end of the text
abbrev pub byte_of : List ℕ → ℕ → ℕ → ℕ
byte_of places left end = if left == 0 || nat_lt (length places) left then end else slice_index places (length places - left)

abbrev pub token_refusal : TokenError → TextError
token_refusal token.Memory = Memory
token_refusal (token.Token at) = Token at

abbrev pub read_refusal : ReadError → List ℕ → ℕ → TextError
read_refusal read.Memory places end = Memory
read_refusal (read.Syntax left) places end = Syntax (byte_of places left end)
read_refusal (read.Depth left) places end = Depth (byte_of places left end)

abbrev pub placed : {A : Type 0} → A → List ℕ → Placed A
placed tree places = record { tree = tree; places = places }

abbrev pub with_places : {A : Type 0} → Outcome A → List ℕ → ℕ → Result (Placed A) TextError
with_places (Ok p) places end = Ok (placed p.0 places)
with_places (Err e) places end = Err (read_refusal e places end)

abbrev pub parsed : {A : Type 0} → Parser A → Lexes → ℕ → Result (Placed A) TextError
parsed reader (Ok lexed) end = with_places (reader lexed.lexemes) lexed.places end
parsed reader (Err e) end = Err (token_refusal e)

-- the tokens, and then the syntax
abbrev pub read_text : {A : Type 0} → Parser A → Text → Result (Placed A) TextError
read_text reader text = parsed reader (tokens text) (length text)

-- The tokens of the text, which begin at these places, are in a grammar as this tree.
pub record Spells {A : Type 0} (grammar : Input → A → Type 0) (text : Text) (tree : A) (places : List ℕ) : Type 0 where
  pub lexemes : Input
  pub cut : tokens text ≡ Ok (record { places = places; lexemes = lexemes })
  pub is : grammar lexemes tree

-- the answer of the definition, unless memory fails
abbrev pub Gives : {A : Type 0} → Result A TextError → Result A TextError → Type 0
Gives told (Ok a) = told ≡ Ok a
Gives told (Err e) = e ≢ Memory → told ≡ Err e
