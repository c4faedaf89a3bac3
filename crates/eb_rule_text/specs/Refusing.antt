-- What the place of a refusal says of the grammar.
use Rattle.std.specs.Prelude.{◌≡◌, ℕ, ◌∷◌, ◌++◌, length, Err}
use Rattle.eb_rule_text.specs.declared.{errors.ReadError.ReadError, lexemes.Lexeme.Lexeme}
use Rattle.eb_rule_text.specs.Input.{Input, Parser}

-- Where a token is refused, nothing in the grammar begins with the tokens before it and with that one.
abbrev pub NoneGoesOn : {A : Type 0} → (ℕ → ReadError) → Parser A → (Input → A → Type 0) → Type 0
NoneGoesOn {A} refusal reader grammar = (front rest other : Input) (refused : Lexeme) (x : A)
    → reader (front ++ refused ∷ rest) ≡ Err (refusal (length (refused ∷ rest))) → grammar (front ++ refused ∷ other) x → ⊥
