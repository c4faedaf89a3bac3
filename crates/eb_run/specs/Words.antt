-- The words of a command line.
use Rattle.std.specs.Prelude.{ℕ, Bool, false, List, [], ◌∷◌, codes}
use Rattle.std.specs.Str.{bytes_eq}

-- `session` alone
abbrev pub is_form : List (List ℕ) → Bool
is_form [] = false
is_form (word ∷ []) = bytes_eq word (codes "session")
is_form (word ∷ next ∷ words) = false

-- what the sink gets for all other words
unfoldable pub usage_text : List ℕ
usage_text = codes "usage: ebake bake|session|watch|show NAME|sample N\n"
