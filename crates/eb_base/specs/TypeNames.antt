-- The names of component types, authoring types and fields.
use Rattle.std.specs.Prelude.{ℕ, Bool, false, ◌&&◌, ◌||◌, not, nat_le, ◌==◌, List, [], ◌∷◌, length, codes, bytes_eq}
use Rattle.std.specs.List.{list_all, list_any}

-- the words that the rule language keeps for itself
abbrev pub reserved_words : List (List ℕ)
reserved_words =
    codes "baker" ∷ codes "system" ∷ codes "job" ∷ codes "on" ∷ codes "let" ∷ codes "if" ∷ codes "else" ∷
    codes "add" ∷ codes "set" ∷ codes "remove" ∷ codes "create" ∷ codes "destroy" ∷ codes "extra" ∷ codes "this" ∷
    codes "own" ∷ codes "parent" ∷ codes "children" ∷ codes "within" ∷ codes "asset" ∷ codes "entity" ∷ codes "at" ∷
    codes "sum" ∷ codes "count" ∷ codes "min" ∷ codes "max" ∷ codes "all" ∷ codes "any" ∷ codes "none" ∷
    codes "key" ∷ codes "or" ∷ codes "fix" ∷ codes "int" ∷ codes "null" ∷ codes "true" ∷ codes "false" ∷ []

abbrev pub is_reserved : List ℕ → Bool
is_reserved text = list_any (λ word. bytes_eq word text) reserved_words

-- a to z and A to Z
abbrev pub letter : ℕ → Bool
letter c = (nat_le 97 c && nat_le c 122) || (nat_le 65 c && nat_le c 90)

-- a letter, a digit or an underscore
abbrev pub word_byte : ℕ → Bool
word_byte c = letter c || ((nat_le 48 c && nat_le c 57) || (c == 95))

abbrev pub starts_with_letter : List ℕ → Bool
starts_with_letter [] = false
starts_with_letter (c ∷ cs) = letter c

-- at most 32 word bytes of which the first is a letter, and no reserved word
abbrev pub is_type_name : List ℕ → Bool
is_type_name text = starts_with_letter text && (list_all word_byte text && (nat_le (length text) 32 && not (is_reserved text)))
