-- What is one token, apart from the way in which a text is cut, and that the longest one is taken.
use Rattle.std.specs.Prelude.{◌≡◌, ◌≤◌, ◌<◌, ℕ, Bool, true, false, List, [], ◌∷◌, ◌++◌, length, take, slice_index, codes, bytes_eq}
use Rattle.std.specs.{List.list_all, List.list_any}
use Rattle.eb_base.specs.TypeNames.{word_byte}
use Rattle.eb_rule_text.specs.declared.cutting.Sort.{Sort}
use Rattle.eb_rule_text.specs.declared.cutting.Sort.TheVariants as sort
use Rattle.eb_rule_text.specs.{Spelling.mark_text, Tokens.Text, Tokens.is_digit}

-- a letter or an underscore, and letters, digits and underscores behind it: 32 bytes at most
pub record IsWord (z : Text) : Type 0 where
  pub some : 1 ≤ length z
  pub few : length z ≤ 32
  pub all : list_all word_byte z ≡ true
  pub begins : is_digit (slice_index z 0) ≡ false

pub record AreDigits (z : Text) : Type 0 where
  pub some : 1 ≤ length z
  pub all : list_all is_digit z ≡ true

-- digits, a point, digits
pub record HasPoint (z : Text) : Type 0 where
  pub whole : Text
  pub fraction : Text
  pub is : z ≡ whole ++ 46 ∷ fraction
  pub before : AreDigits whole
  pub behind : AreDigits fraction

abbrev pub signs : List Text
signs =
    codes "{" ∷ codes "}" ∷ codes "(" ∷ codes ")" ∷ codes "," ∷ codes ":" ∷ codes ";" ∷ codes "." ∷ codes "=" ∷ codes "==" ∷ codes "!=" ∷
    codes "<" ∷ codes "<=" ∷ codes ">" ∷ codes ">=" ∷ codes "+" ∷ codes "-" ∷ codes "*" ∷ codes "/" ∷ codes "&&" ∷ codes "||" ∷ codes "!" ∷ []

abbrev pub is_sign : Text → Bool
is_sign z = list_any (λ s. bytes_eq s z) signs

-- a token of this sort
abbrev pub IsOf : Sort → Text → Type 0
IsOf sort.Blank z = ⊥
IsOf sort.Word z = IsWord z
IsOf sort.Int z = AreDigits z
IsOf sort.Fix z = HasPoint z
IsOf (sort.Sign k) z = (is_sign z ≡ true) × (z ≡ mark_text k)
IsOf sort.Illegal z = ⊥

pub record IsToken (z : Text) : Type 0 where
  pub of : Sort
  pub is : IsOf of z

-- no longer front of the text is a token
abbrev pub IsLongest : ℕ → Text → Type 0
IsLongest n z = (m : ℕ) → n < m → m ≤ length z → IsToken (take m z) → ⊥

-- no front of the text is a token
abbrev pub BeginsNone : Text → Type 0
BeginsNone z = (m : ℕ) → IsToken (take m z) → ⊥

-- Of a text that has so many bytes of this sort at its front: they are the longest front that is a token, or none is.
abbrev pub Takes : Sort → ℕ → Text → Type 0
Takes sort.Blank n z = BeginsNone z
Takes sort.Word n z = IsWord (take n z) × IsLongest n z
Takes sort.Int n z = AreDigits (take n z) × IsLongest n z
Takes sort.Fix n z = HasPoint (take n z) × IsLongest n z
Takes (sort.Sign k) n z = IsOf (sort.Sign k) (take n z) × IsLongest n z
Takes sort.Illegal n z = BeginsNone z

abbrev pub TakesLongest : Sort × ℕ → Text → Type 0
TakesLongest t z = Takes t.0 t.1 z
