-- The text of spelled tokens has these tokens.
use Rattle.std.proofs.Common.{◌≡◌, ℕ, suc, ◌+◌, ◌<◌, Bool, true, false, if◌then◌else◌, List, [], ◌∷◌, ◌++◌, length, take, drop, Ok, refl, sym, ap, ◌∙◌, append_assoc, arith}
use Rattle.std.proofs.Math.Seq.{take-append_seam, drop-append_seam}
use Rattle.eb_rule_text.specs.declared.cutting.Sort.TheVariants as sort
use Rattle.eb_rule_text.specs.declared.lexemes.Lexeme.{Lexeme}
use Rattle.eb_rule_text.specs.declared.lexemes.Lexeme.TheVariants as l
use Rattle.eb_rule_text.specs.declared.lexing.Found.TheVariants as found
use Rattle.eb_rule_text.specs.declared.marks.Mark.{Mark}
use Rattle.eb_rule_text.specs.declared.marks.Mark.TheVariants as m
use Rattle.eb_rule_text.specs.Tokens.{Text, cut, keyword, before, tokens_from, tokens}
use Rattle.eb_rule_text.specs.Spelling.{spell, gap, ends_line, token_text, text_of, IsSpelled, EachSpelled}
use Rattle.eb_rule_text.proofs.TokenFacts.{step_at}

-- ---- a whole text

gap_cut : (b : Bool) (z : Text) → cut ((if b then 10 else 32) ∷ z) ≡ (sort.Blank, 1)
unfolding cut
gap_cut true z = refl
gap_cut false z = refl

gap_step : (x : Lexeme) (at : ℕ) (z : Text) → tokens_from 0 at (gap x ∷ z) ≡ tokens_from 0 (at + 1) z
gap_step x at z =
    let c = gap_cut (ends_line x) z in
    step_at (gap x ∷ z) at 1 found.Blank (omega arith) (sym (ap (λ p. p.1) c)) (rw c refl) (omega arith)

length_more : (xs : Text) (c : ℕ) (z : Text) → length (xs ++ c ∷ z) ≡ length xs + suc (length z)
length_more [] c z = omega arith
length_more (x ∷ xs) c z = let a = length_more xs c z in omega (arith, a)

token_step : (x : Lexeme) (at : ℕ) (z : Text) → IsSpelled x → tokens_from 0 at (spell x ++ gap x ∷ z) ≡ before at x (tokens_from 0 (at + length (spell x)) (gap x ∷ z))
token_step x at z is =
    let c = is.cuts z in
    let n = length (spell x) in
    let all = spell x ++ gap x ∷ z in
    let front : take n all ≡ spell x = take-append_seam (spell x) (gap x ∷ z) in
    let back : drop n all ≡ gap x ∷ z = drop-append_seam (spell x) (gap x ∷ z) in
    let some : 0 < length all = omega (arith, is.some, length_more (spell x) (gap x) z) in
    step_at all at n (found.Token x) some (sym (ap (λ p. p.1) c)) (rw (c, front) (sym is.means)) is.some ∙ ap (λ t. before at x (tokens_from 0 (at + n) t)) back

record ReadBack (at : ℕ) (z : Text) (xs : List Lexeme) : Type 0 where
  places : List ℕ
  is : tokens_from 0 at z ≡ Ok (record { places = places; lexemes = xs })

one_back : (x : Lexeme) (xs : List Lexeme) (at : ℕ) → IsSpelled x → ReadBack (at + length (spell x) + 1) (text_of xs) xs → ReadBack at (text_of (x ∷ xs)) (x ∷ xs)
unfolding token_text
one_back x xs at is rest =
    record {
      places = at ∷ rest.places;
      is = ap (tokens_from 0 at) (append_assoc (spell x) (gap x ∷ []) (text_of xs)) ∙ token_step x at (text_of xs) is
          ∙ ap (before at x) (gap_step x (at + length (spell x)) (text_of xs) ∙ rest.is);
    }

read_back : (xs : List Lexeme) (at : ℕ) → EachSpelled xs → ReadBack at (text_of xs) xs
read_back [] at each = record { places = []; is = refl }
read_back (x ∷ xs) at each = one_back x xs at each.0 (read_back xs (at + length (spell x) + 1) each.1)

pub tokens_of_text : (xs : List Lexeme) → EachSpelled xs → (places : List ℕ) × (tokens (text_of xs) ≡ Ok (record { places = places; lexemes = xs }))
unfolding tokens
tokens_of_text xs each = let a = read_back xs 0 each in (a.places, a.is)

-- ---- reserved words and signs

pub mark_spelled : (k : Mark) → IsSpelled (l.Mark k)
unfolding cut keyword
mark_spelled m.Baker = record { of = sort.Word; some = omega arith; cuts = λ rest. refl; means = refl }
mark_spelled m.System = record { of = sort.Word; some = omega arith; cuts = λ rest. refl; means = refl }
mark_spelled m.Job = record { of = sort.Word; some = omega arith; cuts = λ rest. refl; means = refl }
mark_spelled m.On = record { of = sort.Word; some = omega arith; cuts = λ rest. refl; means = refl }
mark_spelled m.Let = record { of = sort.Word; some = omega arith; cuts = λ rest. refl; means = refl }
mark_spelled m.If = record { of = sort.Word; some = omega arith; cuts = λ rest. refl; means = refl }
mark_spelled m.Else = record { of = sort.Word; some = omega arith; cuts = λ rest. refl; means = refl }
mark_spelled m.Add = record { of = sort.Word; some = omega arith; cuts = λ rest. refl; means = refl }
mark_spelled m.Set = record { of = sort.Word; some = omega arith; cuts = λ rest. refl; means = refl }
mark_spelled m.Remove = record { of = sort.Word; some = omega arith; cuts = λ rest. refl; means = refl }
mark_spelled m.Create = record { of = sort.Word; some = omega arith; cuts = λ rest. refl; means = refl }
mark_spelled m.Destroy = record { of = sort.Word; some = omega arith; cuts = λ rest. refl; means = refl }
mark_spelled m.Extra = record { of = sort.Word; some = omega arith; cuts = λ rest. refl; means = refl }
mark_spelled m.This = record { of = sort.Word; some = omega arith; cuts = λ rest. refl; means = refl }
mark_spelled m.Own = record { of = sort.Word; some = omega arith; cuts = λ rest. refl; means = refl }
mark_spelled m.Parent = record { of = sort.Word; some = omega arith; cuts = λ rest. refl; means = refl }
mark_spelled m.Children = record { of = sort.Word; some = omega arith; cuts = λ rest. refl; means = refl }
mark_spelled m.Within = record { of = sort.Word; some = omega arith; cuts = λ rest. refl; means = refl }
mark_spelled m.Asset = record { of = sort.Word; some = omega arith; cuts = λ rest. refl; means = refl }
mark_spelled m.Entity = record { of = sort.Word; some = omega arith; cuts = λ rest. refl; means = refl }
mark_spelled m.At = record { of = sort.Word; some = omega arith; cuts = λ rest. refl; means = refl }
mark_spelled m.Sum = record { of = sort.Word; some = omega arith; cuts = λ rest. refl; means = refl }
mark_spelled m.Count = record { of = sort.Word; some = omega arith; cuts = λ rest. refl; means = refl }
mark_spelled m.Min = record { of = sort.Word; some = omega arith; cuts = λ rest. refl; means = refl }
mark_spelled m.Max = record { of = sort.Word; some = omega arith; cuts = λ rest. refl; means = refl }
mark_spelled m.All = record { of = sort.Word; some = omega arith; cuts = λ rest. refl; means = refl }
mark_spelled m.Any = record { of = sort.Word; some = omega arith; cuts = λ rest. refl; means = refl }
mark_spelled m.None = record { of = sort.Word; some = omega arith; cuts = λ rest. refl; means = refl }
mark_spelled m.Key = record { of = sort.Word; some = omega arith; cuts = λ rest. refl; means = refl }
mark_spelled m.Or = record { of = sort.Word; some = omega arith; cuts = λ rest. refl; means = refl }
mark_spelled m.Fix = record { of = sort.Word; some = omega arith; cuts = λ rest. refl; means = refl }
mark_spelled m.Int = record { of = sort.Word; some = omega arith; cuts = λ rest. refl; means = refl }
mark_spelled m.Null = record { of = sort.Word; some = omega arith; cuts = λ rest. refl; means = refl }
mark_spelled m.True = record { of = sort.Word; some = omega arith; cuts = λ rest. refl; means = refl }
mark_spelled m.False = record { of = sort.Word; some = omega arith; cuts = λ rest. refl; means = refl }
mark_spelled m.LBrace = record { of = (sort.Sign m.LBrace); some = omega arith; cuts = λ rest. refl; means = refl }
mark_spelled m.RBrace = record { of = (sort.Sign m.RBrace); some = omega arith; cuts = λ rest. refl; means = refl }
mark_spelled m.LParen = record { of = (sort.Sign m.LParen); some = omega arith; cuts = λ rest. refl; means = refl }
mark_spelled m.RParen = record { of = (sort.Sign m.RParen); some = omega arith; cuts = λ rest. refl; means = refl }
mark_spelled m.Comma = record { of = (sort.Sign m.Comma); some = omega arith; cuts = λ rest. refl; means = refl }
mark_spelled m.Colon = record { of = (sort.Sign m.Colon); some = omega arith; cuts = λ rest. refl; means = refl }
mark_spelled m.Semicolon = record { of = (sort.Sign m.Semicolon); some = omega arith; cuts = λ rest. refl; means = refl }
mark_spelled m.Dot = record { of = (sort.Sign m.Dot); some = omega arith; cuts = λ rest. refl; means = refl }
mark_spelled m.Assign = record { of = (sort.Sign m.Assign); some = omega arith; cuts = λ rest. refl; means = refl }
mark_spelled m.Equal = record { of = (sort.Sign m.Equal); some = omega arith; cuts = λ rest. refl; means = refl }
mark_spelled m.NotEqual = record { of = (sort.Sign m.NotEqual); some = omega arith; cuts = λ rest. refl; means = refl }
mark_spelled m.Less = record { of = (sort.Sign m.Less); some = omega arith; cuts = λ rest. refl; means = refl }
mark_spelled m.AtMost = record { of = (sort.Sign m.AtMost); some = omega arith; cuts = λ rest. refl; means = refl }
mark_spelled m.Greater = record { of = (sort.Sign m.Greater); some = omega arith; cuts = λ rest. refl; means = refl }
mark_spelled m.AtLeast = record { of = (sort.Sign m.AtLeast); some = omega arith; cuts = λ rest. refl; means = refl }
mark_spelled m.Plus = record { of = (sort.Sign m.Plus); some = omega arith; cuts = λ rest. refl; means = refl }
mark_spelled m.Minus = record { of = (sort.Sign m.Minus); some = omega arith; cuts = λ rest. refl; means = refl }
mark_spelled m.Star = record { of = (sort.Sign m.Star); some = omega arith; cuts = λ rest. refl; means = refl }
mark_spelled m.Slash = record { of = (sort.Sign m.Slash); some = omega arith; cuts = λ rest. refl; means = refl }
mark_spelled m.And = record { of = (sort.Sign m.And); some = omega arith; cuts = λ rest. refl; means = refl }
mark_spelled m.Either = record { of = (sort.Sign m.Either); some = omega arith; cuts = λ rest. refl; means = refl }
mark_spelled m.Not = record { of = (sort.Sign m.Not); some = omega arith; cuts = λ rest. refl; means = refl }

-- a word that begins with an underscore
pub underscore_spelled : IsSpelled l.Underscored
unfolding cut keyword
underscore_spelled = record { of = sort.Word; some = omega arith; cuts = λ rest. refl; means = refl }
