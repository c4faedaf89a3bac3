-- How the tokens of a text go on behind the first.
use Rattle.std.proofs.Common.{◌≡◌, ℕ, zero, suc, ◌+◌, ◌-◌, ◌<◌, ◌≤◌, [], ◌∷◌, length, take, drop, Ok, Err, refl, ap, ◌∙◌, append_assoc, arith}
use Rattle.eb_rule_text.specs.declared.lexemes.Lexed.{Lexed}
use Rattle.eb_rule_text.specs.declared.lexemes.Lexeme.{Lexeme}
use Rattle.eb_rule_text.specs.declared.lexing.Found.{Found}
use Rattle.eb_rule_text.specs.Tokens.{Text, Lexes, cut, meaning, onward, before, after, kept, nothing_lexed, tokens_from}

pub taken_first : (n at : ℕ) (z : Text) → tokens_from n at z ≡ tokens_from 0 (at + n) (drop n z)
taken_first zero at z = let e : at ≡ at + 0 = omega arith in ap (λ k. tokens_from 0 k z) e
taken_first (suc n) at [] = refl
taken_first (suc n) at (b ∷ z) = let e : at + 1 + n ≡ at + suc n = omega arith in taken_first n (at + 1) z ∙ ap (λ k. tokens_from 0 k (drop n z)) e

taken_one : (n at b : ℕ) (z : Text) → 1 ≤ n → tokens_from (n - 1) (at + 1) z ≡ tokens_from 0 (at + n) (drop n (b ∷ z))
taken_one zero at b z h = absurd (omega arith)
taken_one (suc n) at b z h =
    let e : suc n - 1 ≡ n = omega arith in
    let f : at + 1 + n ≡ at + suc n = omega arith in
    ap (λ k. tokens_from k (at + 1) z) e ∙ taken_first n (at + 1) z ∙ ap (λ k. tokens_from 0 k (drop n z)) f

-- what stands at the front, and then the rest
pub step_at : (z : Text) (at n : ℕ) (x : Found) → 0 < length z → n ≡ (cut z).1 → x ≡ meaning (cut z).0 (take (cut z).1 z) → 1 ≤ n
    → tokens_from 0 at z ≡ onward x at (tokens_from 0 (at + n) (drop n z))
step_at [] at n x some en ex h = absurd (omega arith)
step_at (b ∷ z) at n x some en ex h = rw (en, ex, ← taken_one (cut (b ∷ z)).1 at b z (rw (← en) h)) refl

pub after_one : (done : Lexed) (at : ℕ) (x : Lexeme) (rest : Lexes) → after (kept done at x) rest ≡ after done (before at x rest)
after_one done at x (Ok rest) = rw (append_assoc done.places (at ∷ []) rest.places, append_assoc done.lexemes (x ∷ []) rest.lexemes) refl
after_one done at x (Err e) = refl

pub after_nothing : (rest : Lexes) → after nothing_lexed rest ≡ rest
after_nothing (Ok rest) = refl
after_nothing (Err e) = refl
