-- An atom goes by whether a mark comes next.
use Rattle.std.proofs.Common.{◌≡◌, ℕ, [], ◌∷◌, Some, None, refl, ap, rules}
use Rattle.eb_rule_text.specs.declared.lexemes.Lexeme.TheVariants as l
use Rattle.eb_rule_text.specs.declared.marks.Mark.{Mark}
use Rattle.eb_rule_text.specs.declared.trees.Context.{Context}
use Rattle.eb_rule_text.specs.declared.trees.Expr.{Expr}
use Rattle.eb_rule_text.specs.Input.{Input, Parser, mark}
use Rattle.eb_rule_text.specs.Reading.{atom, literal, marked}

pub atom_marked : (context : Context) (d : ℕ) (p : Parser Expr) (i : Input) (k : Mark) → mark i ≡ Some k → atom context d p i ≡ marked context d p k i
unfolding atom
atom_marked context d p [] k h = absurd (search rules)
atom_marked context d p (l.Mark o ∷ i) k h = let e : o ≡ k = search rules in ap (λ m. marked context d p m (l.Mark o ∷ i)) e
atom_marked context d p (l.Name x ∷ i) k h = absurd (search rules)
atom_marked context d p (l.Underscored ∷ i) k h = absurd (search rules)
atom_marked context d p (l.Int n ∷ i) k h = absurd (search rules)
atom_marked context d p (l.Fix n ∷ i) k h = absurd (search rules)

pub atom_literal : (context : Context) (d : ℕ) (p : Parser Expr) (i : Input) → mark i ≡ None → atom context d p i ≡ literal i
unfolding atom
atom_literal context d p [] h = refl
atom_literal context d p (l.Mark o ∷ i) h = absurd (search rules)
atom_literal context d p (l.Name x ∷ i) h = refl
atom_literal context d p (l.Underscored ∷ i) h = refl
atom_literal context d p (l.Int n ∷ i) h = refl
atom_literal context d p (l.Fix n ∷ i) h = refl
