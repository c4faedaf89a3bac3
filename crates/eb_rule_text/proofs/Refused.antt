-- No text that has the tokens of a refused one up to the refused token is in the grammar.
use Rattle.std.proofs.Common.{◌≡◌, suc, [], ◌∷◌, ◌++◌, length, Ok, Err, sym, ap, subst, ◌∙◌, append_assoc, arith, rules}
use Rattle.eb_rule_text.specs.declared.errors.ReadError.TheVariants.{Syntax, Depth}
use Rattle.eb_rule_text.specs.declared.lexemes.Lexeme.{Lexeme}
use Rattle.eb_rule_text.specs.Input.{Input, Outcome, Parser}
use Rattle.eb_rule_text.specs.Blocks as spec
use Rattle.eb_rule_text.specs.Grammar.{IsRules, IsJob}
use Rattle.eb_rule_text.specs.Refusing.{NoneGoesOn}
use Rattle.eb_rule_text.proofs.CompleteTexts.{rules_is, job_is}
use Rattle.eb_rule_text.proofs.Fronts.{Beyond, Fares, beyond, stops, refuses, too_deep, Local, from}
use Rattle.eb_rule_text.proofs.FrontTexts.{rules_local, job_local}

not_beyond : {A : Type 0} (a : Input) (r : Outcome A) → r ≡ Err (Syntax (suc (length a))) → Beyond a r → ⊥
not_beyond {A = A} a r e h = let g : Beyond {A = A} a (Err (Syntax (suc (length a)))) = subst (λ o. Beyond a o) e h in omega arith

not_deep_beyond : {A : Type 0} (a : Input) (r : Outcome A) → r ≡ Err (Depth (suc (length a))) → Beyond a r → ⊥
not_deep_beyond {A = A} a r e h = let g : Beyond {A = A} a (Err (Depth (suc (length a)))) = subst (λ o. Beyond a o) e h in omega arith

not_read : {A : Type 0} {a b : Input} {r s : Outcome A} {x : A} {j : Input} → Fares a b r s → r ≡ Err (Syntax (suc (length a))) → s ≡ Ok (x, j) → ⊥
not_read {a = a} {r = r} (beyond h) e g = not_beyond a r e h
not_read (stops y t k er es) e g = let both = sym er ∙ e in search rules
not_read (refuses t k er es) e g = let both = sym es ∙ g in search rules
not_read (too_deep t k er es) e g = let both = sym es ∙ g in search rules

not_deep_read : {A : Type 0} {a b : Input} {r s : Outcome A} {x : A} {j : Input} → Fares a b r s → r ≡ Err (Depth (suc (length a))) → s ≡ Ok (x, j) → ⊥
not_deep_read {a = a} {r = r} (beyond h) e g = not_deep_beyond a r e h
not_deep_read (stops y t k er es) e g = let both = sym er ∙ e in search rules
not_deep_read (refuses t k er es) e g = let both = sym es ∙ g in search rules
not_deep_read (too_deep t k er es) e g = let both = sym es ∙ g in search rules

-- a front that ends in the refused token
parted : {A : Type 0} (p : Parser A) (front rest : Input) (t : Lexeme) → p ((front ++ t ∷ []) ++ rest) ≡ p (front ++ t ∷ rest)
parted p front rest t = ap p (append_assoc front (t ∷ []) rest)

goes_not : {A : Type 0} (p : Parser A) → Local p → (front rest other : Input) (t : Lexeme) (x : A) → p (front ++ t ∷ rest) ≡ Err (Syntax (length (t ∷ rest))) → p (front ++ t ∷ other) ≡ Ok (x, []) → ⊥
goes_not p is front rest other t x e g = not_read (from is (front ++ t ∷ []) rest other) (parted p front rest t ∙ e) (parted p front other t ∙ g)

goes_not_deeper : {A : Type 0} (p : Parser A) → Local p → (front rest other : Input) (t : Lexeme) (x : A) → p (front ++ t ∷ rest) ≡ Err (Depth (length (t ∷ rest))) → p (front ++ t ∷ other) ≡ Ok (x, []) → ⊥
goes_not_deeper p is front rest other t x e g = not_deep_read (from is (front ++ t ∷ []) rest other) (parted p front rest t ∙ e) (parted p front other t ∙ g)

pub no_rules_go_on : NoneGoesOn Syntax spec.rules IsRules × NoneGoesOn Depth spec.rules IsRules
no_rules_go_on = (
  λ front rest other t x e is. goes_not spec.rules rules_local front rest other t x e (rules_is (front ++ t ∷ other) x is),
  λ front rest other t x e is. goes_not_deeper spec.rules rules_local front rest other t x e (rules_is (front ++ t ∷ other) x is),
)

pub no_job_goes_on : NoneGoesOn Syntax spec.job IsJob × NoneGoesOn Depth spec.job IsJob
no_job_goes_on = (
  λ front rest other t x e is. goes_not spec.job job_local front rest other t x e (job_is is),
  λ front rest other t x e is. goes_not_deeper spec.job job_local front rest other t x e (job_is is),
)
