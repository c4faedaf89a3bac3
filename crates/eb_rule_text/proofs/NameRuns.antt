-- Names that follow one another.
use Rattle.std.proofs.Common.{◌≡◌, ◌<◌, true, false, List, [], ◌∷◌, ◌++◌, length, Ok, Err, refl, ap, arith, rules}
use Rattle.eb_rule_text.specs.declared.errors.ReadError.{ReadError}
use Rattle.eb_rule_text.specs.declared.lexemes.Lexeme.TheVariants as l
use Rattle.eb_rule_text.specs.Tokens.{Text}
use Rattle.eb_rule_text.specs.Input.{Input, name, sees_name}
use Rattle.eb_rule_text.specs.Blocks.{names_from}

pub record Named (x : Text) (i j : Input) : Type 0 where
  pub is : i ≡ l.Name x ∷ j

-- where a name can be taken, it stands in front
pub named : (i j : Input) (x : Text) → name i ≡ Ok (x, j) → i ≡ l.Name x ∷ j
unfolding name
named [] j x h = absurd (search rules)
named (l.Mark k ∷ i) j x h = absurd (search rules)
named (l.Name y ∷ i) j x h = search rules
named (l.Underscored ∷ i) j x h = absurd (search rules)
named (l.Int n ∷ i) j x h = absurd (search rules)
named (l.Fix n ∷ i) j x h = absurd (search rules)

pub never_refused : (i : Input) (e : ReadError) → sees_name i ≡ true → name i ≡ Err e → ⊥
unfolding name
never_refused [] e h r = search rules
never_refused (l.Mark k ∷ i) e h r = search rules
never_refused (l.Name y ∷ i) e h r = search rules
never_refused (l.Underscored ∷ i) e h r = search rules
never_refused (l.Int n ∷ i) e h r = search rules
never_refused (l.Fix n ∷ i) e h r = search rules

pub names_stop : (done : List Text) (i : Input) → sees_name i ≡ false → names_from done i ≡ Ok (done, i)
names_stop done [] h = refl
names_stop done (l.Mark k ∷ i) h = refl
names_stop done (l.Name y ∷ i) h = absurd (search rules)
names_stop done (l.Underscored ∷ i) h = refl
names_stop done (l.Int n ∷ i) h = refl
names_stop done (l.Fix n ∷ i) h = refl

pub names_go : (done : List Text) (i j : Input) (x : Text) → name i ≡ Ok (x, j) → names_from done i ≡ names_from (done ++ x ∷ []) j
names_go done i j x h = ap (names_from done) (named i j x h)

pub shorter : (i j : Input) (x : Text) → name i ≡ Ok (x, j) → length j < length i
shorter i j x h = rw (named i j x h) (omega arith)
