-- What expressions mean: under the values of the visible names, a calculation that asks after what is read.
use Rattle.std.specs.Prelude.{ℕ, Bool, true, false, not, List, [], ◌∷◌, map, Option, Some, None, slice_get}
use Rattle.std.specs.Option.{unwrap_or}
use Rattle.eb_rule_text.specs.declared.trees.Link.{Link}
use Rattle.eb_rule_text.specs.declared.trees.Op.{Op}
use Rattle.eb_rules.specs.declared.plans.FindTerm.{FindTerm}
use Rattle.eb_rules.specs.declared.plans.Term.{Term}
use Rattle.eb_rules.specs.declared.plans.Term.TheOpen.{Term-F}
use Rattle.eb_rules.specs.declared.plans.Term.TheFolds.{fold-Term}
use Rattle.eb_meaning.specs.Asks.{Asks, AValue, Found, Sight, done, bind, lift}
use Rattle.eb_meaning.specs.Operators.{no_value, truth, left_decides, applied, negated, to_fix, to_int}
use Rattle.eb_meaning.specs.declared.values.Link.TheVariants as link
use Rattle.eb_meaning.specs.declared.values.Value.{Value}
use Rattle.eb_meaning.specs.declared.values.Value.TheVariants as v

abbrev pub Means : Type 0
Means = List Value → Asks AValue

-- the value of the name at a place
abbrev pub name_at : List Value → ℕ → Value
name_at names at = unwrap_or (slice_get names at) no_value

-- ---- reads with `or`

-- what was found, or else what this gives
abbrev pub else_value : Option Value → Asks AValue → Asks AValue
else_value (Some x) m = done x
else_value None m = m

abbrev pub else_found : Option Value → Asks Found → Asks Found
else_found (Some x) m = done (Some x)
else_found None m = m

-- what the first of these reads finds that finds anything
abbrev pub first_found : Sight → List FindTerm → Asks Found
first_found s [] = done None
first_found s (x ∷ xs) = bind (s.find x) (λ found. else_found found (first_found s xs))

-- what is found, or else what stands behind the last `or`
abbrev pub found_or : Sight → List FindTerm → Asks AValue → Asks AValue
found_or s finds last = bind (first_found s finds) (λ found. else_value found last)

-- ---- operators

abbrev pub left_or : Bool → Value → Asks AValue → Asks AValue
left_or true x m = done x
left_or false x m = m

-- an operator and its right operand, behind the value on its left
abbrev pub with_right : Op → Asks AValue → Value → Asks AValue
with_right o m left = left_or (left_decides o left) left (bind m (λ right. lift (applied o left right)))

abbrev pub chain_value : List (Link Means) → List Value → Value → Asks AValue
chain_value [] names left = done left
chain_value (x ∷ xs) names left = bind (with_right x.op (x.right names) left) (chain_value xs names)

-- ---- expressions

abbrev pub meaning_step : Sight → Term-F Means → Means
meaning_step s (Term-F.Int n) names = done (v.Int n)
meaning_step s (Term-F.Fix n) names = done (v.Fix n)
meaning_step s Term-F.True names = done (v.Truth true)
meaning_step s Term-F.False names = done (v.Truth false)
meaning_step s Term-F.Null names = done (v.Link link.Null)
meaning_step s (Term-F.Name at) names = done (name_at names at)
meaning_step s (Term-F.ToFix x) names = bind (x names) (λ y. lift (to_fix y))
meaning_step s (Term-F.ToInt x) names = bind (x names) (λ y. lift (to_int y))
meaning_step s (Term-F.Read x) names = s.read x
meaning_step s (Term-F.Find finds last) names = found_or s finds (last names)
meaning_step s (Term-F.Negate x) names = bind (x names) (λ y. lift (negated y))
meaning_step s (Term-F.Not x) names = bind (x names) (λ y. done (v.Truth (not (truth y))))
meaning_step s (Term-F.Chain first more) names = bind (first names) (chain_value more names)

-- the value of an expression
unfoldable pub meaning : Sight → Term → Means
meaning s = fold-Term Means (meaning_step s)

-- an operator whose right operand has its meaning
abbrev pub right_meaning : Sight → Link Term → Link Means
right_meaning s x = record { op = x.op; right = meaning s x.right }

-- operators with their right operands, behind the value on their left
abbrev pub chain_meaning : Sight → List (Link Term) → List Value → Value → Asks AValue
chain_meaning s more = chain_value (map (right_meaning s) more)

-- reads each of which goes on with `or`, and what stands behind the last one
abbrev pub reads_meaning : Sight → List FindTerm → Term → Means
reads_meaning s finds last names = found_or s finds (meaning s last names)
