-- How a walk over a tree follows its tokens, where the tree is in the grammar: it passes as many places as the part has tokens,
-- and a refusal's place is that of the token that it means.
use Rattle.std.specs.Prelude.{◌≡◌, ℕ, ℤ, ◌+◌, ◌∷◌, drop, length, Option, Some, None, Ok, Err}
use Rattle.eb_rule_text.specs.declared.trees.{Context.Context, Command.Command, Expr.Expr, Find.Find, Query.Query, Target.Target}
use Rattle.eb_rule_text.specs.declared.lexemes.Lexeme.TheVariants as l
use Rattle.eb_rule_text.specs.declared.marks.Mark.TheVariants as m
use Rattle.eb_rule_text.specs.{Input.Input, Tokens.Text}
use Rattle.eb_rule_text.specs.Grammar.{IsFind, IsLevel, IsUnary, IsAtom, IsQuery, IsTarget, IsCommand}
use Rattle.eb_rules.specs.declared.faults.RuleKind.TheVariants.{UnknownName, TypeFault, NameTaken, TooMany}
use Rattle.eb_rules.specs.declared.faults.{Refusal.Refusal, RuleKind.RuleKind}
use Rattle.eb_rules.specs.Typing.{Places, Found, Walked, here}

-- From these tokens to those behind as many are passed as from these places to those behind.
pub record Passed (i j : Input) (p q : Places) : Type 0 where
  pub count : ℕ
  pub long : length i ≡ count + length j
  pub tokens : drop count i ≡ j
  pub places : drop count p ≡ q

-- what a refusal means, at the tokens where it stands
pub data Means : RuleKind → Input → Type 0 where
  unknown_name : {x : Text} {i : Input} → Means UnknownName (l.Name x ∷ i)
  wrong_name : {x : Text} {i : Input} → Means TypeFault (l.Name x ∷ i)
  wrong_chain : {context : Context} {n d : ℕ} {i j : Input} {x : Expr} → IsLevel context n d i x j → Means TypeFault i
  wrong_operand : {context : Context} {d : ℕ} {i j : Input} {x : Expr} → IsUnary context d i x j → Means TypeFault i
  wrong_part : {context : Context} {d : ℕ} {i j : Input} {x : Expr} → IsAtom context d i x j → Means TypeFault i
  wrong_read : {context : Context} {d : ℕ} {i j : Input} {x : Find} → IsFind context d i x j → Means TypeFault i
  wrong_target : {d : ℕ} {i j : Input} {x : Target} → IsTarget d i x j → Means TypeFault i
  missing_field : {i : Input} → Means TypeFault (l.Mark m.RBrace ∷ i)
  taken_name : {x : Text} {i : Input} → Means NameTaken (l.Name x ∷ i)
  taken_number : {n : ℤ} {i : Input} → Means NameTaken (l.Int n ∷ i)
  wide_number : {n : ℤ} {i : Input} → Means TooMany (l.Int n ∷ i)
  last_name : {x : Text} {i : Input} → Means TooMany (l.Name x ∷ i)
  last_extra : {i : Input} → Means TooMany (l.Mark m.Extra ∷ i)
  last_command : {d : ℕ} {i j : Input} {x : Command} → IsCommand d i x j → Means TooMany i
  clashing : {i j : Input} {x : Query} → IsQuery i x j → Means TooMany i

-- a refusal at the place of the token that it means
pub record Points (x : Refusal) (i : Input) (p : Places) : Type 0 where
  pub count : ℕ
  pub at : x.at ≡ here (drop count p)
  pub means : Means x.kind (drop count i)

-- A walk over what stands between these tokens and those behind answers what it means, and passes its tokens; or it means nothing,
-- and the refusal points to the token that it means.
abbrev pub Follows : {A : Type 0} → Walked A → Option A → Input → Input → Places → Type 0
Follows (Ok a) meant i j p = (meant ≡ Some a.0) × Passed i j p a.1
Follows (Err x) meant i j p = (meant ≡ None) × Points x i p

-- the same of a test that passes nothing
abbrev pub Tests : {A : Type 0} → Found A → Option A → Input → Places → Type 0
Tests (Ok a) meant i p = meant ≡ Some a
Tests (Err x) meant i p = (meant ≡ None) × Points x i p
