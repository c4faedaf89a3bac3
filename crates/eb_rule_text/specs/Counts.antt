-- How many tokens reads and targets have: as many as they are spelled with.
use Rattle.std.specs.Prelude.{◌≡◌, ℕ, ◌+◌, [], ◌∷◌, length, drop}
use Rattle.eb_rule_text.specs.declared.trees.{Context.Context, Find.Find, Read.Read, Target.Target}
use Rattle.eb_rule_text.specs.declared.lexemes.Lexeme.TheVariants as l
use Rattle.eb_rule_text.specs.declared.marks.Mark.TheVariants as m
use Rattle.eb_rule_text.specs.{Input.Input, Spelled.find_then, Spelled.read_then, Spelled.target_then, Grammar.IsFind, Grammar.IsRead, Grammar.IsTarget}

abbrev pub read_tokens : Read → ℕ
read_tokens x = length (read_then x [])

-- with the `or` behind it
abbrev pub find_tokens : Find → ℕ
find_tokens x = length (find_then x (l.Mark m.Or ∷ []))

abbrev pub target_tokens : Target → ℕ
target_tokens x = length (target_then x [])

-- so many tokens stand before the list j in the list i
pub record Spans (n : ℕ) (i j : Input) : Type 0 where
  pub count : length i ≡ n + length j
  pub rest : drop n i ≡ j

abbrev pub ReadsSpan : Type 0
ReadsSpan = (context : Context) (d : ℕ) (i j : Input) (x : Read) → IsRead context d i x j → Spans (read_tokens x) i j

abbrev pub FindsSpan : Type 0
FindsSpan = (context : Context) (d : ℕ) (i j : Input) (x : Find) → IsFind context d i x (l.Mark m.Or ∷ j) → Spans (find_tokens x) i j

abbrev pub TargetsSpan : Type 0
TargetsSpan = (d : ℕ) (i j : Input) (x : Target) → IsTarget d i x j → Spans (target_tokens x) i j
