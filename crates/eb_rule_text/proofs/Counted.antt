-- Reads and targets have as many tokens as they are spelled with.
use Rattle.std.proofs.Common.{◌≡◌, ℕ, ◌∷◌, refl, arith}
use Rattle.eb_rule_text.specs.declared.lexemes.Lexeme.TheVariants as l
use Rattle.eb_rule_text.specs.declared.marks.Mark.TheVariants as m
use Rattle.eb_rule_text.specs.declared.trees.Context.{Context}
use Rattle.eb_rule_text.specs.declared.trees.Find.{Find}
use Rattle.eb_rule_text.specs.declared.trees.Find.TheVariants as f
use Rattle.eb_rule_text.specs.declared.trees.Read.{Read}
use Rattle.eb_rule_text.specs.declared.trees.Read.TheVariants as r
use Rattle.eb_rule_text.specs.declared.trees.Target.{Target}
use Rattle.eb_rule_text.specs.Input.{Input}
use Rattle.eb_rule_text.specs.Spelled.{find_then, read_then}
use Rattle.eb_rule_text.specs.Grammar.{IsFind, IsRead, IsTarget, at_this, at_name, at_link}
use Rattle.eb_rule_text.specs.Counts.{Spans, read_tokens, find_tokens, target_tokens}

read_spelled : (x : Read) (j : Input) → Spans (read_tokens x) (read_then x j) j
read_spelled (r.This x) j = record { count = omega arith; rest = refl }
read_spelled (r.Field p) j = record { count = omega arith; rest = refl }
read_spelled (r.Sum over p) j = record { count = omega arith; rest = refl }
read_spelled (r.Count over kind) j = record { count = omega arith; rest = refl }
read_spelled (r.SumAll p) j = record { count = omega arith; rest = refl }
read_spelled (r.CountAll kind) j = record { count = omega arith; rest = refl }
read_spelled r.Entity j = record { count = omega arith; rest = refl }
read_spelled (r.EntityAt x) j = record { count = omega arith; rest = refl }
read_spelled (r.EntityOf x) j = record { count = omega arith; rest = refl }

find_spelled : (x : Find) (j : Input) → Spans (find_tokens x) (find_then x (l.Mark m.Or ∷ j)) j
find_spelled (f.Own p) j = record { count = omega arith; rest = refl }
find_spelled (f.Parent p) j = record { count = omega arith; rest = refl }
find_spelled (f.Asset a field) j = record { count = omega arith; rest = refl }
find_spelled (f.Min over p) j = record { count = omega arith; rest = refl }
find_spelled (f.Max over p) j = record { count = omega arith; rest = refl }
find_spelled (f.At link p) j = record { count = omega arith; rest = refl }
find_spelled (f.MaxAll p) j = record { count = omega arith; rest = refl }

spans_at : {n : ℕ} {i k j : Input} → i ≡ k → Spans n k j → Spans n i j
spans_at e spans = rw (e) spans

pub read_spans : (context : Context) (d : ℕ) (i j : Input) (x : Read) → IsRead context d i x j → Spans (read_tokens x) i j
read_spans context d i j x is = spans_at is.tokens (read_spelled x j)

pub find_spans : (context : Context) (d : ℕ) (i j : Input) (x : Find) → IsFind context d i x (l.Mark m.Or ∷ j) → Spans (find_tokens x) i j
find_spans context d i j x is = spans_at is.tokens (find_spelled x j)

pub target_spans : (d : ℕ) (i j : Input) (x : Target) → IsTarget d i x j → Spans (target_tokens x) i j
target_spans d i j x at_this = record { count = omega arith; rest = refl }
target_spans d i j x at_name = record { count = omega arith; rest = refl }
target_spans d i j x at_link = record { count = omega arith; rest = refl }
