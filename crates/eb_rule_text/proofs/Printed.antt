-- What a derivation of the grammar reads is the text that its tree is printed as.
use Rattle.std.proofs.Common.{◌≡◌, ℕ, ℤ, Bool, true, false, if◌then◌else◌, ◌==◌, List, [], ◌∷◌, ◌++◌, Option, Some, None, map, refl, sym, ap, ◌∙◌, append_assoc, rules}
use Rattle.eb_rule_text.specs.declared.lexemes.Lexeme.TheVariants as l
use Rattle.eb_rule_text.specs.declared.marks.Mark.{Mark}
use Rattle.eb_rule_text.specs.declared.marks.Mark.TheVariants as m
use Rattle.eb_rule_text.specs.declared.trees.Context.{Context}
use Rattle.eb_rule_text.specs.declared.trees.Find.{Find}
use Rattle.eb_rule_text.specs.declared.trees.Find.TheVariants as f
use Rattle.eb_rule_text.specs.declared.trees.Read.{Read}
use Rattle.eb_rule_text.specs.declared.trees.Read.TheVariants as r
use Rattle.eb_rule_text.specs.declared.trees.Op.{Op}
use Rattle.eb_rule_text.specs.declared.trees.Link.{Link}
use Rattle.eb_rule_text.specs.declared.trees.Expr.{Expr, the_lemmas}
use Rattle.eb_rule_text.specs.declared.trees.Expr.TheVariants as e
use Rattle.eb_rule_text.specs.Tokens.{Text}
use Rattle.eb_rule_text.specs.Input.{Input}
use Rattle.eb_rule_text.specs.Reading.{op_at, of_level, op_by, link_of, chain, found_of}
use Rattle.eb_rule_text.specs.Spelled.{find_then, read_then}
use Rattle.eb_rule_text.specs.Spelling.{token_text, text_of}
use Rattle.eb_rule_text.specs.Printing.{mark_out, name_out, find_text, read_text, finds_text, op_mark, links_text, expr_text, chain_text}
use Rattle.eb_rule_text.specs.Grammar.{IsFind, IsRead, AreFinds, no_find, a_find, IsLevel, AreLinks, IsUnary, IsAtom, IsExpr, tightest, chained, no_link, a_link, negated, inverted, plain, an_int, a_fix, a_name, a_true, a_false, a_null, in_parens, to_fix, to_int, a_read}

-- ---- reads

find_joined : (x : Find) (j : Input) → text_of (find_then x j) ≡ find_text x ++ text_of j
unfolding find_text
find_joined (f.Own p) j = simp append_assoc refl
find_joined (f.Parent p) j = simp append_assoc refl
find_joined (f.Asset a field) j = simp append_assoc refl
find_joined (f.Min over p) j = simp append_assoc refl
find_joined (f.Max over p) j = simp append_assoc refl
find_joined (f.At link p) j = simp append_assoc refl
find_joined (f.MaxAll p) j = simp append_assoc refl

read_joined : (x : Read) (j : Input) → text_of (read_then x j) ≡ read_text x ++ text_of j
unfolding read_text
read_joined (r.This x) j = simp append_assoc refl
read_joined (r.Field p) j = simp append_assoc refl
read_joined (r.Sum over p) j = simp append_assoc refl
read_joined (r.Count over kind) j = simp append_assoc refl
read_joined (r.SumAll p) j = simp append_assoc refl
read_joined (r.CountAll kind) j = simp append_assoc refl
read_joined r.Entity j = simp append_assoc refl
read_joined (r.EntityAt x) j = simp append_assoc refl
read_joined (r.EntityOf x) j = simp append_assoc refl

find_printed : (context : Context) (d : ℕ) (i j : Input) (x : Find) → IsFind context d i x j → text_of i ≡ find_text x ++ text_of j
find_printed context d i j x is = ap text_of is.tokens ∙ find_joined x j

read_printed : (context : Context) (d : ℕ) (i j : Input) (x : Read) → IsRead context d i x j → text_of i ≡ read_text x ++ text_of j
read_printed context d i j x is = ap text_of is.tokens ∙ read_joined x j

-- three texts behind one another
shifted : (a b c d : Text) → a ++ (b ++ (c ++ d)) ≡ (a ++ (b ++ c)) ++ d
shifted a b c d = sym (append_assoc a (b ++ c) d ∙ ap (λ t. a ++ t) (append_assoc b c d))

finds_printed : {context : Context} {d : ℕ} {i j : Input} {x : List Find} → AreFinds context d i x j → text_of i ≡ finds_text x ++ text_of j
finds_printed no_find = refl
finds_printed {context = context} {d = d} {i = i} {j = j} (a_find {k = k} {x = x} {more = more} is are) =
    find_printed context d i (l.Mark m.Or ∷ k) x is ∙ ap (λ t. find_text x ++ (mark_out m.Or ++ t)) (finds_printed are) ∙ shifted (find_text x) (mark_out m.Or) (finds_text more) (text_of j)

-- ---- expressions

pub text_int : (n : ℤ) → expr_text (e.Int n) ≡ token_text (l.Int n)
unfolding expr_text
text_int n = search (rules, the_lemmas)

pub text_fix : (n : ℤ) → expr_text (e.Fix n) ≡ token_text (l.Fix n)
unfolding expr_text
text_fix n = search (rules, the_lemmas)

pub text_true : expr_text e.True ≡ mark_out m.True
unfolding expr_text
text_true = search (rules, the_lemmas)

pub text_false : expr_text e.False ≡ mark_out m.False
unfolding expr_text
text_false = search (rules, the_lemmas)

pub text_null : expr_text e.Null ≡ mark_out m.Null
unfolding expr_text
text_null = search (rules, the_lemmas)

pub text_name : (x : Text) → expr_text (e.Name x) ≡ name_out x
unfolding expr_text
text_name x = search (rules, the_lemmas)

pub text_paren : (x : Expr) → expr_text (e.Paren x) ≡ mark_out m.LParen ++ (expr_text x ++ mark_out m.RParen)
unfolding expr_text
text_paren x = search (rules, the_lemmas)

pub text_to_fix : (x : Expr) → expr_text (e.ToFix x) ≡ mark_out m.Fix ++ (mark_out m.LParen ++ (expr_text x ++ mark_out m.RParen))
unfolding expr_text
text_to_fix x = search (rules, the_lemmas)

pub text_to_int : (x : Expr) → expr_text (e.ToInt x) ≡ mark_out m.Int ++ (mark_out m.LParen ++ (expr_text x ++ mark_out m.RParen))
unfolding expr_text
text_to_int x = search (rules, the_lemmas)

pub text_read : (x : Read) → expr_text (e.Read x) ≡ read_text x
unfolding expr_text
text_read x = search (rules, the_lemmas)

pub text_find : (found : List Find) (x : Expr) → expr_text (e.Find found x) ≡ finds_text found ++ expr_text x
unfolding expr_text
text_find found x = search (rules, the_lemmas)

pub text_negate : (x : Expr) → expr_text (e.Negate x) ≡ mark_out m.Minus ++ expr_text x
unfolding expr_text
text_negate x = search (rules, the_lemmas)

pub text_not : (x : Expr) → expr_text (e.Not x) ≡ mark_out m.Not ++ expr_text x
unfolding expr_text
text_not x = search (rules, the_lemmas)

-- a link whose operand is printed
abbrev printed_link : Link Expr → Link Text
printed_link x = record { op = x.op; right = expr_text x.right }

links_mapped : (more : List (Link Expr)) → links_text (map printed_link more) ≡ chain_text more
links_mapped [] = refl
links_mapped (x ∷ xs) = ap (λ t. mark_out (op_mark x.op) ++ (expr_text x.right ++ t)) (links_mapped xs)

text_chain_step : (first : Expr) (more : List (Link Expr)) → expr_text (e.Chain first more) ≡ expr_text first ++ links_text (map printed_link more)
unfolding expr_text
text_chain_step first more = search (rules, the_lemmas)

pub text_chain : (first : Expr) (more : List (Link Expr)) → expr_text (e.Chain first more) ≡ expr_text first ++ chain_text more
text_chain first more = text_chain_step first more ∙ ap (λ t. expr_text first ++ t) (links_mapped more)

-- ---- operators

record Leveled (p : Option (ℕ × Op)) (o : Op) : Type 0 where
  level : ℕ
  is : p ≡ Some (level, o)

leveled_where : (n k : ℕ) (o p : Op) (b : Bool) → (if b then Some p else None) ≡ Some o → Leveled (Some (k, p)) o
leveled_where n k o p true h = let e : p ≡ o = search rules in record { level = k; is = ap (λ q. Some (k, q)) e }
leveled_where n k o p false h = absurd (search rules)

leveled : (n : ℕ) (p : Option (ℕ × Op)) (o : Op) → of_level n p ≡ Some o → Leveled p o
leveled n None o h = absurd (search rules)
leveled n (Some p) o h = leveled_where n p.0 o p.1 (p.0 == n) h

op_same : (k n : ℕ) (o p : Op) → ◌≡◌ {A = Option (ℕ × Op)} (Some (k, p)) (Some (n, o)) → p ≡ o
op_same k n o p h = search rules

op_spelled : (k : Mark) (n : ℕ) (o : Op) → op_by k ≡ Some (n, o) → op_mark o ≡ k
op_spelled m.Star n o h = ap op_mark (sym (op_same _ _ _ _ h))
op_spelled m.Slash n o h = ap op_mark (sym (op_same _ _ _ _ h))
op_spelled m.Plus n o h = ap op_mark (sym (op_same _ _ _ _ h))
op_spelled m.Minus n o h = ap op_mark (sym (op_same _ _ _ _ h))
op_spelled m.Equal n o h = ap op_mark (sym (op_same _ _ _ _ h))
op_spelled m.NotEqual n o h = ap op_mark (sym (op_same _ _ _ _ h))
op_spelled m.Less n o h = ap op_mark (sym (op_same _ _ _ _ h))
op_spelled m.AtMost n o h = ap op_mark (sym (op_same _ _ _ _ h))
op_spelled m.Greater n o h = ap op_mark (sym (op_same _ _ _ _ h))
op_spelled m.AtLeast n o h = ap op_mark (sym (op_same _ _ _ _ h))
op_spelled m.And n o h = ap op_mark (sym (op_same _ _ _ _ h))
op_spelled m.Either n o h = ap op_mark (sym (op_same _ _ _ _ h))
op_spelled _ n o h = absurd (search rules)

op_printed : (n : ℕ) (k : Mark) (o : Op) → op_at n (Some k) ≡ Some o → op_mark o ≡ k
op_printed n k o h = let a = leveled n (op_by k) o h in op_spelled k a.level o a.is

-- ---- one step each

paren_joined : (x : Expr) (j : Text) → mark_out m.LParen ++ (expr_text x ++ (mark_out m.RParen ++ j)) ≡ expr_text (e.Paren x) ++ j
paren_joined x j = rw (text_paren x) (simp append_assoc refl)

to_fix_joined : (x : Expr) (j : Text) → mark_out m.Fix ++ (mark_out m.LParen ++ (expr_text x ++ (mark_out m.RParen ++ j))) ≡ expr_text (e.ToFix x) ++ j
to_fix_joined x j = rw (text_to_fix x) (simp append_assoc refl)

to_int_joined : (x : Expr) (j : Text) → mark_out m.Int ++ (mark_out m.LParen ++ (expr_text x ++ (mark_out m.RParen ++ j))) ≡ expr_text (e.ToInt x) ++ j
to_int_joined x j = rw (text_to_int x) (simp append_assoc refl)

negate_joined : (x : Expr) (j : Text) → mark_out m.Minus ++ (expr_text x ++ j) ≡ expr_text (e.Negate x) ++ j
negate_joined x j = rw (text_negate x) (sym (append_assoc (mark_out m.Minus) (expr_text x) j))

not_joined : (x : Expr) (j : Text) → mark_out m.Not ++ (expr_text x ++ j) ≡ expr_text (e.Not x) ++ j
not_joined x j = rw (text_not x) (sym (append_assoc (mark_out m.Not) (expr_text x) j))

found_joined : (found : List Find) (x : Expr) (j : Text) → finds_text found ++ (expr_text x ++ j) ≡ expr_text (found_of found x) ++ j
found_joined [] x j = refl
found_joined (y ∷ ys) x j = rw (text_find (y ∷ ys) x) (sym (append_assoc (finds_text (y ∷ ys)) (expr_text x) j))

chain_joined : (first : Expr) (more : List (Link Expr)) (j : Text) → expr_text first ++ (chain_text more ++ j) ≡ expr_text (chain first more) ++ j
chain_joined first [] j = refl
chain_joined first (x ∷ xs) j = rw (text_chain first (x ∷ xs)) (sym (append_assoc (expr_text first) (chain_text (x ∷ xs)) j))

link_joined : (n : ℕ) (k : Mark) (o : Op) (x : Expr) (more : List (Link Expr)) (j : Text) → op_at n (Some k) ≡ Some o → mark_out k ++ (expr_text x ++ (chain_text more ++ j)) ≡ chain_text (link_of o x ∷ more) ++ j
link_joined n k o x more j h = rw (← op_printed n k o h) (shifted (mark_out (op_mark o)) (expr_text x) (chain_text more) j)

mutual
  level_printed : {context : Context} {n d : ℕ} {i j : Input} {x : Expr} → IsLevel context n d i x j → text_of i ≡ expr_text x ++ text_of j
  level_printed (tightest u) = unary_printed u
  level_printed {j = j} (chained {first = first} {more = more} is are) =
      level_printed is ∙ ap (λ t. expr_text first ++ t) (links_printed are) ∙ chain_joined first more (text_of j)

  links_printed : {context : Context} {n d : ℕ} {i j : Input} {more : List (Link Expr)} → AreLinks context n d i more j → text_of i ≡ chain_text more ++ text_of j
  links_printed no_link = refl
  links_printed {n = n} {j = j} (a_link {mark = k} {o = o} {x = x} {more = more} e is are one) =
      ap (λ t. mark_out k ++ t) (level_printed is ∙ ap (λ t. expr_text x ++ t) (links_printed are)) ∙ link_joined n k o x more (text_of j) e

  unary_printed : {context : Context} {d : ℕ} {i j : Input} {x : Expr} → IsUnary context d i x j → text_of i ≡ expr_text x ++ text_of j
  unary_printed {j = j} (negated {x = x} u) = ap (λ t. mark_out m.Minus ++ t) (unary_printed u) ∙ negate_joined x (text_of j)
  unary_printed {j = j} (inverted {x = x} u) = ap (λ t. mark_out m.Not ++ t) (unary_printed u) ∙ not_joined x (text_of j)
  unary_printed {j = j} (plain {found = found} {x = x} are is) = finds_printed are ∙ ap (λ t. finds_text found ++ t) (atom_printed is) ∙ found_joined found x (text_of j)

  atom_printed : {context : Context} {d : ℕ} {i j : Input} {x : Expr} → IsAtom context d i x j → text_of i ≡ expr_text x ++ text_of j
  atom_printed {j = j} (an_int {n = n}) = ap (λ t. t ++ text_of j) (sym (text_int n))
  atom_printed {j = j} (a_fix {n = n}) = ap (λ t. t ++ text_of j) (sym (text_fix n))
  atom_printed {j = j} (a_name {x = x}) = ap (λ t. t ++ text_of j) (sym (text_name x))
  atom_printed {j = j} a_true = ap (λ t. t ++ text_of j) (sym text_true)
  atom_printed {j = j} a_false = ap (λ t. t ++ text_of j) (sym text_false)
  atom_printed {j = j} a_null = ap (λ t. t ++ text_of j) (sym text_null)
  atom_printed {j = j} (in_parens {x = x} is) = ap (λ t. mark_out m.LParen ++ t) (level_printed is) ∙ paren_joined x (text_of j)
  atom_printed {j = j} (to_fix {x = x} is) = ap (λ t. mark_out m.Fix ++ (mark_out m.LParen ++ t)) (level_printed is) ∙ to_fix_joined x (text_of j)
  atom_printed {j = j} (to_int {x = x} is) = ap (λ t. mark_out m.Int ++ (mark_out m.LParen ++ t)) (level_printed is) ∙ to_int_joined x (text_of j)
  atom_printed {context = context} {d = d} {i = i} {j = j} (a_read {x = x} is) = read_printed context d i j x is ∙ ap (λ t. t ++ text_of j) (sym (text_read x))

pub expr_printed : {context : Context} {d : ℕ} {i j : Input} {x : Expr} → IsExpr context d i x j → text_of i ≡ expr_text x ++ text_of j
expr_printed is = level_printed is

-- two texts put one behind the other
pub put_both : (a b c x y p : Text) → b ≡ a ++ x → c ≡ b ++ y → p ≡ x ++ y → c ≡ a ++ p
put_both a b c x y p first then_ whole = then_ ∙ ap (λ t. t ++ y) first ∙ append_assoc a x y ∙ ap (λ t. a ++ t) (sym whole)

pub put_three : (a b c d x y z p : Text) → b ≡ a ++ x → c ≡ b ++ y → d ≡ c ++ z → p ≡ (x ++ y) ++ z → d ≡ a ++ p
put_three a b c d x y z p first second third whole = third ∙ ap (λ t. t ++ z) (put_both a b c x y (x ++ y) first second refl) ∙ append_assoc a (x ++ y) z ∙ ap (λ t. a ++ t) (sym whole)
