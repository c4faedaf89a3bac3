-- Expressions of the grammar are read.
use Rattle.std.proofs.Common.{◌≡◌, ℕ, zero, suc, ◌+◌, ◌≤◌, ◌<◌, ℤ, Bool, true, false, if◌then◌else◌, ◌==◌, List, [], ◌∷◌, ◌++◌, length, Option, Some, None, Ok, refl, sym, ap, ◌∙◌, append_assoc, append-nil, arith, rules}
use Rattle.eb_rule_text.specs.declared.lexemes.Lexeme.TheVariants as l
use Rattle.eb_rule_text.specs.declared.marks.Mark.{Mark}
use Rattle.eb_rule_text.specs.declared.marks.Mark.TheVariants as m
use Rattle.eb_rule_text.specs.declared.trees.Context.{Context}
use Rattle.eb_rule_text.specs.declared.trees.Context.TheVariants as c
use Rattle.eb_rule_text.specs.declared.trees.Find.{Find}
use Rattle.eb_rule_text.specs.declared.trees.Find.TheVariants as f
use Rattle.eb_rule_text.specs.declared.trees.Read.{Read}
use Rattle.eb_rule_text.specs.declared.trees.Read.TheVariants as r
use Rattle.eb_rule_text.specs.declared.trees.Op.{Op}
use Rattle.eb_rule_text.specs.declared.trees.Link.{Link}
use Rattle.eb_rule_text.specs.declared.trees.Expr.{Expr}
use Rattle.eb_rule_text.specs.declared.trees.Expr.TheVariants as e
use Rattle.eb_rule_text.specs.Input.{Input, Parser, mark, sees, expect, same_mark}
use Rattle.eb_rule_text.specs.Reading.{begins_find, finds, read, op_at, of_level, op_by, link_of, chain, found_of, turns_of, links, links_from, level, enclosed, marked, atom, prim, under, signed, signed_by, unary, below, expression}
use Rattle.eb_rule_text.specs.Spelled.{find_then, read_then}
use Rattle.eb_rule_text.specs.Grammar.{IsFind, AreFinds, no_find, a_find, IsRead, IsLevel, AreLinks, IsUnary, IsAtom, IsExpr, tightest, chained, no_link, a_link, negated, inverted, plain, an_int, a_fix, a_name, a_true, a_false, a_null, in_parens, to_fix, to_int, a_read}
use Rattle.eb_rule_text.proofs.Takes.{opens_is}
use Rattle.eb_rule_text.proofs.CompleteFinds.{finds_is, finds_take, read_is}

-- no operator of a level below `n` goes on
abbrev pub Stops : ℕ → Input → Type 0
Stops n j = (k : ℕ) → k < n → op_at k (mark j) ≡ None

-- ---- each part takes some tokens

read_shrinks : (x : Read) (j : Input) → length j < length (read_then x j)
read_shrinks (r.This x) j = omega arith
read_shrinks (r.Field p) j = omega arith
read_shrinks (r.Sum over p) j = omega arith
read_shrinks (r.Count over kind) j = omega arith
read_shrinks (r.SumAll p) j = omega arith
read_shrinks (r.CountAll kind) j = omega arith
read_shrinks r.Entity j = omega arith
read_shrinks (r.EntityAt x) j = omega arith
read_shrinks (r.EntityOf x) j = omega arith

read_takes : (context : Context) (d : ℕ) (i j : Input) (x : Read) → IsRead context d i x j → length j < length i
read_takes context d i j x is = rw is.tokens (read_shrinks x j)

mutual
  pub level_takes : {context : Context} {n d : ℕ} {i j : Input} {x : Expr} → IsLevel context n d i x j → length j < length i
  level_takes (tightest u) = unary_takes u
  level_takes (chained first more) = let a = level_takes first in let b = links_take more in omega arith

  links_take : {context : Context} {n d : ℕ} {i j : Input} {x : List (Link Expr)} → AreLinks context n d i x j → length x + length j ≤ length i
  links_take no_link = omega arith
  links_take (a_link e is more few) = let a = level_takes is in let b = links_take more in omega arith

  unary_takes : {context : Context} {d : ℕ} {i j : Input} {x : Expr} → IsUnary context d i x j → length j < length i
  unary_takes (negated u) = let a = unary_takes u in omega arith
  unary_takes (inverted u) = let a = unary_takes u in omega arith
  unary_takes (plain are is) = let a = finds_take are in let b = atom_takes is in omega arith

  atom_takes : {context : Context} {d : ℕ} {i j : Input} {x : Expr} → IsAtom context d i x j → length j < length i
  atom_takes an_int = omega arith
  atom_takes a_fix = omega arith
  atom_takes a_name = omega arith
  atom_takes a_true = omega arith
  atom_takes a_false = omega arith
  atom_takes a_null = omega arith
  atom_takes (in_parens is) = let a = level_takes is in omega arith
  atom_takes (to_fix is) = let a = level_takes is in omega arith
  atom_takes (to_int is) = let a = level_takes is in omega arith
  atom_takes {context = context} {d = d} {i = i} {j = j} (a_read {x = x} is) = read_takes context d i j x is

-- ---- how a part begins

abbrev is_sign : Option Mark → Bool
is_sign (Some m.Minus) = true
is_sign (Some m.Not) = true
is_sign _ = false

find_no_sign : (x : Find) (j : Input) → is_sign (mark (find_then x j)) ≡ false
find_no_sign (f.Own p) j = refl
find_no_sign (f.Parent p) j = refl
find_no_sign (f.Asset a field) j = refl
find_no_sign (f.Min over p) j = refl
find_no_sign (f.Max over p) j = refl
find_no_sign (f.At link p) j = refl
find_no_sign (f.MaxAll p) j = refl

read_no_sign : (x : Read) (j : Input) → is_sign (mark (read_then x j)) ≡ false
read_no_sign (r.This x) j = refl
read_no_sign (r.Field p) j = refl
read_no_sign (r.Sum over p) j = refl
read_no_sign (r.Count over kind) j = refl
read_no_sign (r.SumAll p) j = refl
read_no_sign (r.CountAll kind) j = refl
read_no_sign r.Entity j = refl
read_no_sign (r.EntityAt x) j = refl
read_no_sign (r.EntityOf x) j = refl

read_no_find : (context : Context) (x : Read) (j : Input) → begins_find context (mark (read_then x j)) ≡ false
read_no_find c.Baker (r.This x) j = refl
read_no_find c.Baker (r.Field p) j = refl
read_no_find c.Baker (r.Sum over p) j = refl
read_no_find c.Baker (r.Count over kind) j = refl
read_no_find c.Baker (r.SumAll p) j = refl
read_no_find c.Baker (r.CountAll kind) j = refl
read_no_find c.Baker r.Entity j = refl
read_no_find c.Baker (r.EntityAt x) j = refl
read_no_find c.Baker (r.EntityOf x) j = refl
read_no_find c.System (r.This x) j = refl
read_no_find c.System (r.Field p) j = refl
read_no_find c.System (r.Sum over p) j = refl
read_no_find c.System (r.Count over kind) j = refl
read_no_find c.System (r.SumAll p) j = refl
read_no_find c.System (r.CountAll kind) j = refl
read_no_find c.System r.Entity j = refl
read_no_find c.System (r.EntityAt x) j = refl
read_no_find c.System (r.EntityOf x) j = refl
read_no_find c.Job (r.This x) j = refl
read_no_find c.Job (r.Field p) j = refl
read_no_find c.Job (r.Sum over p) j = refl
read_no_find c.Job (r.Count over kind) j = refl
read_no_find c.Job (r.SumAll p) j = refl
read_no_find c.Job (r.CountAll kind) j = refl
read_no_find c.Job r.Entity j = refl
read_no_find c.Job (r.EntityAt x) j = refl
read_no_find c.Job (r.EntityOf x) j = refl

word_no_find : (context : Context) → (begins_find context (Some m.True) ≡ false) × (begins_find context (Some m.False) ≡ false) × (begins_find context (Some m.Null) ≡ false)
    × (begins_find context (Some m.LParen) ≡ false) × (begins_find context (Some m.Fix) ≡ false) × (begins_find context (Some m.Int) ≡ false) × (begins_find context None ≡ false)
word_no_find c.Baker = (refl, refl, refl, refl, refl, refl, refl)
word_no_find c.System = (refl, refl, refl, refl, refl, refl, refl)
word_no_find c.Job = (refl, refl, refl, refl, refl, refl, refl)

atom_no_find : {context : Context} {d : ℕ} {i j : Input} {x : Expr} → IsAtom context d i x j → begins_find context (mark i) ≡ false
atom_no_find {context = context} an_int = (word_no_find context).6
atom_no_find {context = context} a_fix = (word_no_find context).6
atom_no_find {context = context} a_name = (word_no_find context).6
atom_no_find {context = context} a_true = (word_no_find context).0
atom_no_find {context = context} a_false = (word_no_find context).1
atom_no_find {context = context} a_null = (word_no_find context).2
atom_no_find {context = context} (in_parens is) = (word_no_find context).3
atom_no_find {context = context} (to_fix is) = (word_no_find context).4
atom_no_find {context = context} (to_int is) = (word_no_find context).5
atom_no_find {context = context} {j = j} (a_read {x = x} is) = rw is.tokens (read_no_find context x j)

atom_no_sign : {context : Context} {d : ℕ} {i j : Input} {x : Expr} → IsAtom context d i x j → is_sign (mark i) ≡ false
atom_no_sign an_int = refl
atom_no_sign a_fix = refl
atom_no_sign a_name = refl
atom_no_sign a_true = refl
atom_no_sign a_false = refl
atom_no_sign a_null = refl
atom_no_sign (in_parens is) = refl
atom_no_sign (to_fix is) = refl
atom_no_sign (to_int is) = refl
atom_no_sign {j = j} (a_read {x = x} is) = rw is.tokens (read_no_sign x j)

find_begins : (context : Context) (d : ℕ) (i k : Input) (x : Find) → IsFind context d i x k → is_sign (mark i) ≡ false
find_begins context d i k x is = rw is.tokens (find_no_sign x k)

plain_no_sign : {context : Context} {d : ℕ} {i k j : Input} {found : List Find} {x : Expr} → AreFinds context d i found k → IsAtom context d k x j → is_sign (mark i) ≡ false
plain_no_sign no_find is = atom_no_sign is
plain_no_sign {context = context} {d = d} {i = i} (a_find {x = y} first more) is = find_begins context d i _ y first

signed_plain : (context : Context) (d : ℕ) (p : Parser Expr) (next : Option Mark) (i : Input) → is_sign next ≡ false → signed_by context d p next i ≡ prim context d p i
signed_plain context d p (Some m.Minus) i h = absurd (search rules)
signed_plain context d p (Some m.Not) i h = absurd (search rules)
signed_plain context d p _ i h = refl

-- ---- one step each

unary_is_signed : (context : Context) (d : ℕ) (i : Input) → unary context d i ≡ signed context d (below context d) i
unary_is_signed context zero i = refl
unary_is_signed context (suc d) i = refl

room : (d : ℕ) → 0 < suc d
room d = omega arith

paren_step : (context : Context) (d : ℕ) (i j : Input) (x : Expr) → level (unary context d) 5 i ≡ Ok (x, l.Mark m.RParen ∷ j) → atom context (suc d) (unary context d) (l.Mark m.LParen ∷ i) ≡ Ok (e.Paren x, j)
unfolding atom marked enclosed expect sees same_mark
paren_step context d i j x h = rw (opens_is (suc d) m.LParen i (room d), h) refl

to_fix_step : (context : Context) (d : ℕ) (i j : Input) (x : Expr) → level (unary context d) 5 i ≡ Ok (x, l.Mark m.RParen ∷ j) → atom context (suc d) (unary context d) (l.Mark m.Fix ∷ l.Mark m.LParen ∷ i) ≡ Ok (e.ToFix x, j)
unfolding atom marked enclosed expect sees same_mark
to_fix_step context d i j x h = rw (opens_is (suc d) m.LParen i (room d), h) refl

to_int_step : (context : Context) (d : ℕ) (i j : Input) (x : Expr) → level (unary context d) 5 i ≡ Ok (x, l.Mark m.RParen ∷ j) → atom context (suc d) (unary context d) (l.Mark m.Int ∷ l.Mark m.LParen ∷ i) ≡ Ok (e.ToInt x, j)
unfolding atom marked enclosed expect sees same_mark
to_int_step context d i j x h = rw (opens_is (suc d) m.LParen i (room d), h) refl

word_steps : (context : Context) (d : ℕ) (p : Parser Expr) (j : Input)
    → (atom context d p (l.Mark m.True ∷ j) ≡ Ok (e.True, j)) × (atom context d p (l.Mark m.False ∷ j) ≡ Ok (e.False, j)) × (atom context d p (l.Mark m.Null ∷ j) ≡ Ok (e.Null, j))
unfolding atom marked expect sees same_mark
word_steps context d p j = (refl, refl, refl)

read_step : (context : Context) (d : ℕ) (p : Parser Expr) (x : Read) (j : Input) → read context d (read_then x j) ≡ Ok (x, j) → atom context d p (read_then x j) ≡ Ok (e.Read x, j)
unfolding atom marked
read_step context d p (r.This x) j h = rw h refl
read_step context d p (r.Field x) j h = rw h refl
read_step context d p (r.Sum over x) j h = rw h refl
read_step context d p (r.Count over x) j h = rw h refl
read_step context d p (r.SumAll x) j h = rw h refl
read_step context d p (r.CountAll x) j h = rw h refl
read_step context d p r.Entity j h = rw h refl
read_step context d p (r.EntityAt x) j h = rw h refl
read_step context d p (r.EntityOf x) j h = rw h refl

read_atom : (context : Context) (d : ℕ) (p : Parser Expr) (i j : Input) (x : Read) → IsRead context d i x j → atom context d p i ≡ Ok (e.Read x, j)
read_atom context d p i j x is = ap (atom context d p) is.tokens ∙ read_step context d p x j (read_is context d x j is.stands is.room)

named_atoms : (context : Context) (d : ℕ) (p : Parser Expr) (j : Input)
    → ((n : ℤ) → atom context d p (l.Int n ∷ j) ≡ Ok (e.Int n, j)) × ((n : ℤ) → atom context d p (l.Fix n ∷ j) ≡ Ok (e.Fix n, j)) × ((x : List ℕ) → atom context d p (l.Name x ∷ j) ≡ Ok (e.Name x, j))
unfolding atom
named_atoms context d p j = ((λ n. refl), (λ n. refl), (λ x. refl))

negated_step : (context : Context) (d : ℕ) (i j : Input) (x : Expr) → unary context d i ≡ Ok (x, j) → unary context (suc d) (l.Mark m.Minus ∷ i) ≡ Ok (e.Negate x, j)
unfolding signed under
negated_step context d i j x h = rw (opens_is (suc d) m.Minus i (room d), h) refl

inverted_step : (context : Context) (d : ℕ) (i j : Input) (x : Expr) → unary context d i ≡ Ok (x, j) → unary context (suc d) (l.Mark m.Not ∷ i) ≡ Ok (e.Not x, j)
unfolding signed under
inverted_step context d i j x h = rw (opens_is (suc d) m.Not i (room d), h) refl

plain_step : (context : Context) (d : ℕ) (i k j : Input) (found : List Find) (x : Expr) → is_sign (mark i) ≡ false → finds context d i ≡ Ok (found, k) → atom context d (below context d) k ≡ Ok (x, j)
    → unary context d i ≡ Ok (found_of found x, j)
unfolding signed prim
plain_step context d i k j found x begin h g = unary_is_signed context d i ∙ signed_plain context d (below context d) (mark i) i begin ∙ rw (h, g) refl

-- ---- operators

once_where : (n k q : ℕ) (o p : Op) (b : Bool) → (q == n) ≡ b → (if b then Some p else None) ≡ Some o → k < n → (q == k) ≡ false
once_where n k q o p true e h less = grind arith
once_where n k q o p false e h less = absurd (search rules)

level_once : (n k : ℕ) (p : Option (ℕ × Op)) (o : Op) → of_level n p ≡ Some o → k < n → of_level k p ≡ None
level_once n k None o h less = refl
level_once n k (Some p) o h less = rw (once_where n k p.0 o p.1 (p.0 == n) refl h less) refl

stops_less : (n : ℕ) (j : Input) → Stops (suc n) j → Stops n j
stops_less n j s k h = s k (omega arith)

stops_before : {context : Context} {n d : ℕ} {i j : Input} {more : List (Link Expr)} → AreLinks context n d i more j → Stops (suc n) j → Stops n i
stops_before {n = n} {j = j} no_link s = stops_less n j s
stops_before {n = n} (a_link {mark = k} {o = o} e is more few) s = λ q h. level_once n q (op_by k) o e h

links_stop : (operand : Parser Expr) (n turns : ℕ) (done : List (Link Expr)) (j : Input) → op_at n (mark j) ≡ None → links_from operand n turns done j ≡ Ok (done, j)
links_stop operand n zero done j h = refl
links_stop operand n (suc turns) done j h = rw h refl

links_go : (operand : Parser Expr) (n turns : ℕ) (done : List (Link Expr)) (k : Mark) (i j : Input) (o : Op) (x : Expr) → op_at n (Some k) ≡ Some o → operand i ≡ Ok (x, j)
    → links_from operand n (suc turns) done (l.Mark k ∷ i) ≡ links_from operand n turns (done ++ link_of o x ∷ []) j
links_go operand n turns done k i j o x e h = rw (e, h) refl

enough_where : (n left count : ℕ) (b : Bool) → (n == 2) ≡ b → count ≤ left → (n ≡ 2 → count ≤ 1) → count ≤ (if b then 1 else left)
enough_where n left count true e h one = one (grind arith)
enough_where n left count false e h one = h

few_links : {context : Context} {n d : ℕ} {i j : Input} {more : List (Link Expr)} → AreLinks context n d i more j → n ≡ 2 → length more ≤ 1
few_links no_link e = omega arith
few_links (a_link {more = more} h is rest few) e = let none = ap length (few e) in omega arith

enough : {context : Context} {n d : ℕ} {i j : Input} {more : List (Link Expr)} → AreLinks context n d i more j → length more ≤ turns_of n (length i)
enough {n = n} {i = i} {more = more} are = let a = links_take are in enough_where n (length i) (length more) (n == 2) refl (omega arith) (few_links are)

chained_step : (p : Parser Expr) (n : ℕ) (i k j : Input) (first : Expr) (more : List (Link Expr)) → level p n i ≡ Ok (first, k) → links_from (level p n) n (turns_of n (length k)) [] k ≡ Ok (more, j)
    → level p (suc n) i ≡ Ok (chain first more, j)
unfolding links
chained_step p n i k j first more h g = rw (h, g) refl

just_below : (n : ℕ) → n < suc n
just_below n = omega arith

mutual
  pub level_is : {context : Context} {n d : ℕ} {i j : Input} {x : Expr} → IsLevel context n d i x j → Stops n j → level (unary context d) n i ≡ Ok (x, j)
  level_is (tightest u) s = unary_is u
  level_is {context = context} {d = d} {i = i} {j = j} (chained {n = n} {k = k} {first = first} {more = more} is are) s =
      chained_step (unary context d) n i k j first more (level_is is (stops_before are s)) (links_are are s (turns_of n (length k)) [] (enough are))

  links_are : {context : Context} {n d : ℕ} {i j : Input} {more : List (Link Expr)} → AreLinks context n d i more j → Stops (suc n) j → (turns : ℕ) (done : List (Link Expr)) → length more ≤ turns
      → links_from (level (unary context d) n) n turns done i ≡ Ok (done ++ more, j)
  links_are {context = context} {n = n} {d = d} {i = i} no_link s turns done few =
      links_stop (level (unary context d) n) n turns done i (s n (just_below n)) ∙ ap (λ y. Ok (y, i)) (sym (append-nil done))
  links_are (a_link e is more one) s zero done few = absurd (omega arith)
  links_are {context = context} {n = n} {d = d} {j = j} (a_link {i = i} {k = k} {mark = word} {o = o} {x = x} {more = rest} e is more one) s (suc turns) done few =
      links_go (level (unary context d) n) n turns done word i k o x e (level_is is (stops_before more s))
      ∙ links_are more s turns (done ++ link_of o x ∷ []) (omega arith) ∙ ap (λ y. Ok (y, j)) (append_assoc done (link_of o x ∷ []) rest)

  unary_is : {context : Context} {d : ℕ} {i j : Input} {x : Expr} → IsUnary context d i x j → unary context d i ≡ Ok (x, j)
  unary_is {context = context} {j = j} (negated {d = d} {i = i} {x = x} u) = negated_step context d i j x (unary_is u)
  unary_is {context = context} {j = j} (inverted {d = d} {i = i} {x = x} u) = inverted_step context d i j x (unary_is u)
  unary_is {context = context} {d = d} {i = i} {j = j} (plain {k = k} {found = found} {x = x} are is) =
      plain_step context d i k j found x (plain_no_sign are is) (finds_is are (atom_no_find is)) (atom_is is)

  atom_is : {context : Context} {d : ℕ} {i j : Input} {x : Expr} → IsAtom context d i x j → atom context d (below context d) i ≡ Ok (x, j)
  atom_is {context = context} {d = d} {j = j} (an_int {n = n}) = (named_atoms context d (below context d) j).0 n
  atom_is {context = context} {d = d} {j = j} (a_fix {n = n}) = (named_atoms context d (below context d) j).1 n
  atom_is {context = context} {d = d} {j = j} (a_name {x = x}) = (named_atoms context d (below context d) j).2 x
  atom_is {context = context} {d = d} {j = j} a_true = (word_steps context d (below context d) j).0
  atom_is {context = context} {d = d} {j = j} a_false = (word_steps context d (below context d) j).1
  atom_is {context = context} {d = d} {j = j} a_null = (word_steps context d (below context d) j).2
  atom_is {context = context} {j = j} (in_parens {d = d} {i = i} {x = x} is) = paren_step context d i j x (level_is is (λ _ _. refl))
  atom_is {context = context} {j = j} (to_fix {d = d} {i = i} {x = x} is) = to_fix_step context d i j x (level_is is (λ _ _. refl))
  atom_is {context = context} {j = j} (to_int {d = d} {i = i} {x = x} is) = to_int_step context d i j x (level_is is (λ _ _. refl))
  atom_is {context = context} {d = d} {i = i} {j = j} (a_read {x = x} is) = read_atom context d (below context d) i j x is

pub expression_is : {context : Context} {d : ℕ} {i j : Input} {x : Expr} → IsExpr context d i x j → Stops 5 j → expression context d i ≡ Ok (x, j)
unfolding expression
expression_is is s = level_is is s
