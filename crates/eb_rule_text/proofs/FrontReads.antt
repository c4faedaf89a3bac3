-- Reads and expressions are read by the tokens of a front alone.
use Rattle.std.proofs.Common.{◌≡◌, ℕ, zero, suc, [], ◌∷◌, ◌++◌, Option, Some, Ok, refl, arith, rules}
use Rattle.eb_rule_text.specs.declared.lexemes.Lexeme.{Lexeme}
use Rattle.eb_rule_text.specs.declared.lexemes.Lexeme.TheVariants as l
use Rattle.eb_rule_text.specs.declared.marks.Mark.{Mark}
use Rattle.eb_rule_text.specs.declared.marks.Mark.TheVariants as m
use Rattle.eb_rule_text.specs.declared.trees.Context.{Context}
use Rattle.eb_rule_text.specs.declared.trees.Context.TheVariants as c
use Rattle.eb_rule_text.specs.declared.trees.Reach.TheVariants as reach
use Rattle.eb_rule_text.specs.declared.trees.Find.TheVariants as f
use Rattle.eb_rule_text.specs.declared.trees.Read.TheVariants as r
use Rattle.eb_rule_text.specs.declared.trees.Expr.{Expr}
use Rattle.eb_rule_text.specs.declared.trees.Expr.TheVariants as e
use Rattle.eb_rule_text.specs.Input.{Input, Parser, refuse}
use Rattle.eb_rule_text.specs.Reading as spec
use Rattle.eb_rule_text.specs.Grammar.{a_find, no_find}
use Rattle.eb_rule_text.proofs.Fronts.{Beyond, Fares, refuses, Local, bind, pure_local, then_local, refuse_local, into_local, rest_fares, expect_local, opens_local, name_local, peek}
use Rattle.eb_rule_text.proofs.FrontLists.{Takes, finds_local, links_local}
use Rattle.eb_rule_text.proofs.Steps.{went}
use Rattle.eb_rule_text.proofs.SoundFinds.{find_sound}
use Rattle.eb_rule_text.proofs.SoundExprs.{Level, level_sound, unary_sound}
use Rattle.eb_rule_text.proofs.CompleteFinds.{finds_take}
use Rattle.eb_rule_text.proofs.CompleteExprs.{level_takes}

path_local : Local spec.path
unfolding spec.path
path_local = bind name_local (λ kind. then_local (expect_local m.Dot) (bind name_local (λ field. pure_local (spec.path_of kind field))))

of_kind_local : (d : ℕ) → Local (spec.of_kind d)
unfolding spec.of_kind
of_kind_local d = then_local (opens_local d m.LParen) (bind name_local (λ kind. then_local (expect_local m.RParen) (pure_local kind)))

member_local : (d : ℕ) → Local (spec.member d)
unfolding spec.member
member_local d = bind (of_kind_local d) (λ kind. then_local (expect_local m.Dot) (bind name_local (λ field. pure_local (spec.path_of kind field))))

path_in_local : (d : ℕ) → Local (spec.path_in d)
unfolding spec.path_in
path_in_local d = then_local (opens_local d m.LParen) (bind path_local (λ x. then_local (expect_local m.RParen) (pure_local x)))

pub link_in_local : (d : ℕ) → Local (spec.link_in d)
unfolding spec.link_in
link_in_local d = then_local (opens_local d m.LParen) (then_local (expect_local m.This) (then_local (expect_local m.Dot) (bind path_local (λ x. then_local (expect_local m.RParen) (pure_local x)))))

field_in_local : (d : ℕ) → Local (spec.field_in d)
unfolding spec.field_in
field_in_local d = then_local (opens_local d m.LParen) (then_local (expect_local m.This) (then_local (expect_local m.Dot) (bind name_local (λ x. then_local (expect_local m.RParen) (pure_local x)))))

reach_local : (next : Option Mark) → Local (spec.reach_by next)
reach_local (Some m.Children) = then_local (expect_local m.Children) (pure_local reach.Children)
reach_local (Some m.Within) = then_local (expect_local m.Within) (pure_local reach.Within)
reach_local _ = refuse_local

reached_local : Local spec.reached
unfolding spec.reached
reached_local = peek spec.reach_by reach_local

-- ---- reads that go on with `or`

asset_local : (d : ℕ) → Local (spec.asset d)
unfolding spec.asset
asset_local d = then_local (expect_local m.Asset) (bind (field_in_local d) (λ link. then_local (expect_local m.Dot) (bind name_local (λ field. pure_local (f.Asset link field)))))

least_local : (d : ℕ) → Local (spec.least d)
unfolding spec.least
least_local d = then_local (expect_local m.Min) (bind reached_local (λ over. bind (member_local d) (λ x. pure_local (f.Min over x))))

greatest_local : (d : ℕ) → Local (spec.greatest d)
unfolding spec.greatest
greatest_local d = then_local (expect_local m.Max) (bind reached_local (λ over. bind (member_local d) (λ x. pure_local (f.Max over x))))

linked_local : (d : ℕ) → Local (spec.linked d)
unfolding spec.linked
linked_local d = then_local (expect_local m.At) (bind (link_in_local d) (λ link. then_local (expect_local m.Dot) (bind path_local (λ x. pure_local (f.At link x)))))

of_all_local : (d : ℕ) → Local (spec.greatest_of_all d)
unfolding spec.greatest_of_all
of_all_local d = then_local (expect_local m.Max) (then_local (expect_local m.All) (bind (path_in_local d) (λ x. pure_local (f.MaxAll x))))

baker_find_local : (d : ℕ) (next : Option Mark) → Local (spec.baker_find d next)
baker_find_local d (Some m.Own) = then_local (expect_local m.Own) (into_local f.Own (member_local d))
baker_find_local d (Some m.Parent) = then_local (expect_local m.Parent) (into_local f.Parent (member_local d))
baker_find_local d (Some m.Asset) = asset_local d
baker_find_local d (Some m.Min) = least_local d
baker_find_local d (Some m.Max) = greatest_local d
baker_find_local d _ = refuse_local

system_find_local : (d : ℕ) (next : Option Mark) → Local (spec.system_find d next)
system_find_local d (Some m.At) = linked_local d
system_find_local d (Some m.Max) = of_all_local d
system_find_local d _ = refuse_local

job_find_local : (d : ℕ) (next : Option Mark) → Local (spec.job_find d next)
job_find_local d (Some m.At) = linked_local d
job_find_local d _ = refuse_local

find_by_local : (context : Context) (d : ℕ) (next : Option Mark) → Local (spec.find_by context d next)
find_by_local c.Baker d next = baker_find_local d next
find_by_local c.System d next = system_find_local d next
find_by_local c.Job d next = job_find_local d next

find_local : (context : Context) (d : ℕ) → Local (spec.find context d)
unfolding spec.find
find_local context d = bind (peek (spec.find_by context d) (find_by_local context d)) (λ x. then_local (expect_local m.Or) (pure_local x))

find_takes : (context : Context) (d : ℕ) → Takes (spec.find context d)
find_takes context d i j x h = let a = finds_take (a_find (find_sound context d i j x h) (no_find {context = context} {d = d})) in omega arith

finds_are : (context : Context) (d : ℕ) → Local (spec.finds context d)
finds_are context d = finds_local context d (find_local context d) (find_takes context d)

-- ---- reads that always have a value

own_field_local : Local spec.own_field
unfolding spec.own_field
own_field_local = then_local (expect_local m.This) (then_local (expect_local m.Dot) (bind name_local (λ x. pure_local (r.This x))))

kind_field_local : Local spec.kind_field
unfolding spec.kind_field
kind_field_local = then_local (expect_local m.This) (then_local (expect_local m.Dot) (bind path_local (λ x. pure_local (r.Field x))))

sum_local : (d : ℕ) → Local (spec.sum d)
unfolding spec.sum
sum_local d = then_local (expect_local m.Sum) (bind reached_local (λ over. bind (member_local d) (λ x. pure_local (r.Sum over x))))

count_local : (d : ℕ) → Local (spec.count d)
unfolding spec.count
count_local d = then_local (expect_local m.Count) (bind reached_local (λ over. bind (of_kind_local d) (λ kind. pure_local (r.Count over kind))))

sum_all_local : (d : ℕ) → Local (spec.sum_of_all d)
unfolding spec.sum_of_all
sum_all_local d = then_local (expect_local m.Sum) (then_local (expect_local m.All) (bind (path_in_local d) (λ x. pure_local (r.SumAll x))))

count_all_local : (d : ℕ) → Local (spec.count_of_all d)
unfolding spec.count_of_all
count_all_local d = then_local (expect_local m.Count) (then_local (expect_local m.All) (bind (of_kind_local d) (λ kind. pure_local (r.CountAll kind))))

entity_this_local : (context : Context) (next : Option Mark) → Local (spec.entity_this context next)
entity_this_local c.Baker (Some m.Dot) = then_local (expect_local m.Dot) (bind name_local (λ x. pure_local (r.EntityAt x)))
entity_this_local _ _ = pure_local r.Entity

entity_name_local : (context : Context) → Local (spec.entity_name context)
entity_name_local c.Baker = into_local r.EntityOf name_local
entity_name_local c.System = refuse_local
entity_name_local c.Job = into_local r.EntityOf name_local

entity_by_local : (context : Context) (next : Option Mark) → Local (spec.entity_by context next)
entity_by_local context (Some m.This) = then_local (expect_local m.This) (peek (spec.entity_this context) (entity_this_local context))
entity_by_local context _ = entity_name_local context

entity_in_local : (context : Context) → Local (spec.entity_in context)
unfolding spec.entity_in
entity_in_local context = peek (spec.entity_by context) (entity_by_local context)

entity_local : (context : Context) (d : ℕ) → Local (spec.entity context d)
unfolding spec.entity
entity_local context d = then_local (expect_local m.Entity) (then_local (opens_local d m.LParen) (bind (entity_in_local context) (λ x. then_local (expect_local m.RParen) (pure_local x))))

baker_read_local : (d : ℕ) (next : Option Mark) → Local (spec.baker_read d next)
baker_read_local d (Some m.This) = own_field_local
baker_read_local d (Some m.Sum) = sum_local d
baker_read_local d (Some m.Count) = count_local d
baker_read_local d (Some m.Entity) = entity_local c.Baker d
baker_read_local d _ = refuse_local

system_read_local : (d : ℕ) (next : Option Mark) → Local (spec.system_read d next)
system_read_local d (Some m.This) = kind_field_local
system_read_local d (Some m.Sum) = sum_all_local d
system_read_local d (Some m.Count) = count_all_local d
system_read_local d (Some m.Entity) = entity_local c.System d
system_read_local d _ = refuse_local

job_read_local : (d : ℕ) (next : Option Mark) → Local (spec.job_read d next)
job_read_local d (Some m.This) = kind_field_local
job_read_local d (Some m.Entity) = entity_local c.Job d
job_read_local d _ = refuse_local

read_by_local : (context : Context) (d : ℕ) (next : Option Mark) → Local (spec.read_by context d next)
read_by_local c.Baker d next = baker_read_local d next
read_by_local c.System d next = system_read_local d next
read_by_local c.Job d next = job_read_local d next

read_local : (context : Context) (d : ℕ) → Local (spec.read context d)
unfolding spec.read
read_local context d = peek (spec.read_by context d) (read_by_local context d)

-- ---- expressions

-- what is known of a reader of operands
record Operand (p : Parser Expr) : Type 0 where
  is : Local p
  takes : (n : ℕ) → Takes (spec.level p n)

level_local : {p : Parser Expr} → Operand p → (n : ℕ) → Local (spec.level p n)
level_local operand zero = operand.is
level_local {p = p} operand (suc n) = bind (level_local operand n) (λ first. bind (links_local (spec.level p n) (level_local operand n) n (operand.takes n)) (λ more. pure_local (spec.chain first more)))

module _ (context : Context) (d : ℕ) (below : Parser Expr) (inner : (n : ℕ) → Local (spec.level below n)) where
  enclosed_local : Local (spec.enclosed context d below)
  unfolding spec.enclosed
  enclosed_local = then_local (opens_local d m.LParen) (bind (inner 5) (λ x. then_local (expect_local m.RParen) (pure_local x)))

  read_here : Local (spec.marked_by context d below m.This)
  read_here = into_local e.Read (read_local context d)

  marked_local : (k : Mark) → Local (spec.marked_by context d below k)
  marked_local m.LParen = into_local e.Paren enclosed_local
  marked_local m.Fix = then_local (expect_local m.Fix) (into_local e.ToFix enclosed_local)
  marked_local m.Int = then_local (expect_local m.Int) (into_local e.ToInt enclosed_local)
  marked_local m.True = then_local (expect_local m.True) (pure_local e.True)
  marked_local m.False = then_local (expect_local m.False) (pure_local e.False)
  marked_local m.Null = then_local (expect_local m.Null) (pure_local e.Null)
  marked_local _ = read_here

  atom_short : (i : Input) → Beyond i (spec.atom context d below i)
  unfolding spec.atom spec.marked
  atom_short [] = omega arith
  atom_short (l.Mark k ∷ i) = (marked_local k).short (l.Mark k ∷ i)
  atom_short (l.Name x ∷ i) = omega arith
  atom_short (l.Underscored ∷ i) = omega arith
  atom_short (l.Int n ∷ i) = omega arith
  atom_short (l.Fix n ∷ i) = omega arith

  atom_fares : (t : Lexeme) (g a b : Input) → Fares a b (spec.atom context d below (t ∷ (g ++ a))) (spec.atom context d below (t ∷ (g ++ b)))
  unfolding spec.atom spec.marked
  atom_fares (l.Mark k) g a b = (marked_local k).fares (l.Mark k) g a b
  atom_fares (l.Name x) g a b = rest_fares (e.Name x) g a b
  atom_fares l.Underscored g a b = refuses l.Underscored g refl refl
  atom_fares (l.Int n) g a b = rest_fares (e.Int n) g a b
  atom_fares (l.Fix n) g a b = rest_fares (e.Fix n) g a b

  prim_local : Local (spec.prim context d below)
  unfolding spec.prim
  prim_local = bind (finds_are context d) (λ found. bind (record { short = atom_short; fares = atom_fares }) (λ x. pure_local (spec.found_of found x)))

  under_local : (k : Mark) → Local (spec.under context d below k)
  unfolding spec.under
  under_local k = then_local (opens_local d k) (inner 0)

  signed_by_local : (next : Option Mark) → Local (spec.signed_by context d below next)
  signed_by_local (Some m.Minus) = into_local e.Negate (under_local m.Minus)
  signed_by_local (Some m.Not) = into_local e.Not (under_local m.Not)
  signed_by_local _ = prim_local

  signed_local : Local (spec.signed context d below)
  unfolding spec.signed
  signed_local = peek (spec.signed_by context d below) signed_by_local

-- below the last level nothing is read
never_read : (n : ℕ) (i j : Input) (x : Expr) → spec.level refuse n i ≡ Ok (x, j) → ⊥
never_read zero i j x h = search rules
never_read (suc n) i j x h = let a = went _ _ x j h in never_read n i a.rest a.value a.first

none_takes : (n : ℕ) → Takes (spec.level refuse n)
none_takes n i j x h = absurd (never_read n i j x h)

none_local : (n : ℕ) → Local (spec.level refuse n)
none_local n = level_local (record { is = refuse_local; takes = none_takes }) n

level_shrinks : (context : Context) (d n : ℕ) → Takes (spec.level (spec.unary context d) n)
unfolding Level
level_shrinks context d n i j x h = level_takes (level_sound context d (spec.unary context d) (unary_sound context d) n i j x h)

unary_local : (context : Context) (d : ℕ) → Local (spec.unary context d)
unary_local context zero = signed_local context zero refuse none_local
unary_local context (suc d) = signed_local context (suc d) (spec.unary context d) (level_local (record { is = unary_local context d; takes = level_shrinks context d }))

pub expression_local : (context : Context) (d : ℕ) → Local (spec.expression context d)
unfolding spec.expression
expression_local context d = level_local (record { is = unary_local context d; takes = level_shrinks context d }) 5
