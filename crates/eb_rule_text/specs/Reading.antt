-- How reads and expressions are read.
use Rattle.std.specs.Prelude.{ℕ, zero, suc, Bool, true, false, if◌then◌else◌, ◌==◌, List, [], ◌∷◌, ◌++◌, length, drop, Option, Some, None, Ok}
use Rattle.eb_rule_text.specs.declared.trees.{Context.Context, Reach.Reach, FieldPath.FieldPath, Find.Find, Read.Read, Op.Op, Link.Link, Expr.Expr}
use Rattle.eb_rule_text.specs.declared.marks.Mark.{Mark}
use Rattle.eb_rule_text.specs.declared.lexemes.Lexeme.TheVariants as l
use Rattle.eb_rule_text.specs.declared.marks.Mark.TheVariants as m
use Rattle.eb_rule_text.specs.declared.trees.Context.TheVariants as c
use Rattle.eb_rule_text.specs.declared.trees.Reach.TheVariants as reach
use Rattle.eb_rule_text.specs.declared.trees.Find.TheVariants as f
use Rattle.eb_rule_text.specs.declared.trees.Read.TheVariants as r
use Rattle.eb_rule_text.specs.declared.trees.Op.TheVariants as op
use Rattle.eb_rule_text.specs.declared.trees.Expr.TheVariants as e
use Rattle.eb_rule_text.specs.Tokens.{Text}
use Rattle.eb_rule_text.specs.Input.{Outcome, Parser, go_on, ◌>>=◌, ◌>>◌, ◌into◌, pure, refuse, mark, expect, opens, name}

-- ---- parts of reads

abbrev pub path_of : Text → Text → FieldPath
path_of kind field = record { kind = kind; field = field }

-- T . f
unfoldable pub path : Parser FieldPath
path = do kind ← name; expect m.Dot; field ← name; pure (path_of kind field)

-- ( T )
unfoldable pub of_kind : ℕ → Parser Text
of_kind depth = do opens depth m.LParen; kind ← name; expect m.RParen; pure kind

-- ( T ) . f
unfoldable pub member : ℕ → Parser FieldPath
member depth = do kind ← of_kind depth; expect m.Dot; field ← name; pure (path_of kind field)

-- ( T . f )
unfoldable pub path_in : ℕ → Parser FieldPath
path_in depth = do opens depth m.LParen; x ← path; expect m.RParen; pure x

-- ( this . T . r )
unfoldable pub link_in : ℕ → Parser FieldPath
link_in depth = do opens depth m.LParen; expect m.This; expect m.Dot; x ← path; expect m.RParen; pure x

-- ( this . a )
unfoldable pub field_in : ℕ → Parser Text
field_in depth = do opens depth m.LParen; expect m.This; expect m.Dot; x ← name; expect m.RParen; pure x

abbrev pub reach_by : Option Mark → Parser Reach
reach_by (Some m.Children) = expect m.Children >> pure reach.Children
reach_by (Some m.Within) = expect m.Within >> pure reach.Within
reach_by _ = refuse

-- children, or within
unfoldable pub reached : Parser Reach
reached = λ i. reach_by (mark i) i

-- ---- reads that go on with `or`

unfoldable pub asset : ℕ → Parser Find
asset depth = do expect m.Asset; link ← field_in depth; expect m.Dot; field ← name; pure (f.Asset link field)

unfoldable pub least : ℕ → Parser Find
least depth = do expect m.Min; over ← reached; x ← member depth; pure (f.Min over x)

unfoldable pub greatest : ℕ → Parser Find
greatest depth = do expect m.Max; over ← reached; x ← member depth; pure (f.Max over x)

unfoldable pub linked : ℕ → Parser Find
linked depth = do expect m.At; link ← link_in depth; expect m.Dot; x ← path; pure (f.At link x)

unfoldable pub greatest_of_all : ℕ → Parser Find
greatest_of_all depth = do expect m.Max; expect m.All; x ← path_in depth; pure (f.MaxAll x)

abbrev pub baker_find : ℕ → Option Mark → Parser Find
baker_find depth (Some m.Own) = expect m.Own >> (member depth into f.Own)
baker_find depth (Some m.Parent) = expect m.Parent >> (member depth into f.Parent)
baker_find depth (Some m.Asset) = asset depth
baker_find depth (Some m.Min) = least depth
baker_find depth (Some m.Max) = greatest depth
baker_find depth _ = refuse

abbrev pub system_find : ℕ → Option Mark → Parser Find
system_find depth (Some m.At) = linked depth
system_find depth (Some m.Max) = greatest_of_all depth
system_find depth _ = refuse

abbrev pub job_find : ℕ → Option Mark → Parser Find
job_find depth (Some m.At) = linked depth
job_find depth _ = refuse

abbrev pub find_by : Context → ℕ → Option Mark → Parser Find
find_by c.Baker = baker_find
find_by c.System = system_find
find_by c.Job = job_find

abbrev pub begins_find : Context → Option Mark → Bool
begins_find c.Baker (Some m.Own) = true
begins_find c.Baker (Some m.Parent) = true
begins_find c.Baker (Some m.Asset) = true
begins_find c.Baker (Some m.Min) = true
begins_find c.Baker (Some m.Max) = true
begins_find c.System (Some m.At) = true
begins_find c.System (Some m.Max) = true
begins_find c.Job (Some m.At) = true
begins_find _ _ = false

unfoldable pub find : Context → ℕ → Parser Find
find context depth = do x ← (λ i. find_by context depth (mark i) i); expect m.Or; pure x

-- The number bounds the turns, and each turn takes a token.
abbrev pub finds_from : Context → ℕ → ℕ → List Find → Parser (List Find)
finds_from context depth zero done = pure done
finds_from context depth (suc n) done = λ i.
    if begins_find context (mark i) then go_on (find context depth i) (λ x. finds_from context depth n (done ++ x ∷ [])) else Ok (done, i)

unfoldable pub finds : Context → ℕ → Parser (List Find)
finds context depth = λ i. finds_from context depth (length i) [] i

-- ---- reads that always have a value

unfoldable pub own_field : Parser Read
own_field = do expect m.This; expect m.Dot; x ← name; pure (r.This x)

unfoldable pub kind_field : Parser Read
kind_field = do expect m.This; expect m.Dot; x ← path; pure (r.Field x)

unfoldable pub sum : ℕ → Parser Read
sum depth = do expect m.Sum; over ← reached; x ← member depth; pure (r.Sum over x)

unfoldable pub count : ℕ → Parser Read
count depth = do expect m.Count; over ← reached; kind ← of_kind depth; pure (r.Count over kind)

unfoldable pub sum_of_all : ℕ → Parser Read
sum_of_all depth = do expect m.Sum; expect m.All; x ← path_in depth; pure (r.SumAll x)

unfoldable pub count_of_all : ℕ → Parser Read
count_of_all depth = do expect m.Count; expect m.All; kind ← of_kind depth; pure (r.CountAll kind)

-- this . r
abbrev pub field_of_this : Parser Read
field_of_this = do expect m.Dot; x ← name; pure (r.EntityAt x)

-- this, and in a baker this . r
abbrev pub entity_this : Context → Option Mark → Parser Read
entity_this c.Baker (Some m.Dot) = field_of_this
entity_this _ _ = pure r.Entity

-- in a baker or a job a name
abbrev pub entity_name : Context → Parser Read
entity_name c.Baker = name into r.EntityOf
entity_name c.System = refuse
entity_name c.Job = name into r.EntityOf

abbrev pub entity_by : Context → Option Mark → Parser Read
entity_by context (Some m.This) = expect m.This >> (λ i. entity_this context (mark i) i)
entity_by context _ = entity_name context

unfoldable pub entity_in : Context → Parser Read
entity_in context = λ i. entity_by context (mark i) i

unfoldable pub entity : Context → ℕ → Parser Read
entity context depth = do expect m.Entity; opens depth m.LParen; x ← entity_in context; expect m.RParen; pure x

abbrev pub baker_read : ℕ → Option Mark → Parser Read
baker_read depth (Some m.This) = own_field
baker_read depth (Some m.Sum) = sum depth
baker_read depth (Some m.Count) = count depth
baker_read depth (Some m.Entity) = entity c.Baker depth
baker_read depth _ = refuse

abbrev pub system_read : ℕ → Option Mark → Parser Read
system_read depth (Some m.This) = kind_field
system_read depth (Some m.Sum) = sum_of_all depth
system_read depth (Some m.Count) = count_of_all depth
system_read depth (Some m.Entity) = entity c.System depth
system_read depth _ = refuse

abbrev pub job_read : ℕ → Option Mark → Parser Read
job_read depth (Some m.This) = kind_field
job_read depth (Some m.Entity) = entity c.Job depth
job_read depth _ = refuse

abbrev pub read_by : Context → ℕ → Option Mark → Parser Read
read_by c.Baker = baker_read
read_by c.System = system_read
read_by c.Job = job_read

unfoldable pub read : Context → ℕ → Parser Read
read context depth = λ i. read_by context depth (mark i) i

-- ---- operators

-- The levels from the tightest on: 0 for `*` and `/`, 1 for `+` and `-`, 2 for comparisons, 3 for `&&`, 4 for `||`.
abbrev pub op_by : Mark → Option (ℕ × Op)
op_by m.Star = Some (0, op.Times)
op_by m.Slash = Some (0, op.Over)
op_by m.Plus = Some (1, op.Plus)
op_by m.Minus = Some (1, op.Minus)
op_by m.Equal = Some (2, op.Equal)
op_by m.NotEqual = Some (2, op.NotEqual)
op_by m.Less = Some (2, op.Less)
op_by m.AtMost = Some (2, op.AtMost)
op_by m.Greater = Some (2, op.Greater)
op_by m.AtLeast = Some (2, op.AtLeast)
op_by m.And = Some (3, op.And)
op_by m.Either = Some (4, op.Either)
op_by _ = None

abbrev pub of_level : ℕ → Option (ℕ × Op) → Option Op
of_level level None = None
of_level level (Some p) = if p.0 == level then Some p.1 else None

-- the operator of this level that comes next
abbrev pub op_at : ℕ → Option Mark → Option Op
op_at level None = None
op_at level (Some k) = of_level level (op_by k)

-- comparisons don't follow one another
abbrev pub turns_of : ℕ → ℕ → ℕ
turns_of level left = if level == 2 then 1 else left

abbrev pub link_of : Op → Expr → Link Expr
link_of o x = record { op = o; right = x }

abbrev pub when : {A : Type 0} → Option Op → (Op → Outcome A) → Outcome A → Outcome A
when None more done = done
when (Some o) more done = more o

abbrev pub links_from : Parser Expr → ℕ → ℕ → List (Link Expr) → Parser (List (Link Expr))
links_from operand level zero done = pure done
links_from operand level (suc n) done = λ i.
    when (op_at level (mark i)) (λ o. go_on (operand (drop 1 i)) (λ x. links_from operand level n (done ++ link_of o x ∷ []))) (Ok (done, i))

unfoldable pub links : Parser Expr → ℕ → Parser (List (Link Expr))
links operand level = λ i. links_from operand level (turns_of level (length i)) [] i

-- one operand alone is no chain
abbrev pub chain : Expr → List (Link Expr) → Expr
chain first [] = first
chain first (x ∷ more) = e.Chain first (x ∷ more)

-- what stands at one level: operands of the level below, with operators between them
abbrev pub level : Parser Expr → ℕ → Parser Expr
level unary zero = unary
level unary (suc n) = do first ← level unary n; more ← links (level unary n) n; pure (chain first more)

-- ---- expressions

-- no read is no choice
abbrev pub found_of : List Find → Expr → Expr
found_of [] x = x
found_of (y ∷ ys) x = e.Find (y ∷ ys) x

-- an atom of one token that is no mark
abbrev pub literal : Parser Expr
literal (l.Name x ∷ i) = Ok (e.Name x, i)
literal (l.Int n ∷ i) = Ok (e.Int n, i)
literal (l.Fix n ∷ i) = Ok (e.Fix n, i)
literal i = refuse i

-- `below` reads what a sign stands before, one level deeper
module _ (context : Context) (depth : ℕ) (below : Parser Expr) where
  unfoldable pub enclosed : Parser Expr
  enclosed = do opens depth m.LParen; x ← level below 5; expect m.RParen; pure x

  abbrev pub marked_by : Mark → Parser Expr
  marked_by m.LParen = enclosed into e.Paren
  marked_by m.Fix = expect m.Fix >> (enclosed into e.ToFix)
  marked_by m.Int = expect m.Int >> (enclosed into e.ToInt)
  marked_by m.True = expect m.True >> pure e.True
  marked_by m.False = expect m.False >> pure e.False
  marked_by m.Null = expect m.Null >> pure e.Null
  marked_by _ = read context depth into e.Read

  unfoldable pub marked : Mark → Parser Expr
  marked k = marked_by k

  unfoldable pub atom : Parser Expr
  atom (l.Mark k ∷ i) = marked k (l.Mark k ∷ i)
  atom i = literal i

  unfoldable pub prim : Parser Expr
  prim = do found ← finds context depth; x ← atom; pure (found_of found x)

  unfoldable pub under : Mark → Parser Expr
  under sign = opens depth sign >> below

  abbrev pub signed_by : Option Mark → Parser Expr
  signed_by (Some m.Minus) = under m.Minus into e.Negate
  signed_by (Some m.Not) = under m.Not into e.Not
  signed_by _ = prim

  unfoldable pub signed : Parser Expr
  signed = λ i. signed_by (mark i) i

-- an operand with its signs, where so many levels are left
abbrev pub unary : Context → ℕ → Parser Expr
unary context zero = signed context zero refuse
unary context (suc d) = signed context (suc d) (unary context d)

-- the same one level deeper
abbrev pub below : Context → ℕ → Parser Expr
below context zero = refuse
below context (suc d) = unary context d

unfoldable pub expression : Context → ℕ → Parser Expr
expression context depth = level (unary context depth) 5
