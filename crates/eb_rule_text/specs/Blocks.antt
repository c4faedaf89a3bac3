-- How statements, queries, rules and jobs are read.
use Rattle.std.specs.Prelude.{ℕ, zero, suc, ℤ, Bool, true, false, if◌then◌else◌, ◌==◌, List, [], ◌∷◌, ◌++◌, length, Option, Some, None, Ok}
use Rattle.eb_rule_text.specs.declared.trees.{Context.Context, Expr.Expr, Init.Init, Add.Add, Stmt.Stmt, Query.Query, Baker.Baker, System.System, Rule.Rule}
use Rattle.eb_rule_text.specs.declared.trees.{RulesTree.RulesTree, Target.Target, Command.Command, JobTree.JobTree}
use Rattle.eb_rule_text.specs.declared.marks.Mark.{Mark}
use Rattle.eb_rule_text.specs.declared.lexemes.Lexeme.TheVariants as l
use Rattle.eb_rule_text.specs.declared.marks.Mark.TheVariants as m
use Rattle.eb_rule_text.specs.declared.trees.Context.TheVariants as c
use Rattle.eb_rule_text.specs.declared.trees.Stmt.TheVariants as s
use Rattle.eb_rule_text.specs.declared.trees.Rule.TheVariants as a_rule
use Rattle.eb_rule_text.specs.declared.trees.Target.TheVariants as a_target
use Rattle.eb_rule_text.specs.declared.trees.Command.TheVariants as a_command
use Rattle.eb_rule_text.specs.{Tokens.Text, Reading.expression, Reading.link_in}
use Rattle.eb_rule_text.specs.Input.{Parser, go_on, ◌>>=◌, ◌>>◌, ◌into◌, pure, refuse, mark, expect, eat, opens, name, int, end, until_brace}

-- how many levels may be open at once
abbrev pub levels : ℕ
levels = 32

-- ---- inits

abbrev pub init_of : Text → Expr → Init
init_of field value = record { field = field; value = value }

-- an expression one level deeper
abbrev pub inner : Context → ℕ → Parser Expr
inner context zero = refuse
inner context (suc d) = expression context d

-- f : e
unfoldable pub init : Context → ℕ → Parser Init
init context depth = do field ← name; expect m.Colon; value ← inner context depth; pure (init_of field value)

-- The number bounds the turns, and each turn takes a token.
abbrev pub inits_from : Context → ℕ → ℕ → List Init → Parser (List Init)
inits_from context depth zero done = refuse
inits_from context depth (suc n) done = do
  x ← init context depth
  more ← eat m.Comma
  (if more then inits_from context depth n (done ++ x ∷ []) else (expect m.RBrace >> pure (done ++ x ∷ [])))

unfoldable pub some_inits : Context → ℕ → Parser (List Init)
some_inits context depth = λ i. inits_from context depth (length i) [] i

abbrev pub inits_where : Context → ℕ → Bool → Parser (List Init)
inits_where context depth true = pure []
inits_where context depth false = some_inits context depth

-- { f : e , .. }
unfoldable pub inits : Context → ℕ → Parser (List Init)
inits context depth = do opens depth m.LBrace; empty ← eat m.RBrace; inits_where context depth empty

-- ---- statements

abbrev pub add_of : Text → List Init → Add
add_of kind values = record { kind = kind; inits = values }

unfoldable pub add : Context → ℕ → Parser Add
add context depth = do expect m.Add; kind ← name; values ← inits context depth; pure (add_of kind values)

-- an add one level deeper
abbrev pub inner_add : Context → ℕ → Parser Add
inner_add context zero = refuse
inner_add context (suc d) = add context d

unfoldable pub adds : Context → ℕ → Parser (List Add)
adds context depth = do opens depth m.LBrace; (λ i. until_brace (inner_add context depth) (length i) [] i)

unfoldable pub let_stmt : Context → ℕ → Parser Stmt
let_stmt context depth = do expect m.Let; x ← name; expect m.Assign; value ← expression context depth; expect m.Semicolon; pure (s.Let x value)

unfoldable pub extra : Context → ℕ → Parser Stmt
extra context depth = do expect m.Extra; x ← name; body ← adds context depth; pure (s.Extra x body)

-- an extra stands in bakers alone
abbrev pub baker_extra : Context → ℕ → Parser Stmt
baker_extra c.Baker depth = extra c.Baker depth
baker_extra c.System depth = refuse
baker_extra c.Job depth = refuse

-- `below` reads a statement one level deeper
module _ (context : Context) (depth : ℕ) (below : Parser Stmt) where
  unfoldable pub block : Parser (List Stmt)
  block = do opens depth m.LBrace; (λ i. until_brace below (length i) [] i)

  abbrev pub otherwise_where : Bool → Parser (Option (List Stmt))
  otherwise_where true = block into Some
  otherwise_where false = pure None

  unfoldable pub otherwise : Parser (Option (List Stmt))
  otherwise = eat m.Else >>= otherwise_where

  unfoldable pub if_stmt : Parser Stmt
  if_stmt = do expect m.If; test ← expression context depth; body ← block; other ← otherwise; pure (s.If test body other)

  abbrev pub stmt_by : Option Mark → Parser Stmt
  stmt_by (Some m.Let) = let_stmt context depth
  stmt_by (Some m.Add) = add context depth into s.Add
  stmt_by (Some m.If) = if_stmt
  stmt_by (Some m.Extra) = baker_extra context depth
  stmt_by _ = refuse

  unfoldable pub one_stmt : Parser Stmt
  one_stmt = λ i. stmt_by (mark i) i

-- a statement, where so many levels are left
abbrev pub stmt : Context → ℕ → Parser Stmt
stmt context zero = one_stmt context zero refuse
stmt context (suc d) = one_stmt context (suc d) (stmt context d)

-- the same one level deeper
abbrev pub inner_stmt : Context → ℕ → Parser Stmt
inner_stmt context zero = refuse
inner_stmt context (suc d) = stmt context d

-- ---- queries

-- all names that come next
abbrev pub names_from : List Text → Parser (List Text)
names_from done (l.Name x ∷ i) = names_from (done ++ x ∷ []) i
names_from done i = Ok (done, i)

abbrev pub names_where : Bool → Parser (List Text)
names_where true = do first ← name; names_from (first ∷ [])
names_where false = pure []

-- a word and one name at least, or nothing
unfoldable pub names : Mark → Parser (List Text)
names word = eat word >>= names_where

abbrev pub query_of : List Text → List Text → List Text → Query
query_of all any none = record { all = all; any = any; none = none }

unfoldable pub query : Parser Query
query = do all ← names m.All; any ← names m.Any; none ← names m.None; pure (query_of all any none)

-- ---- rules

abbrev pub baker_of : ℤ → Text → List Stmt → Baker
baker_of number authoring body = record { number = number; authoring = authoring; body = body }

unfoldable pub baker : Parser Rule
baker = do
  expect m.Baker
  number ← int
  expect m.On
  authoring ← name
  body ← block c.Baker levels (inner_stmt c.Baker levels)
  pure (a_rule.Baker (baker_of number authoring body))

abbrev pub system_of : ℤ → Query → List Stmt → System
system_of number asked body = record { number = number; query = asked; body = body }

unfoldable pub system : Parser Rule
system = do
  expect m.System
  number ← int
  asked ← query
  body ← block c.System levels (inner_stmt c.System levels)
  pure (a_rule.System (system_of number asked body))

abbrev pub rule_by : Option Mark → Parser Rule
rule_by (Some m.Baker) = baker
rule_by (Some m.System) = system
rule_by _ = refuse

unfoldable pub rule : Parser Rule
rule = λ i. rule_by (mark i) i

-- The number bounds the turns, and each turn takes a token.
abbrev pub rules_from : ℕ → List Rule → Parser (List Rule)
rules_from zero done = pure done
rules_from (suc n) done = λ i. if length i == 0 then Ok (done, i) else go_on (rule i) (λ y. rules_from n (done ++ y ∷ []))

-- all rules up to the end
unfoldable pub rule_list : Parser (List Rule)
rule_list = λ i. rules_from (length i) [] i

abbrev pub tree_of : List Rule → RulesTree
tree_of list = record { rules = list }

-- a whole text of rules
unfoldable pub rules : Parser RulesTree
rules = do list ← rule_list; end; pure (tree_of list)

-- ---- jobs

abbrev pub target_by : ℕ → Option Mark → Parser Target
target_by depth (Some m.This) = expect m.This >> pure a_target.This
target_by depth (Some m.At) = expect m.At >> (link_in depth into a_target.At)
target_by depth _ = name into a_target.Name

unfoldable pub target : ℕ → Parser Target
target depth = λ i. target_by depth (mark i) i

unfoldable pub create : Parser Command
create = do expect m.Create; x ← name; pure (a_command.Create x)

unfoldable pub destroy : ℕ → Parser Command
destroy depth = do expect m.Destroy; on ← target depth; pure (a_command.Destroy on)

unfoldable pub remove : ℕ → Parser Command
remove depth = do expect m.Remove; on ← target depth; kind ← name; pure (a_command.Remove on kind)

unfoldable pub add_to : ℕ → Parser Command
add_to depth = do expect m.Add; on ← target depth; kind ← name; values ← inits c.Job depth; pure (a_command.Add on kind values)

unfoldable pub set_on : ℕ → Parser Command
set_on depth = do expect m.Set; on ← target depth; kind ← name; values ← inits c.Job depth; pure (a_command.Set on kind values)

abbrev pub command_by : ℕ → Option Mark → Parser Command
command_by depth (Some m.Create) = create
command_by depth (Some m.Destroy) = destroy depth
command_by depth (Some m.Remove) = remove depth
command_by depth (Some m.Add) = add_to depth
command_by depth (Some m.Set) = set_on depth
command_by depth _ = refuse

-- a command, where so many levels are left
unfoldable pub command : ℕ → Parser Command
command depth = λ i. command_by depth (mark i) i

-- the commands between the braces of a job
unfoldable pub commands : Parser (List Command)
commands = do opens levels m.LBrace; (λ i. until_brace (command 31) (length i) [] i)

abbrev pub job_of : Query → Expr → List Command → JobTree
job_of asked key list = record { query = asked; key = key; commands = list }

-- job .. key e { .. }
unfoldable pub one_job : Parser JobTree
one_job = do expect m.Job; asked ← query; expect m.Key; key ← expression c.Job levels; list ← commands; pure (job_of asked key list)

-- a whole text of a job
unfoldable pub job : Parser JobTree
job = do tree ← one_job; end; pure tree
