-- The text that a tree is printed as.
use Rattle.std.specs.Prelude.{List, [], ◌∷◌, ◌++◌, Option, Some, None}
use Rattle.eb_rule_text.specs.declared.trees.{Find.Find, Read.Read, Op.Op, Link.Link, Expr.Expr, Expr.TheOpen.Expr-F, Expr.TheFolds.fold-Expr, Init.Init}
use Rattle.eb_rule_text.specs.declared.trees.{Add.Add, Stmt.Stmt, Stmt.TheOpen.Stmt-F, Stmt.TheFolds.fold-Stmt, Query.Query, Baker.Baker, System.System}
use Rattle.eb_rule_text.specs.declared.trees.{Rule.Rule, RulesTree.RulesTree, Target.Target, Command.Command, JobTree.JobTree}
use Rattle.eb_rule_text.specs.declared.marks.Mark.{Mark}
use Rattle.eb_rule_text.specs.declared.lexemes.Lexeme.TheVariants as l
use Rattle.eb_rule_text.specs.declared.marks.Mark.TheVariants as m
use Rattle.eb_rule_text.specs.declared.trees.Op.TheVariants as op
use Rattle.eb_rule_text.specs.declared.trees.Rule.TheVariants as a_rule
use Rattle.eb_rule_text.specs.declared.trees.Target.TheVariants as a_target
use Rattle.eb_rule_text.specs.declared.trees.Command.TheVariants as a_command
use Rattle.eb_rule_text.specs.{Tokens.Text, Spelled.find_then, Spelled.read_then, Spelled.link_in_then, Spelling.token_text, Spelling.text_of}

abbrev pub mark_out : Mark → Text
mark_out k = token_text (l.Mark k)

abbrev pub name_out : Text → Text
name_out x = token_text (l.Name x)

-- ---- expressions

unfoldable pub find_text : Find → Text
find_text x = text_of (find_then x [])

unfoldable pub read_text : Read → Text
read_text x = text_of (read_then x [])

-- each read and its `or`
abbrev pub finds_text : List Find → Text
finds_text [] = []
finds_text (x ∷ xs) = find_text x ++ (mark_out m.Or ++ finds_text xs)

abbrev pub op_mark : Op → Mark
op_mark op.Either = m.Either
op_mark op.And = m.And
op_mark op.Equal = m.Equal
op_mark op.NotEqual = m.NotEqual
op_mark op.Less = m.Less
op_mark op.AtMost = m.AtMost
op_mark op.Greater = m.Greater
op_mark op.AtLeast = m.AtLeast
op_mark op.Plus = m.Plus
op_mark op.Minus = m.Minus
op_mark op.Times = m.Star
op_mark op.Over = m.Slash

abbrev pub links_text : List (Link Text) → Text
links_text [] = []
links_text (x ∷ xs) = mark_out (op_mark x.op) ++ (x.right ++ links_text xs)

abbrev pub expr_step : Expr-F Text → Text
expr_step (Expr-F.Int n) = token_text (l.Int n)
expr_step (Expr-F.Fix n) = token_text (l.Fix n)
expr_step Expr-F.True = mark_out m.True
expr_step Expr-F.False = mark_out m.False
expr_step Expr-F.Null = mark_out m.Null
expr_step (Expr-F.Name x) = name_out x
expr_step (Expr-F.Paren x) = mark_out m.LParen ++ (x ++ mark_out m.RParen)
expr_step (Expr-F.ToFix x) = mark_out m.Fix ++ (mark_out m.LParen ++ (x ++ mark_out m.RParen))
expr_step (Expr-F.ToInt x) = mark_out m.Int ++ (mark_out m.LParen ++ (x ++ mark_out m.RParen))
expr_step (Expr-F.Read x) = read_text x
expr_step (Expr-F.Find found x) = finds_text found ++ x
expr_step (Expr-F.Negate x) = mark_out m.Minus ++ x
expr_step (Expr-F.Not x) = mark_out m.Not ++ x
expr_step (Expr-F.Chain first more) = first ++ links_text more

unfoldable pub expr_text : Expr → Text
expr_text = fold-Expr Text expr_step

-- the operators of a chain that is read
abbrev pub chain_text : List (Link Expr) → Text
chain_text [] = []
chain_text (x ∷ xs) = mark_out (op_mark x.op) ++ (expr_text x.right ++ chain_text xs)

-- ---- statements

abbrev pub init_text : Init → Text
init_text x = name_out x.field ++ (mark_out m.Colon ++ expr_text x.value)

abbrev pub more_inits : List Init → Text
more_inits [] = []
more_inits (x ∷ xs) = mark_out m.Comma ++ (init_text x ++ more_inits xs)

abbrev pub some_inits : List Init → Text
some_inits [] = []
some_inits (x ∷ xs) = init_text x ++ more_inits xs

abbrev pub inits_text : List Init → Text
inits_text values = mark_out m.LBrace ++ (some_inits values ++ mark_out m.RBrace)

abbrev pub add_text : Add → Text
add_text x = mark_out m.Add ++ (name_out x.kind ++ inits_text x.inits)

abbrev pub adds_text : List Add → Text
adds_text [] = []
adds_text (x ∷ xs) = add_text x ++ adds_text xs

abbrev pub joined : List Text → Text
joined [] = []
joined (x ∷ xs) = x ++ joined xs

abbrev pub braced : Text → Text
braced x = mark_out m.LBrace ++ (x ++ mark_out m.RBrace)

abbrev pub else_text : Option (List Text) → Text
else_text None = []
else_text (Some xs) = mark_out m.Else ++ braced (joined xs)

abbrev pub stmt_step : Stmt-F Text → Text
stmt_step (Stmt-F.Let x value) = mark_out m.Let ++ (name_out x ++ (mark_out m.Assign ++ (expr_text value ++ mark_out m.Semicolon)))
stmt_step (Stmt-F.Add x) = add_text x
stmt_step (Stmt-F.Extra x body) = mark_out m.Extra ++ (name_out x ++ braced (adds_text body))
stmt_step (Stmt-F.If test body other) = mark_out m.If ++ (expr_text test ++ (braced (joined body) ++ else_text other))

unfoldable pub stmt_text : Stmt → Text
stmt_text = fold-Stmt Text stmt_step

abbrev pub stmts_text : List Stmt → Text
stmts_text [] = []
stmts_text (x ∷ xs) = stmt_text x ++ stmts_text xs

-- let x = e ;
abbrev pub let_text : Text → Expr → Text
let_text x value = mark_out m.Let ++ (name_out x ++ (mark_out m.Assign ++ (expr_text value ++ mark_out m.Semicolon)))

-- extra x { .. }
abbrev pub extra_text : Text → List Add → Text
extra_text x body = mark_out m.Extra ++ (name_out x ++ braced (adds_text body))

-- if e
abbrev pub if_text : Expr → Text
if_text test = mark_out m.If ++ expr_text test

-- ---- rules

abbrev pub names_text : List Text → Text
names_text [] = []
names_text (x ∷ xs) = name_out x ++ names_text xs

abbrev pub list_text : Mark → List Text → Text
list_text word [] = []
list_text word (x ∷ xs) = mark_out word ++ (name_out x ++ names_text xs)

abbrev pub query_text : Query → Text
query_text q = list_text m.All q.all ++ (list_text m.Any q.any ++ list_text m.None q.none)

abbrev pub baker_text : Baker → Text
baker_text x = mark_out m.Baker ++ (token_text (l.Int x.number) ++ (mark_out m.On ++ (name_out x.authoring ++ braced (stmts_text x.body))))

abbrev pub system_text : System → Text
system_text x = mark_out m.System ++ (token_text (l.Int x.number) ++ (query_text x.query ++ braced (stmts_text x.body)))

abbrev pub rule_text : Rule → Text
rule_text (a_rule.Baker x) = baker_text x
rule_text (a_rule.System x) = system_text x

abbrev pub rule_list_text : List Rule → Text
rule_list_text [] = []
rule_list_text (x ∷ xs) = rule_text x ++ rule_list_text xs

unfoldable pub rules_text : RulesTree → Text
rules_text tree = rule_list_text tree.rules

-- ---- jobs

abbrev pub target_text : Target → Text
target_text a_target.This = mark_out m.This
target_text (a_target.Name x) = name_out x
target_text (a_target.At p) = mark_out m.At ++ text_of (link_in_then p [])

abbrev pub command_text : Command → Text
command_text (a_command.Create x) = mark_out m.Create ++ name_out x
command_text (a_command.Destroy on) = mark_out m.Destroy ++ target_text on
command_text (a_command.Remove on kind) = mark_out m.Remove ++ (target_text on ++ name_out kind)
command_text (a_command.Add on kind values) = mark_out m.Add ++ (target_text on ++ (name_out kind ++ inits_text values))
command_text (a_command.Set on kind values) = mark_out m.Set ++ (target_text on ++ (name_out kind ++ inits_text values))

abbrev pub commands_text : List Command → Text
commands_text [] = []
commands_text (x ∷ xs) = command_text x ++ commands_text xs

unfoldable pub job_text : JobTree → Text
job_text tree = mark_out m.Job ++ (query_text tree.query ++ (mark_out m.Key ++ (expr_text tree.key ++ braced (commands_text tree.commands))))
