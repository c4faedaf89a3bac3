-- What a derivation of the grammar reads is the text that its tree is printed as: statements and whole texts.
use Rattle.std.proofs.Common.{◌≡◌, ℕ, ℤ, List, [], ◌∷◌, ◌++◌, Some, None, map, refl, sym, ap, ◌∙◌, append_assoc, append-nil, rules}
use Rattle.eb_rule_text.specs.declared.lexemes.Lexeme.TheVariants as l
use Rattle.eb_rule_text.specs.declared.marks.Mark.{Mark}
use Rattle.eb_rule_text.specs.declared.marks.Mark.TheVariants as m
use Rattle.eb_rule_text.specs.declared.trees.Context.{Context}
use Rattle.eb_rule_text.specs.declared.trees.Expr.{Expr}
use Rattle.eb_rule_text.specs.declared.trees.Init.{Init}
use Rattle.eb_rule_text.specs.declared.trees.Add.{Add}
use Rattle.eb_rule_text.specs.declared.trees.Stmt.{Stmt, the_lemmas}
use Rattle.eb_rule_text.specs.declared.trees.Stmt.TheVariants as s
use Rattle.eb_rule_text.specs.declared.trees.Query.{Query}
use Rattle.eb_rule_text.specs.declared.trees.Rule.{Rule}
use Rattle.eb_rule_text.specs.declared.trees.RulesTree.{RulesTree}
use Rattle.eb_rule_text.specs.declared.trees.Target.{Target}
use Rattle.eb_rule_text.specs.declared.trees.Command.{Command}
use Rattle.eb_rule_text.specs.declared.trees.Command.TheVariants as a_command
use Rattle.eb_rule_text.specs.declared.trees.JobTree.{JobTree}
use Rattle.eb_rule_text.specs.Tokens.{Text}
use Rattle.eb_rule_text.specs.Input.{Input}
use Rattle.eb_rule_text.specs.Blocks.{init_of, add_of, baker_of, system_of, job_of}
use Rattle.eb_rule_text.specs.Spelling.{token_text, text_of}
use Rattle.eb_rule_text.specs.Printing.{mark_out, name_out, expr_text, some_inits, inits_text, add_text, adds_text, joined, braced, if_text, stmt_text, stmts_text, names_text, list_text, query_text, baker_text, system_text, rule_text, rule_list_text, rules_text, target_text, command_text, commands_text, job_text}
use Rattle.eb_rule_text.specs.Grammar.{EndInits, last_init, one_init, AreInits, no_init, some_init, IsAdd, added, EndAdds, no_add, one_add, IsStmt, a_let, an_add, an_extra, an_if, an_else, EndStmts, no_stmt, one_stmt, AreNames, no_name, one_name, IsList, unwritten, written, IsQuery, queried, IsRule, a_baker, a_system, AreRules, no_rule, one_rule, IsRules, IsTarget, at_this, at_name, at_link, IsCommand, created, destroyed, removed, added_to, set_to, EndCommands, no_command, one_command, IsJob, a_job}
use Rattle.eb_rule_text.proofs.Printed.{expr_printed}

-- ---- texts behind one another

two : (a b j : Text) → a ++ (b ++ j) ≡ (a ++ b) ++ j
two a b j = sym (append_assoc a b j)

three : (a b c j : Text) → a ++ (b ++ (c ++ j)) ≡ (a ++ (b ++ c)) ++ j
three a b c j = simp append_assoc refl

four : (a b c d j : Text) → a ++ (b ++ (c ++ (d ++ j))) ≡ (a ++ (b ++ (c ++ d))) ++ j
four a b c d j = simp append_assoc refl

five : (a b c d e j : Text) → a ++ (b ++ (c ++ (d ++ (e ++ j)))) ≡ (a ++ (b ++ (c ++ (d ++ e)))) ++ j
five a b c d e j = simp append_assoc refl

six : (a b c d e f j : Text) → a ++ (b ++ (c ++ (d ++ (e ++ (f ++ j))))) ≡ (a ++ (b ++ (c ++ (d ++ (e ++ f))))) ++ j
six a b c d e f j = simp append_assoc refl

without_else : (a b c d j : Text) → a ++ (b ++ (c ++ (d ++ j))) ≡ (a ++ (b ++ ((c ++ d) ++ []))) ++ j
without_else a b c d j = rw (append-nil (c ++ d)) (four a b c d j)

with_else : (a b c d e f g j : Text) → a ++ (b ++ (c ++ (d ++ (e ++ (f ++ (g ++ j)))))) ≡ (a ++ (b ++ ((c ++ d) ++ (e ++ (f ++ g))))) ++ j
with_else a b c d e f g j = simp append_assoc refl

-- ---- inits and adds

-- behind the opening brace
last_joined : (field : Text) (x : Expr) (j : Text) → name_out field ++ (mark_out m.Colon ++ (expr_text x ++ (mark_out m.RBrace ++ j))) ≡ (some_inits (init_of field x ∷ []) ++ mark_out m.RBrace) ++ j
last_joined field x j = simp (append_assoc, append-nil) refl

one_joined : (field : Text) (x y : Expr) (next : Text) (more : List Init) (j : Text) → name_out field ++ (mark_out m.Colon ++ (expr_text x ++ (mark_out m.Comma ++ ((some_inits (init_of next y ∷ more) ++ mark_out m.RBrace) ++ j))))
    ≡ (some_inits (init_of field x ∷ init_of next y ∷ more) ++ mark_out m.RBrace) ++ j
one_joined field x y next more j = simp append_assoc refl

one_step : {context : Context} {d : ℕ} {i j : Input} {more : List Init} → EndInits context d i more j → (field : Text) (x : Expr) (k : Text)
    → name_out field ++ (mark_out m.Colon ++ (expr_text x ++ (mark_out m.Comma ++ ((some_inits more ++ mark_out m.RBrace) ++ k)))) ≡ (some_inits (init_of field x ∷ more) ++ mark_out m.RBrace) ++ k
one_step (last_init {field = next} {x = y} is) field x k = one_joined field x y next [] k
one_step (one_init {field = next} {x = y} {more = rest} is are) field x k = one_joined field x y next rest k

end_inits_printed : {context : Context} {d : ℕ} {i j : Input} {x : List Init} → EndInits context d i x j → text_of i ≡ (some_inits x ++ mark_out m.RBrace) ++ text_of j
end_inits_printed {j = j} (last_init {field = field} {x = x} is) = ap (λ t. name_out field ++ (mark_out m.Colon ++ t)) (expr_printed is) ∙ last_joined field x (text_of j)
end_inits_printed {j = j} (one_init {field = field} {x = x} is are) =
    ap (λ t. name_out field ++ (mark_out m.Colon ++ t)) (expr_printed is ∙ ap (λ t. expr_text x ++ (mark_out m.Comma ++ t)) (end_inits_printed are)) ∙ one_step are field x (text_of j)

inits_printed : {context : Context} {d : ℕ} {i j : Input} {x : List Init} → AreInits context d i x j → text_of i ≡ inits_text x ++ text_of j
inits_printed {j = j} no_init = sym (append_assoc (mark_out m.LBrace) (mark_out m.RBrace) (text_of j))
inits_printed {j = j} {x = x} (some_init are) = ap (λ t. mark_out m.LBrace ++ t) (end_inits_printed are) ∙ sym (append_assoc (mark_out m.LBrace) (some_inits x ++ mark_out m.RBrace) (text_of j))

add_joined : (kind : Text) (values : List Init) (j : Text) → mark_out m.Add ++ (name_out kind ++ (inits_text values ++ j)) ≡ add_text (add_of kind values) ++ j
add_joined kind values j = three (mark_out m.Add) (name_out kind) (inits_text values) j

add_printed : {context : Context} {d : ℕ} {i j : Input} {x : Add} → IsAdd context d i x j → text_of i ≡ add_text x ++ text_of j
add_printed {j = j} (added {kind = kind} {values = values} are) = ap (λ t. mark_out m.Add ++ (name_out kind ++ t)) (inits_printed are) ∙ add_joined kind values (text_of j)

-- items and a closing brace
one_more : (a b c j : Text) → a ++ ((b ++ c) ++ j) ≡ ((a ++ b) ++ c) ++ j
one_more a b c j = simp append_assoc refl

end_adds_printed : {context : Context} {d : ℕ} {i j : Input} {x : List Add} → EndAdds context d i x j → text_of i ≡ (adds_text x ++ mark_out m.RBrace) ++ text_of j
end_adds_printed no_add = refl
end_adds_printed {j = j} (one_add {x = x} {more = more} is are) =
    add_printed is ∙ ap (λ t. add_text x ++ t) (end_adds_printed are) ∙ one_more (add_text x) (adds_text more) (mark_out m.RBrace) (text_of j)

-- ---- statements

pub text_let : (x : Text) (value : Expr) → stmt_text (s.Let x value) ≡ mark_out m.Let ++ (name_out x ++ (mark_out m.Assign ++ (expr_text value ++ mark_out m.Semicolon)))
unfolding stmt_text
text_let x value = search (rules, the_lemmas)

pub text_add : (x : Add) → stmt_text (s.Add x) ≡ add_text x
unfolding stmt_text
text_add x = search (rules, the_lemmas)

pub text_extra : (x : Text) (body : List Add) → stmt_text (s.Extra x body) ≡ mark_out m.Extra ++ (name_out x ++ braced (adds_text body))
unfolding stmt_text
text_extra x body = search (rules, the_lemmas)

text_if_step : (test : Expr) (body : List Stmt) → stmt_text (s.If test body None) ≡ mark_out m.If ++ (expr_text test ++ (braced (joined (map stmt_text body)) ++ []))
unfolding stmt_text
text_if_step test body = search (rules, the_lemmas)

text_else_step : (test : Expr) (body other : List Stmt) → stmt_text (s.If test body (Some other)) ≡ mark_out m.If ++ (expr_text test ++ (braced (joined (map stmt_text body)) ++ (mark_out m.Else ++ braced (joined (map stmt_text other)))))
unfolding stmt_text
text_else_step test body other = search (rules, the_lemmas)

pub stmts_joined : (xs : List Stmt) → joined (map stmt_text xs) ≡ stmts_text xs
stmts_joined [] = refl
stmts_joined (x ∷ xs) = ap (λ t. stmt_text x ++ t) (stmts_joined xs)

pub text_if : (test : Expr) (body : List Stmt) → stmt_text (s.If test body None) ≡ if_text test ++ braced (stmts_text body)
text_if test body =
    text_if_step test body ∙ ap (λ t. mark_out m.If ++ (expr_text test ++ (braced t ++ []))) (stmts_joined body)
    ∙ ap (λ t. mark_out m.If ++ (expr_text test ++ t)) (append-nil (braced (stmts_text body))) ∙ two (mark_out m.If) (expr_text test) (braced (stmts_text body))

both_blocks : (a b c d : Text) → a ++ (b ++ (c ++ d)) ≡ ((a ++ b) ++ c) ++ d
both_blocks a b c d = simp append_assoc refl

pub text_else : (test : Expr) (body other : List Stmt) → stmt_text (s.If test body (Some other)) ≡ (if_text test ++ braced (stmts_text body)) ++ (mark_out m.Else ++ braced (stmts_text other))
text_else test body other =
    text_else_step test body other ∙ ap (λ t. mark_out m.If ++ (expr_text test ++ (braced t ++ (mark_out m.Else ++ braced (joined (map stmt_text other)))))) (stmts_joined body)
    ∙ ap (λ t. mark_out m.If ++ (expr_text test ++ (braced (stmts_text body) ++ (mark_out m.Else ++ braced t)))) (stmts_joined other)
    ∙ both_blocks (mark_out m.If) (expr_text test) (braced (stmts_text body)) (mark_out m.Else ++ braced (stmts_text other))

let_joined : (x : Text) (value : Expr) (j : Text) → mark_out m.Let ++ (name_out x ++ (mark_out m.Assign ++ (expr_text value ++ (mark_out m.Semicolon ++ j)))) ≡ stmt_text (s.Let x value) ++ j
let_joined x value j = rw (text_let x value) (five (mark_out m.Let) (name_out x) (mark_out m.Assign) (expr_text value) (mark_out m.Semicolon) j)

extra_joined : (x : Text) (body : List Add) (j : Text) → mark_out m.Extra ++ (name_out x ++ (mark_out m.LBrace ++ ((adds_text body ++ mark_out m.RBrace) ++ j))) ≡ stmt_text (s.Extra x body) ++ j
extra_joined x body j = rw (text_extra x body) (four (mark_out m.Extra) (name_out x) (mark_out m.LBrace) (adds_text body ++ mark_out m.RBrace) j)

if_joined : (test : Expr) (body : List Stmt) (j : Text) → mark_out m.If ++ (expr_text test ++ (mark_out m.LBrace ++ ((stmts_text body ++ mark_out m.RBrace) ++ j))) ≡ stmt_text (s.If test body None) ++ j
if_joined test body j = rw (text_if_step test body, stmts_joined body) (without_else (mark_out m.If) (expr_text test) (mark_out m.LBrace) (stmts_text body ++ mark_out m.RBrace) j)

else_joined : (test : Expr) (body other : List Stmt) (j : Text)
    → mark_out m.If ++ (expr_text test ++ (mark_out m.LBrace ++ ((stmts_text body ++ mark_out m.RBrace) ++ (mark_out m.Else ++ (mark_out m.LBrace ++ ((stmts_text other ++ mark_out m.RBrace) ++ j)))))) ≡ stmt_text (s.If test body (Some other)) ++ j
else_joined test body other j =
    rw (text_else_step test body other, stmts_joined body, stmts_joined other)
    (with_else (mark_out m.If) (expr_text test) (mark_out m.LBrace) (stmts_text body ++ mark_out m.RBrace) (mark_out m.Else) (mark_out m.LBrace) (stmts_text other ++ mark_out m.RBrace) j)

mutual
  stmt_printed : {context : Context} {d : ℕ} {i j : Input} {x : Stmt} → IsStmt context d i x j → text_of i ≡ stmt_text x ++ text_of j
  stmt_printed {j = j} (a_let {x = x} {value = value} is) = ap (λ t. mark_out m.Let ++ (name_out x ++ (mark_out m.Assign ++ t))) (expr_printed is) ∙ let_joined x value (text_of j)
  stmt_printed {j = j} (an_add {x = x} is) = add_printed is ∙ ap (λ t. t ++ text_of j) (sym (text_add x))
  stmt_printed {j = j} (an_extra {x = x} {body = body} are) = ap (λ t. mark_out m.Extra ++ (name_out x ++ (mark_out m.LBrace ++ t))) (end_adds_printed are) ∙ extra_joined x body (text_of j)
  stmt_printed {j = j} (an_if {test = test} {body = body} is are) =
      ap (λ t. mark_out m.If ++ t) (expr_printed is ∙ ap (λ t. expr_text test ++ (mark_out m.LBrace ++ t)) (end_stmts_printed are)) ∙ if_joined test body (text_of j)
  stmt_printed {j = j} (an_else {test = test} {body = body} {other = other} is are more) =
      ap (λ t. mark_out m.If ++ t) (expr_printed is ∙ ap (λ t. expr_text test ++ (mark_out m.LBrace ++ t))
      (end_stmts_printed are ∙ ap (λ t. (stmts_text body ++ mark_out m.RBrace) ++ (mark_out m.Else ++ (mark_out m.LBrace ++ t))) (end_stmts_printed more))) ∙ else_joined test body other (text_of j)

  end_stmts_printed : {context : Context} {d : ℕ} {i j : Input} {x : List Stmt} → EndStmts context d i x j → text_of i ≡ (stmts_text x ++ mark_out m.RBrace) ++ text_of j
  end_stmts_printed no_stmt = refl
  end_stmts_printed {j = j} (one_stmt {x = x} {more = more} is are) =
      stmt_printed is ∙ ap (λ t. stmt_text x ++ t) (end_stmts_printed are) ∙ one_more (stmt_text x) (stmts_text more) (mark_out m.RBrace) (text_of j)

-- ---- queries and rules

names_printed : {i j : Input} {x : List Text} → AreNames i x j → text_of i ≡ names_text x ++ text_of j
names_printed no_name = refl
names_printed {j = j} (one_name {x = x} {more = more} are) = ap (λ t. name_out x ++ t) (names_printed are) ∙ sym (append_assoc (name_out x) (names_text more) (text_of j))

list_joined : (word : Mark) (x : Text) (more : List Text) (j : Text) → mark_out word ++ (name_out x ++ (names_text more ++ j)) ≡ list_text word (x ∷ more) ++ j
list_joined word x more j = three (mark_out word) (name_out x) (names_text more) j

list_printed : {word : Mark} {i j : Input} {x : List Text} → IsList word i x j → text_of i ≡ list_text word x ++ text_of j
list_printed unwritten = refl
list_printed {word = word} {j = j} (written {x = x} {more = more} are) = ap (λ t. mark_out word ++ (name_out x ++ t)) (names_printed are) ∙ list_joined word x more (text_of j)

query_printed : {i j : Input} {x : Query} → IsQuery i x j → text_of i ≡ query_text x ++ text_of j
query_printed {j = j} (queried {all = all} {any = any} {none = none} a b o) =
    list_printed a ∙ ap (λ t. list_text m.All all ++ t) (list_printed b ∙ ap (λ t. list_text m.Any any ++ t) (list_printed o))
    ∙ three (list_text m.All all) (list_text m.Any any) (list_text m.None none) (text_of j)

baker_joined : (number : ℤ) (kind : Text) (body : List Stmt) (j : Text) → mark_out m.Baker ++ (token_text (l.Int number) ++ (mark_out m.On ++ (name_out kind ++ (mark_out m.LBrace ++ ((stmts_text body ++ mark_out m.RBrace) ++ j))))) ≡ baker_text (baker_of number kind body) ++ j
baker_joined number kind body j = six (mark_out m.Baker) (token_text (l.Int number)) (mark_out m.On) (name_out kind) (mark_out m.LBrace) (stmts_text body ++ mark_out m.RBrace) j

system_joined : (number : ℤ) (asked : Query) (body : List Stmt) (j : Text) → mark_out m.System ++ (token_text (l.Int number) ++ (query_text asked ++ (mark_out m.LBrace ++ ((stmts_text body ++ mark_out m.RBrace) ++ j)))) ≡ system_text (system_of number asked body) ++ j
system_joined number asked body j = five (mark_out m.System) (token_text (l.Int number)) (query_text asked) (mark_out m.LBrace) (stmts_text body ++ mark_out m.RBrace) j

rule_printed : {i j : Input} {x : Rule} → IsRule i x j → text_of i ≡ rule_text x ++ text_of j
rule_printed {j = j} (a_baker {n = number} {kind = kind} {body = body} are) =
    ap (λ t. mark_out m.Baker ++ (token_text (l.Int number) ++ (mark_out m.On ++ (name_out kind ++ (mark_out m.LBrace ++ t))))) (end_stmts_printed are) ∙ baker_joined number kind body (text_of j)
rule_printed {j = j} (a_system {n = number} {asked = asked} {body = body} is are) =
    ap (λ t. mark_out m.System ++ (token_text (l.Int number) ++ t)) (query_printed is ∙ ap (λ t. query_text asked ++ (mark_out m.LBrace ++ t)) (end_stmts_printed are)) ∙ system_joined number asked body (text_of j)

rule_list_printed : {i : Input} {x : List Rule} → AreRules i x → text_of i ≡ rule_list_text x
rule_list_printed no_rule = refl
rule_list_printed (one_rule {x = x} is are) = rule_printed is ∙ ap (λ t. rule_text x ++ t) (rule_list_printed are)

pub rules_printed : (i : Input) (x : RulesTree) → IsRules i x → text_of i ≡ rules_text x
unfolding rules_text
rules_printed i x are = rule_list_printed are

-- ---- jobs

target_printed : {d : ℕ} {i j : Input} {x : Target} → IsTarget d i x j → text_of i ≡ target_text x ++ text_of j
target_printed at_this = refl
target_printed at_name = refl
target_printed {j = j} at_link = simp append_assoc refl

create_joined : (x j : Text) → mark_out m.Create ++ (name_out x ++ j) ≡ command_text (a_command.Create x) ++ j
create_joined x j = two (mark_out m.Create) (name_out x) j

destroy_joined : (on : Target) (j : Text) → mark_out m.Destroy ++ (target_text on ++ j) ≡ command_text (a_command.Destroy on) ++ j
destroy_joined on j = sym (append_assoc (mark_out m.Destroy) (target_text on) j)

remove_joined : (on : Target) (kind j : Text) → mark_out m.Remove ++ (target_text on ++ (name_out kind ++ j)) ≡ command_text (a_command.Remove on kind) ++ j
remove_joined on kind j = three (mark_out m.Remove) (target_text on) (name_out kind) j

add_to_joined : (on : Target) (kind : Text) (values : List Init) (j : Text) → mark_out m.Add ++ (target_text on ++ (name_out kind ++ (inits_text values ++ j))) ≡ command_text (a_command.Add on kind values) ++ j
add_to_joined on kind values j = four (mark_out m.Add) (target_text on) (name_out kind) (inits_text values) j

set_on_joined : (on : Target) (kind : Text) (values : List Init) (j : Text) → mark_out m.Set ++ (target_text on ++ (name_out kind ++ (inits_text values ++ j))) ≡ command_text (a_command.Set on kind values) ++ j
set_on_joined on kind values j = four (mark_out m.Set) (target_text on) (name_out kind) (inits_text values) j

command_printed : {d : ℕ} {i j : Input} {x : Command} → IsCommand d i x j → text_of i ≡ command_text x ++ text_of j
command_printed {j = j} (created {x = x}) = create_joined x (text_of j)
command_printed {j = j} (destroyed {on = on} is) = ap (λ t. mark_out m.Destroy ++ t) (target_printed is) ∙ destroy_joined on (text_of j)
command_printed {j = j} (removed {on = on} {kind = kind} is) = ap (λ t. mark_out m.Remove ++ t) (target_printed is) ∙ remove_joined on kind (text_of j)
command_printed {j = j} (added_to {on = on} {kind = kind} {values = values} is are) =
    ap (λ t. mark_out m.Add ++ t) (target_printed is ∙ ap (λ t. target_text on ++ (name_out kind ++ t)) (inits_printed are)) ∙ add_to_joined on kind values (text_of j)
command_printed {j = j} (set_to {on = on} {kind = kind} {values = values} is are) =
    ap (λ t. mark_out m.Set ++ t) (target_printed is ∙ ap (λ t. target_text on ++ (name_out kind ++ t)) (inits_printed are)) ∙ set_on_joined on kind values (text_of j)

commands_printed : {i j : Input} {x : List Command} → EndCommands i x j → text_of i ≡ (commands_text x ++ mark_out m.RBrace) ++ text_of j
commands_printed no_command = refl
commands_printed {j = j} (one_command {x = x} {more = more} is are) =
    command_printed is ∙ ap (λ t. command_text x ++ t) (commands_printed are) ∙ one_more (command_text x) (commands_text more) (mark_out m.RBrace) (text_of j)

job_joined : (asked : Query) (key : Expr) (list : List Command) → mark_out m.Job ++ (query_text asked ++ (mark_out m.Key ++ (expr_text key ++ (mark_out m.LBrace ++ ((commands_text list ++ mark_out m.RBrace) ++ []))))) ≡ job_text (job_of asked key list)
unfolding job_text
job_joined asked key list = ap (λ t. mark_out m.Job ++ (query_text asked ++ (mark_out m.Key ++ (expr_text key ++ (mark_out m.LBrace ++ t))))) (append-nil (commands_text list ++ mark_out m.RBrace))

pub job_printed : {i : Input} {x : JobTree} → IsJob i x → text_of i ≡ job_text x
job_printed (a_job {asked = asked} {key = key} {list = list} is value are) =
    ap (λ t. mark_out m.Job ++ t) (query_printed is ∙ ap (λ t. query_text asked ++ (mark_out m.Key ++ t)) (expr_printed value ∙ ap (λ t. expr_text key ++ (mark_out m.LBrace ++ t)) (commands_printed are)))
    ∙ job_joined asked key list
