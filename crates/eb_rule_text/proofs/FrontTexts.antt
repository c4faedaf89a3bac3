-- Statements, rules and jobs are read by the tokens of a front alone.
use Rattle.std.proofs.Common.{◌≡◌, ℕ, zero, suc, ◌≤◌, Bool, true, false, ◌∷◌, [], length, Option, Some, None, Ok, Err, arith, rules}
use Rattle.eb_rule_text.specs.declared.marks.Mark.{Mark}
use Rattle.eb_rule_text.specs.declared.marks.Mark.TheVariants as m
use Rattle.eb_rule_text.specs.declared.trees.Context.{Context}
use Rattle.eb_rule_text.specs.declared.trees.Context.TheVariants as c
use Rattle.eb_rule_text.specs.declared.trees.Stmt.{Stmt}
use Rattle.eb_rule_text.specs.declared.trees.Stmt.TheVariants as s
use Rattle.eb_rule_text.specs.declared.trees.Rule.TheVariants as a_rule
use Rattle.eb_rule_text.specs.declared.trees.Target.TheVariants as a_target
use Rattle.eb_rule_text.specs.declared.trees.Command.TheVariants as a_command
use Rattle.eb_rule_text.specs.Input.{Input, Outcome, Parser, refuse}
use Rattle.eb_rule_text.specs.Blocks as spec
use Rattle.eb_rule_text.proofs.Steps.{went, named}
use Rattle.eb_rule_text.proofs.Fronts.{Beyond, Local, bind, pure_local, then_local, refuse_local, into_local, expect_local, opens_local, eat_local, name_local, int_local, end_local, peek}
use Rattle.eb_rule_text.proofs.FrontLists.{Takes, until_local, some_inits_local, names_from_local, rule_list_local}
use Rattle.eb_rule_text.proofs.FrontReads.{link_in_local, expression_local}
use Rattle.eb_rule_text.proofs.SoundBlocks.{Sound, add_sound, stmt_sound}
use Rattle.eb_rule_text.proofs.SoundTexts.{rule_sound, command_sound}
use Rattle.eb_rule_text.proofs.CompleteBlocks.{add_takes, stmt_takes}
use Rattle.eb_rule_text.proofs.CompleteTexts.{rule_takes, command_takes}

inner_local : (context : Context) (d : ℕ) → Local (spec.inner context d)
inner_local context zero = refuse_local
inner_local context (suc d) = expression_local context d

kept_within : {A : Type 0} (k : Input) (r : Outcome A) (x : A) (j : Input) → r ≡ Ok (x, j) → Beyond k r → length j ≤ length k
kept_within k (Ok read) x j e h = let same : read.1 ≡ j = search rules in rw (← same) h
kept_within k (Err refusal) x j e h = absurd (search rules)

init_takes : (context : Context) (d : ℕ) → Takes (spec.init context d)
unfolding spec.init
init_takes context d i j x h =
    let a = went _ _ x j h in
    let behind = then_local (expect_local m.Colon) (bind (inner_local context d) (λ value. pure_local (spec.init_of a.value value))) in
    let short = kept_within a.rest _ x j a.onward (behind.short a.rest) in
    rw (named _ _ _ a.first) (omega arith)

init_local : (context : Context) (d : ℕ) → Local (spec.init context d)
unfolding spec.init
init_local context d = bind name_local (λ field. then_local (expect_local m.Colon) (bind (inner_local context d) (λ value. pure_local (spec.init_of field value))))

inits_where_local : (context : Context) (d : ℕ) (empty : Bool) → Local (spec.inits_where context d empty)
inits_where_local context d true = pure_local []
inits_where_local context d false = some_inits_local context d (init_local context d) (init_takes context d)

inits_local : (context : Context) (d : ℕ) → Local (spec.inits context d)
unfolding spec.inits
inits_local context d = then_local (opens_local d m.LBrace) (eat_local m.RBrace (inits_where_local context d))

add_local : (context : Context) (d : ℕ) → Local (spec.add context d)
unfolding spec.add
add_local context d = then_local (expect_local m.Add) (bind name_local (λ kind. bind (inits_local context d) (λ values. pure_local (spec.add_of kind values))))

inner_add_local : (context : Context) (d : ℕ) → Local (spec.inner_add context d)
inner_add_local context zero = refuse_local
inner_add_local context (suc d) = add_local context d

inner_add_takes : (context : Context) (d : ℕ) → Takes (spec.inner_add context d)
inner_add_takes context zero i j x h = absurd (search rules)
inner_add_takes context (suc d) i j x h = add_takes (add_sound context d i j x h)

adds_local : (context : Context) (d : ℕ) → Local (spec.adds context d)
unfolding spec.adds
adds_local context d = then_local (opens_local d m.LBrace) (until_local (spec.inner_add context d) (inner_add_local context d) (inner_add_takes context d))

let_local : (context : Context) (d : ℕ) → Local (spec.let_stmt context d)
unfolding spec.let_stmt
let_local context d =
    then_local (expect_local m.Let) (bind name_local (λ x. then_local (expect_local m.Assign) (bind (expression_local context d) (λ value. then_local (expect_local m.Semicolon) (pure_local (s.Let x value))))))

extra_local : (context : Context) (d : ℕ) → Local (spec.extra context d)
unfolding spec.extra
extra_local context d = then_local (expect_local m.Extra) (bind name_local (λ x. bind (adds_local context d) (λ body. pure_local (s.Extra x body))))

baker_extra_local : (context : Context) (d : ℕ) → Local (spec.baker_extra context d)
baker_extra_local c.Baker d = extra_local c.Baker d
baker_extra_local c.System d = refuse_local
baker_extra_local c.Job d = refuse_local

module _ (context : Context) (d : ℕ) (below : Parser Stmt) (is : Local below) (takes : Takes below) where
  block_local : Local (spec.block context d below)
  unfolding spec.block
  block_local = then_local (opens_local d m.LBrace) (until_local below is takes)

  otherwise_where_local : (other : Bool) → Local (spec.otherwise_where context d below other)
  otherwise_where_local true = into_local Some block_local
  otherwise_where_local false = pure_local None

  if_local : Local (spec.if_stmt context d below)
  unfolding spec.if_stmt spec.otherwise
  if_local = then_local (expect_local m.If) (bind (expression_local context d) (λ test. bind block_local (λ body. bind (eat_local m.Else otherwise_where_local) (λ other. pure_local (s.If test body other)))))

  stmt_by_local : (next : Option Mark) → Local (spec.stmt_by context d below next)
  stmt_by_local (Some m.Let) = let_local context d
  stmt_by_local (Some m.Add) = into_local s.Add (add_local context d)
  stmt_by_local (Some m.If) = if_local
  stmt_by_local (Some m.Extra) = baker_extra_local context d
  stmt_by_local _ = refuse_local

  one_stmt_local : Local (spec.one_stmt context d below)
  unfolding spec.one_stmt
  one_stmt_local = peek (spec.stmt_by context d below) stmt_by_local

none_takes : {A : Type 0} → Takes (refuse {A = A})
none_takes i j x h = absurd (search rules)

shrinks : (context : Context) (d : ℕ) → Takes (spec.stmt context d)
unfolding Sound
shrinks context d i j x h = stmt_takes (stmt_sound context d i j x h)

stmt_local : (context : Context) (d : ℕ) → Local (spec.stmt context d)
stmt_local context zero = one_stmt_local context zero refuse refuse_local none_takes
stmt_local context (suc d) = one_stmt_local context (suc d) (spec.stmt context d) (stmt_local context d) (shrinks context d)

-- ---- rules

body_local : (context : Context) → Local (spec.block context 32 (spec.stmt context 31))
body_local context = block_local context 32 (spec.stmt context 31) (stmt_local context 31) (shrinks context 31)

names_where_local : (written : Bool) → Local (spec.names_where written)
names_where_local true = bind name_local (λ first. names_from_local (first ∷ []))
names_where_local false = pure_local []

names_local : (word : Mark) → Local (spec.names word)
unfolding spec.names
names_local word = eat_local word names_where_local

query_local : Local spec.query
unfolding spec.query
query_local = bind (names_local m.All) (λ all. bind (names_local m.Any) (λ any. bind (names_local m.None) (λ none. pure_local (spec.query_of all any none))))

baker_local : Local spec.baker
unfolding spec.baker
baker_local =
    then_local (expect_local m.Baker) (bind int_local (λ number. then_local (expect_local m.On) (bind name_local (λ authoring. bind (body_local c.Baker) (λ body. pure_local (a_rule.Baker (spec.baker_of number authoring body)))))))

system_local : Local spec.system
unfolding spec.system
system_local = then_local (expect_local m.System) (bind int_local (λ number. bind query_local (λ asked. bind (body_local c.System) (λ body. pure_local (a_rule.System (spec.system_of number asked body))))))

rule_by_local : (next : Option Mark) → Local (spec.rule_by next)
rule_by_local (Some m.Baker) = baker_local
rule_by_local (Some m.System) = system_local
rule_by_local _ = refuse_local

rule_local : Local spec.rule
unfolding spec.rule
rule_local = peek spec.rule_by rule_by_local

rule_shrinks : Takes spec.rule
rule_shrinks i j x h = rule_takes (rule_sound i j x h)

pub rules_local : Local spec.rules
unfolding spec.rules
rules_local = bind (rule_list_local rule_local rule_shrinks) (λ list. then_local end_local (pure_local (spec.tree_of list)))

-- ---- jobs

target_by_local : (d : ℕ) (next : Option Mark) → Local (spec.target_by d next)
target_by_local d (Some m.This) = then_local (expect_local m.This) (pure_local a_target.This)
target_by_local d (Some m.At) = then_local (expect_local m.At) (into_local a_target.At (link_in_local d))
target_by_local d _ = into_local a_target.Name name_local

target_local : (d : ℕ) → Local (spec.target d)
unfolding spec.target
target_local d = peek (spec.target_by d) (target_by_local d)

create_local : Local spec.create
unfolding spec.create
create_local = then_local (expect_local m.Create) (bind name_local (λ x. pure_local (a_command.Create x)))

destroy_local : (d : ℕ) → Local (spec.destroy d)
unfolding spec.destroy
destroy_local d = then_local (expect_local m.Destroy) (bind (target_local d) (λ on. pure_local (a_command.Destroy on)))

remove_local : (d : ℕ) → Local (spec.remove d)
unfolding spec.remove
remove_local d = then_local (expect_local m.Remove) (bind (target_local d) (λ on. bind name_local (λ kind. pure_local (a_command.Remove on kind))))

add_to_local : (d : ℕ) → Local (spec.add_to d)
unfolding spec.add_to
add_to_local d = then_local (expect_local m.Add) (bind (target_local d) (λ on. bind name_local (λ kind. bind (inits_local c.Job d) (λ values. pure_local (a_command.Add on kind values)))))

set_on_local : (d : ℕ) → Local (spec.set_on d)
unfolding spec.set_on
set_on_local d = then_local (expect_local m.Set) (bind (target_local d) (λ on. bind name_local (λ kind. bind (inits_local c.Job d) (λ values. pure_local (a_command.Set on kind values)))))

command_by_local : (d : ℕ) (next : Option Mark) → Local (spec.command_by d next)
command_by_local d (Some m.Create) = create_local
command_by_local d (Some m.Destroy) = destroy_local d
command_by_local d (Some m.Remove) = remove_local d
command_by_local d (Some m.Add) = add_to_local d
command_by_local d (Some m.Set) = set_on_local d
command_by_local d _ = refuse_local

command_local : (d : ℕ) → Local (spec.command d)
unfolding spec.command
command_local d = peek (spec.command_by d) (command_by_local d)

command_shrinks : (d : ℕ) → Takes (spec.command d)
unfolding Sound
command_shrinks d i j x h = command_takes (command_sound d i j x h)

commands_local : Local spec.commands
unfolding spec.commands
commands_local = then_local (opens_local 32 m.LBrace) (until_local (spec.command 31) (command_local 31) (command_shrinks 31))

one_job_local : Local spec.one_job
unfolding spec.one_job
one_job_local =
    then_local (expect_local m.Job) (bind query_local (λ asked. then_local (expect_local m.Key) (bind (expression_local c.Job 32) (λ key. bind commands_local (λ list. pure_local (spec.job_of asked key list))))))

pub job_local : Local spec.job
unfolding spec.job
job_local = bind one_job_local (λ tree. then_local end_local (pure_local tree))
