-- Whole texts of the grammar are read.
use Rattle.std.proofs.Common.{◌≡◌, ℕ, zero, suc, ◌+◌, ◌≤◌, ◌<◌, ℤ, false, ◌==◌, List, [], ◌∷◌, ◌++◌, length, Ok, refl, sym, ap, ◌∙◌, append_assoc, append-nil, arith}
use Rattle.eb_rule_text.specs.declared.lexemes.Lexeme.TheVariants as l
use Rattle.eb_rule_text.specs.declared.marks.Mark.{Mark}
use Rattle.eb_rule_text.specs.declared.marks.Mark.TheVariants as m
use Rattle.eb_rule_text.specs.declared.trees.Context.TheVariants as c
use Rattle.eb_rule_text.specs.declared.trees.FieldPath.{FieldPath}
use Rattle.eb_rule_text.specs.declared.trees.Expr.{Expr}
use Rattle.eb_rule_text.specs.declared.trees.Init.{Init}
use Rattle.eb_rule_text.specs.declared.trees.Stmt.{Stmt}
use Rattle.eb_rule_text.specs.declared.trees.Query.{Query}
use Rattle.eb_rule_text.specs.declared.trees.Rule.{Rule}
use Rattle.eb_rule_text.specs.declared.trees.Rule.TheVariants as a_rule
use Rattle.eb_rule_text.specs.declared.trees.RulesTree.{RulesTree}
use Rattle.eb_rule_text.specs.declared.trees.Target.{Target}
use Rattle.eb_rule_text.specs.declared.trees.Target.TheVariants as a_target
use Rattle.eb_rule_text.specs.declared.trees.Command.{Command}
use Rattle.eb_rule_text.specs.declared.trees.Command.TheVariants as a_command
use Rattle.eb_rule_text.specs.declared.trees.JobTree.{JobTree}
use Rattle.eb_rule_text.specs.Tokens.{Text}
use Rattle.eb_rule_text.specs.Input.{Input, sees, expect, same_mark, name, sees_name, int, end, until_brace}
use Rattle.eb_rule_text.specs.Reading.{expression}
use Rattle.eb_rule_text.specs.Blocks as spec
use Rattle.eb_rule_text.specs.Spelled.{link_in_then}
use Rattle.eb_rule_text.specs.Grammar.{AreNames, no_name, one_name, IsList, unwritten, written, IsQuery, queried, IsRule, a_baker, a_system, AreRules, no_rule, one_rule, IsRules, IsTarget, at_this, at_name, at_link, IsCommand, created, destroyed, removed, added_to, set_to, EndCommands, no_command, one_command, IsJob, a_job}
use Rattle.eb_rule_text.proofs.NameRuns.{names_stop}
use Rattle.eb_rule_text.proofs.Takes.{opens_is, eat_is, eat_not, until_stop, until_go}
use Rattle.eb_rule_text.proofs.CompleteFinds.{link_in_is}
use Rattle.eb_rule_text.proofs.CompleteExprs.{expression_is}
use Rattle.eb_rule_text.proofs.CompleteBlocks.{inits_are, inits_take, end_stmts_take, block_are}

-- ---- queries

names_are : {i j : Input} {x : List Text} → AreNames i x j → (done : List Text) → sees_name j ≡ false → spec.names_from done i ≡ Ok (done ++ x, j)
names_are {i = i} no_name done h = names_stop done i h ∙ ap (λ y. Ok (y, i)) (sym (append-nil done))
names_are {j = j} (one_name {x = x} {more = rest} are) done h = names_are are (done ++ x ∷ []) h ∙ ap (λ y. Ok (y, j)) (append_assoc done (x ∷ []) rest)

names_take : {i j : Input} {x : List Text} → AreNames i x j → length j ≤ length i
names_take no_name = omega arith
names_take (one_name are) = let a = names_take are in omega arith

unwritten_step : (word : Mark) (i : Input) → sees word i ≡ false → spec.names word i ≡ Ok ([], i)
unfolding spec.names
unwritten_step word i h = rw (eat_not word i h) refl

written_step : (word : Mark) (i j : Input) (x : Text) (all : List Text) → spec.names_from (x ∷ []) i ≡ Ok (all, j) → spec.names word (l.Mark word ∷ l.Name x ∷ i) ≡ Ok (all, j)
unfolding spec.names name
written_step word i j x all h = rw (eat_is word (l.Name x ∷ i)) h

list_is : {word : Mark} {i j : Input} {x : List Text} → IsList word i x j → sees word j ≡ false → sees_name j ≡ false → spec.names word i ≡ Ok (x, j)
list_is {word = word} {i = i} unwritten h g = unwritten_step word i h
list_is {word = word} {j = j} (written {i = i} {x = x} {more = more} are) h g = written_step word i j x (x ∷ more) (names_are are (x ∷ []) g)

list_begins : {word : Mark} {i j : Input} {x : List Text} → IsList word i x j → (other : Mark) → same_mark word other ≡ false → sees other j ≡ false → sees other i ≡ false
unfolding sees
list_begins unwritten other apart h = h
list_begins (written are) other apart h = apart

list_no_name : {word : Mark} {i j : Input} {x : List Text} → IsList word i x j → sees_name j ≡ false → sees_name i ≡ false
list_no_name unwritten h = h
list_no_name (written are) h = refl

list_takes : {word : Mark} {i j : Input} {x : List Text} → IsList word i x j → length j ≤ length i
list_takes unwritten = omega arith
list_takes (written are) = let a = names_take are in omega arith

apart_words : (same_mark m.Any m.All ≡ false) × (same_mark m.None m.All ≡ false) × (same_mark m.None m.Any ≡ false)
unfolding same_mark
apart_words = (refl, refl, refl)

-- nothing of a query goes on
record Follows (j : Input) : Type 0 where
  all : sees m.All j ≡ false
  any : sees m.Any j ≡ false
  none : sees m.None j ≡ false
  named : sees_name j ≡ false

brace_follows : (j : Input) → Follows (l.Mark m.LBrace ∷ j)
unfolding sees same_mark
brace_follows j = record { all = refl; any = refl; none = refl; named = refl }

key_follows : (j : Input) → Follows (l.Mark m.Key ∷ j)
unfolding sees same_mark
key_follows j = record { all = refl; any = refl; none = refl; named = refl }

query_step : (i k n j : Input) (all any none : List Text) → spec.names m.All i ≡ Ok (all, k) → spec.names m.Any k ≡ Ok (any, n) → spec.names m.None n ≡ Ok (none, j) → spec.query i ≡ Ok (spec.query_of all any none, j)
unfolding spec.query
query_step i k n j all any none h g o = rw (h, g, o) refl

query_is : {i j : Input} {x : Query} → IsQuery i x j → Follows j → spec.query i ≡ Ok (x, j)
query_is {i = i} {j = j} (queried {k = k} {n = n} {all = all} {any = any} {none = none} a b o) f =
    let n_all = list_begins o m.All apart_words.1 f.all in
    let n_any = list_begins o m.Any apart_words.2 f.any in
    let n_named = list_no_name o f.named in
    let k_all = list_begins b m.All apart_words.0 n_all in
    let k_named = list_no_name b n_named in
    query_step i k n j all any none (list_is a k_all k_named) (list_is b n_any n_named) (list_is o f.none f.named)

query_takes : {i j : Input} {x : Query} → IsQuery i x j → length j ≤ length i
query_takes (queried a b o) = let x = list_takes a in let y = list_takes b in let z = list_takes o in omega arith

-- ---- rules

baker_step : (i j : Input) (number : ℤ) (kind : Text) (body : List Stmt) → spec.block c.Baker 32 (spec.stmt c.Baker 31) (l.Mark m.LBrace ∷ i) ≡ Ok (body, j)
    → spec.rule (l.Mark m.Baker ∷ l.Int number ∷ l.Mark m.On ∷ l.Name kind ∷ l.Mark m.LBrace ∷ i) ≡ Ok (a_rule.Baker (spec.baker_of number kind body), j)
unfolding spec.rule spec.baker int name expect sees same_mark
baker_step i j number kind body h = rw h refl

system_step : (i k j : Input) (number : ℤ) (asked : Query) (body : List Stmt) → spec.query i ≡ Ok (asked, k) → spec.block c.System 32 (spec.stmt c.System 31) k ≡ Ok (body, j)
    → spec.rule (l.Mark m.System ∷ l.Int number ∷ i) ≡ Ok (a_rule.System (spec.system_of number asked body), j)
unfolding spec.rule spec.system int expect sees same_mark
system_step i k j number asked body h g = rw (h, g) refl

rule_is : {i j : Input} {x : Rule} → IsRule i x j → spec.rule i ≡ Ok (x, j)
rule_is {j = j} (a_baker {i = i} {n = number} {kind = kind} {body = body} are) = baker_step i j number kind body (block_are are)
rule_is {j = j} (a_system {i = i} {k = k} {n = number} {asked = asked} {body = body} is are) =
    system_step i (l.Mark m.LBrace ∷ k) j number asked body (query_is is (brace_follows k)) (block_are are)

pub rule_takes : {i j : Input} {x : Rule} → IsRule i x j → length j < length i
rule_takes (a_baker are) = let a = end_stmts_take are in omega arith
rule_takes (a_system is are) = let a = query_takes is in let b = end_stmts_take are in omega arith

rules_take : {i : Input} {x : List Rule} → AreRules i x → length x ≤ length i
rules_take no_rule = omega arith
rules_take (one_rule is more) = let a = rule_takes is in let b = rules_take more in omega arith

some_tokens : (i : Input) (n : ℕ) → n < length i → (length i == 0) ≡ false
some_tokens i n h = grind arith

rules_go : (turns : ℕ) (done : List Rule) (i k : Input) (x : Rule) → length k < length i → spec.rule i ≡ Ok (x, k) → spec.rules_from (suc turns) done i ≡ spec.rules_from turns (done ++ x ∷ []) k
rules_go turns done i k x h g = rw (some_tokens i (length k) h, g) refl

rules_are : {i : Input} {x : List Rule} → AreRules i x → (n : ℕ) (done : List Rule) → length x ≤ n → spec.rules_from n done i ≡ Ok (done ++ x, [])
rules_are no_rule zero done few = ap (λ y. Ok (y, [])) (sym (append-nil done))
rules_are no_rule (suc n) done few = ap (λ y. Ok (y, [])) (sym (append-nil done))
rules_are (one_rule is more) zero done few = absurd (omega arith)
rules_are {i = i} (one_rule {k = k} {x = x} {more = rest} is more) (suc n) done few =
    rules_go n done i k x (rule_takes is) (rule_is is) ∙ rules_are more n (done ++ x ∷ []) (omega arith) ∙ ap (λ y. Ok (y, [])) (append_assoc done (x ∷ []) rest)

rules_step : (i : Input) (list : List Rule) → spec.rules_from (length i) [] i ≡ Ok (list, []) → spec.rules i ≡ Ok (spec.tree_of list, [])
unfolding spec.rules spec.rule_list end
rules_step i list h = rw h refl

pub rules_is : (i : Input) (x : RulesTree) → IsRules i x → spec.rules i ≡ Ok (x, [])
rules_is i x are = rules_step i x.rules (rules_are are (length i) [] (rules_take are))

-- ---- jobs

target_steps : (d : ℕ) (j : Input) → (spec.target d (l.Mark m.This ∷ j) ≡ Ok (a_target.This, j)) × ((x : Text) → spec.target d (l.Name x ∷ j) ≡ Ok (a_target.Name x, j))
unfolding spec.target name expect sees same_mark
target_steps d j = (refl, (λ x. refl))

room : (d : ℕ) → 0 < suc d
room d = omega arith

link_step : (d : ℕ) (p : FieldPath) (j : Input) → spec.target (suc d) (l.Mark m.At ∷ link_in_then p j) ≡ Ok (a_target.At p, j)
unfolding spec.target expect sees same_mark
link_step d p j = rw (link_in_is (suc d) p j (room d)) refl

target_is : {d : ℕ} {i j : Input} {x : Target} → IsTarget d i x j → spec.target d i ≡ Ok (x, j)
target_is {d = d} {j = j} at_this = (target_steps d j).0
target_is {d = d} {j = j} (at_name {x = x}) = (target_steps d j).1 x
target_is {j = j} (at_link {d = d} {p = p}) = link_step d p j

target_takes : {d : ℕ} {i j : Input} {x : Target} → IsTarget d i x j → length j ≤ length i
target_takes at_this = omega arith
target_takes at_name = omega arith
target_takes at_link = omega arith

create_step : (d : ℕ) (x : Text) (j : Input) → spec.command d (l.Mark m.Create ∷ l.Name x ∷ j) ≡ Ok (a_command.Create x, j)
unfolding spec.command spec.create name expect sees same_mark
create_step d x j = refl

destroy_step : (d : ℕ) (i j : Input) (on : Target) → spec.target d i ≡ Ok (on, j) → spec.command d (l.Mark m.Destroy ∷ i) ≡ Ok (a_command.Destroy on, j)
unfolding spec.command spec.destroy expect sees same_mark
destroy_step d i j on h = rw h refl

remove_step : (d : ℕ) (i j : Input) (on : Target) (kind : Text) → spec.target d i ≡ Ok (on, l.Name kind ∷ j) → spec.command d (l.Mark m.Remove ∷ i) ≡ Ok (a_command.Remove on kind, j)
unfolding spec.command spec.remove name expect sees same_mark
remove_step d i j on kind h = rw h refl

add_to_step : (d : ℕ) (i k j : Input) (on : Target) (kind : Text) (values : List Init) → spec.target d i ≡ Ok (on, l.Name kind ∷ k) → spec.inits c.Job d k ≡ Ok (values, j) → spec.command d (l.Mark m.Add ∷ i) ≡ Ok (a_command.Add on kind values, j)
unfolding spec.command spec.add_to name expect sees same_mark
add_to_step d i k j on kind values h g = rw (h, g) refl

set_on_step : (d : ℕ) (i k j : Input) (on : Target) (kind : Text) (values : List Init) → spec.target d i ≡ Ok (on, l.Name kind ∷ k) → spec.inits c.Job d k ≡ Ok (values, j) → spec.command d (l.Mark m.Set ∷ i) ≡ Ok (a_command.Set on kind values, j)
unfolding spec.command spec.set_on name expect sees same_mark
set_on_step d i k j on kind values h g = rw (h, g) refl

command_is : {d : ℕ} {i j : Input} {x : Command} → IsCommand d i x j → spec.command d i ≡ Ok (x, j)
command_is {d = d} {j = j} (created {x = x}) = create_step d x j
command_is {d = d} {j = j} (destroyed {on = on} {i = i} is) = destroy_step d i j on (target_is is)
command_is {d = d} {j = j} (removed {on = on} {kind = kind} {i = i} is) = remove_step d i j on kind (target_is is)
command_is {d = d} {j = j} (added_to {on = on} {kind = kind} {values = values} {i = i} {k = k} is are) = add_to_step d i k j on kind values (target_is is) (inits_are are)
command_is {d = d} {j = j} (set_to {on = on} {kind = kind} {values = values} {i = i} {k = k} is are) = set_on_step d i k j on kind values (target_is is) (inits_are are)

pub command_takes : {d : ℕ} {i j : Input} {x : Command} → IsCommand d i x j → length j < length i
command_takes created = omega arith
command_takes (destroyed is) = let a = target_takes is in omega arith
command_takes (removed is) = let a = target_takes is in omega arith
command_takes (added_to is are) = let a = target_takes is in let b = inits_take are in omega arith
command_takes (set_to is are) = let a = target_takes is in let b = inits_take are in omega arith

command_begins : {d : ℕ} {i j : Input} {x : Command} → IsCommand d i x j → sees m.RBrace i ≡ false
unfolding sees same_mark
command_begins created = refl
command_begins (destroyed is) = refl
command_begins (removed is) = refl
command_begins (added_to is are) = refl
command_begins (set_to is are) = refl

commands_take : {i j : Input} {x : List Command} → EndCommands i x j → length x + length j < length i
commands_take no_command = omega arith
commands_take (one_command is more) = let a = command_takes is in let b = commands_take more in omega arith

commands_are : {i j : Input} {x : List Command} → EndCommands i x j → (n : ℕ) (done : List Command) → length x < n → until_brace (spec.command 31) n done i ≡ Ok (done ++ x, j)
commands_are no_command zero done few = absurd (omega arith)
commands_are {j = j} no_command (suc n) done few = until_stop (spec.command 31) n done j ∙ ap (λ y. Ok (y, j)) (sym (append-nil done))
commands_are (one_command is more) zero done few = absurd (omega arith)
commands_are {i = i} {j = j} (one_command {k = k} {x = x} {more = rest} is more) (suc n) done few =
    until_go (spec.command 31) n done i k x (command_begins is) (command_is is) ∙ commands_are more n (done ++ x ∷ []) (omega arith) ∙ ap (λ y. Ok (y, j)) (append_assoc done (x ∷ []) rest)

job_step : (i k n : Input) (asked : Query) (key : Expr) (list : List Command) → spec.query i ≡ Ok (asked, l.Mark m.Key ∷ k) → expression c.Job 32 k ≡ Ok (key, l.Mark m.LBrace ∷ n)
    → until_brace (spec.command 31) (length n) [] n ≡ Ok (list, []) → spec.job (l.Mark m.Job ∷ i) ≡ Ok (spec.job_of asked key list, [])
unfolding spec.job spec.one_job spec.commands end expect sees same_mark
job_step i k n asked key list h g o = rw (h, g, opens_is 32 m.LBrace n (room 31), o) refl

pub job_is : {i : Input} {x : JobTree} → IsJob i x → spec.job i ≡ Ok (x, [])
job_is (a_job {i = i} {k = k} {n = n} {asked = asked} {key = key} {list = list} is value are) =
    let a = commands_take are in
    job_step i k n asked key list (query_is is (key_follows k)) (expression_is value (λ _ _. refl)) (commands_are are (length n) [] (omega arith))
