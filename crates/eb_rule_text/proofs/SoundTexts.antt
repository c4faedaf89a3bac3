-- Whole texts are in the grammar, where they are read.
use Rattle.std.proofs.Common.{◌≡◌, ℕ, zero, suc, ◌-◌, ◌<◌, ℤ, Bool, true, false, if◌then◌else◌, ◌==◌, List, [], ◌∷◌, ◌++◌, length, Option, Some, Ok, sym, ◌∙◌, append_assoc, append-nil, arith, rules}
use Rattle.eb_rule_text.specs.declared.lexemes.Lexeme.TheVariants as l
use Rattle.eb_rule_text.specs.declared.marks.Mark.{Mark}
use Rattle.eb_rule_text.specs.declared.marks.Mark.TheVariants as m
use Rattle.eb_rule_text.specs.declared.trees.Context.TheVariants as c
use Rattle.eb_rule_text.specs.declared.trees.FieldPath.{FieldPath}
use Rattle.eb_rule_text.specs.declared.trees.Expr.{Expr}
use Rattle.eb_rule_text.specs.declared.trees.Init.{Init}
use Rattle.eb_rule_text.specs.declared.trees.Stmt.{Stmt}
use Rattle.eb_rule_text.specs.declared.trees.Query.{Query}
use Rattle.eb_rule_text.specs.declared.trees.Rule.{Rule}
use Rattle.eb_rule_text.specs.declared.trees.Rule.TheVariants as a_rule
use Rattle.eb_rule_text.specs.declared.trees.RulesTree.{RulesTree}
use Rattle.eb_rule_text.specs.declared.trees.Target.{Target}
use Rattle.eb_rule_text.specs.declared.trees.Target.TheVariants as a_target
use Rattle.eb_rule_text.specs.declared.trees.Command.{Command}
use Rattle.eb_rule_text.specs.declared.trees.Command.TheVariants as a_command
use Rattle.eb_rule_text.specs.declared.trees.JobTree.{JobTree}
use Rattle.eb_rule_text.specs.Tokens.{Text}
use Rattle.eb_rule_text.specs.Input.{Input, go_on, pure, mark, eat}
use Rattle.eb_rule_text.specs.Blocks as spec
use Rattle.eb_rule_text.specs.Spelled.{link_in_then}
use Rattle.eb_rule_text.specs.Grammar.{IsExpr, AreInits, EndStmts, AreNames, no_name, one_name, IsList, unwritten, written, IsQuery, queried, IsRule, a_baker, a_system, AreRules, no_rule, one_rule, IsRules, IsTarget, at_this, at_name, at_link, IsCommand, created, destroyed, removed, added_to, set_to, EndCommands, no_command, one_command, IsJob, a_job}
use Rattle.eb_rule_text.proofs.Steps.{went, ok_value, ok_rest, expected, opened, named, counted, ended, taken, left}
use Rattle.eb_rule_text.proofs.SoundFinds.{link_in_sound}
use Rattle.eb_rule_text.proofs.SoundExprs.{expression_sound}
use Rattle.eb_rule_text.proofs.SoundBlocks.{Ends, at_brace, one_more, Sound, until_sound, Braced, body_sound, inits_sound}

-- ---- queries

record Names (i : Input) (done x : List Text) (j : Input) : Type 0 where
  more : List Text
  whole : x ≡ done ++ more
  are : AreNames i more j

no_names : (i j : Input) (done x : List Text) → pure done i ≡ Ok (x, j) → Names i done x j
no_names i j done x h = record { more = []; whole = sym (ok_value h) ∙ sym (append-nil done); are = rw (← ok_rest h) no_name }

names_from_sound : (i j : Input) (done x : List Text) → spec.names_from done i ≡ Ok (x, j) → Names i done x j
names_from_sound [] j done x h = no_names [] j done x h
names_from_sound (l.Mark k ∷ i) j done x h = no_names (l.Mark k ∷ i) j done x h
names_from_sound (l.Name y ∷ i) j done x h =
    let rest = names_from_sound i j (done ++ y ∷ []) x h in
    record { more = y ∷ rest.more; whole = rest.whole ∙ append_assoc done (y ∷ []) rest.more; are = one_name rest.are }
names_from_sound (l.Underscored ∷ i) j done x h = no_names (l.Underscored ∷ i) j done x h
names_from_sound (l.Int n ∷ i) j done x h = no_names (l.Int n ∷ i) j done x h
names_from_sound (l.Fix n ∷ i) j done x h = no_names (l.Fix n ∷ i) j done x h

unwritten_moved : (word : Mark) (i k j : Input) (x : List Text) → i ≡ k → pure [] k ≡ Ok (x, j) → IsList word i x j
unwritten_moved word i k j x e h = rw (e, ← ok_value h, ← ok_rest h) unwritten

written_moved : (word : Mark) (i k n j : Input) (first : Text) (x : List Text) → i ≡ l.Mark word ∷ k → k ≡ l.Name first ∷ n → Names n (first ∷ []) x j → IsList word i x j
written_moved word i k n j first x e1 e2 are = rw (e1, e2, are.whole) (written are.are)

list_where : (word : Mark) (i k j : Input) (x : List Text) (b : Bool) → eat word i ≡ Ok (b, k) → spec.names_where b k ≡ Ok (x, j) → IsList word i x j
list_where word i k j x true e h =
    let a = went _ _ x j h in
    written_moved word i k a.rest j a.value x (taken _ _ _ e) (named _ _ _ a.first) (names_from_sound a.rest j (a.value ∷ []) x a.onward)
list_where word i k j x false e h = unwritten_moved word i k j x (left _ _ _ e) h

list_sound : (word : Mark) (i j : Input) (x : List Text) → spec.names word i ≡ Ok (x, j) → IsList word i x j
unfolding spec.names
list_sound word i j x h = let a = went _ _ x j h in list_where word i a.rest j x a.value a.first a.onward

query_moved : (i k j : Input) (x y : Query) → IsQuery i y k → pure y k ≡ Ok (x, j) → IsQuery i x j
query_moved i k j x y is h = rw (← ok_value h, ← ok_rest h) is

query_sound : (i j : Input) (x : Query) → spec.query i ≡ Ok (x, j) → IsQuery i x j
unfolding spec.query
query_sound i j x h =
    let a = went _ _ x j h in
    let b = went _ _ x j a.onward in
    let n = went _ _ x j b.onward in
    query_moved i n.rest j x (spec.query_of a.value b.value n.value)
    (queried (list_sound m.All i a.rest a.value a.first) (list_sound m.Any a.rest b.rest b.value b.first) (list_sound m.None b.rest n.rest n.value n.first)) n.onward

-- ---- rules

baker_moved : (i k n o q t j : Input) (number : ℤ) (kind : Text) (body : List Stmt) (x : Rule) → i ≡ l.Mark m.Baker ∷ k → k ≡ l.Int number ∷ n → n ≡ l.Mark m.On ∷ o → o ≡ l.Name kind ∷ q
    → Braced (EndStmts c.Baker) 32 q body t → pure (a_rule.Baker (spec.baker_of number kind body)) t ≡ Ok (x, j) → IsRule i x j
baker_moved i k n o q t j number kind body x e1 e2 e3 e4 are h = rw (e1, e2, e3, e4, are.tokens, ← ok_value h, ← ok_rest h) (a_baker are.are)

baker_sound : (i j : Input) (x : Rule) → spec.baker i ≡ Ok (x, j) → IsRule i x j
unfolding spec.baker
baker_sound i j x h =
    let a = went _ _ x j h in
    let b = went _ _ x j a.onward in
    let n = went _ _ x j b.onward in
    let o = went _ _ x j n.onward in
    let q = went _ _ x j o.onward in
    baker_moved i a.rest b.rest n.rest o.rest q.rest j b.value o.value q.value x (expected _ _ _ _ a.first) (counted _ _ _ b.first) (expected _ _ _ _ n.first) (named _ _ _ o.first)
    (body_sound c.Baker o.rest q.rest q.value q.first) q.onward

system_moved : (i k n o t j : Input) (number : ℤ) (asked : Query) (body : List Stmt) (x : Rule) → i ≡ l.Mark m.System ∷ k → k ≡ l.Int number ∷ n → IsQuery n asked o
    → Braced (EndStmts c.System) 32 o body t → pure (a_rule.System (spec.system_of number asked body)) t ≡ Ok (x, j) → IsRule i x j
system_moved i k n o t j number asked body x e1 e2 is are h =
    let at : IsQuery n asked (l.Mark m.LBrace ∷ are.rest) = rw (← are.tokens) is in rw (e1, e2, ← ok_value h, ← ok_rest h) (a_system at are.are)

system_sound : (i j : Input) (x : Rule) → spec.system i ≡ Ok (x, j) → IsRule i x j
unfolding spec.system
system_sound i j x h =
    let a = went _ _ x j h in
    let b = went _ _ x j a.onward in
    let n = went _ _ x j b.onward in
    let o = went _ _ x j n.onward in
    system_moved i a.rest b.rest n.rest o.rest j b.value n.value o.value x (expected _ _ _ _ a.first) (counted _ _ _ b.first) (query_sound b.rest n.rest n.value n.first)
    (body_sound c.System n.rest o.rest o.value o.first) o.onward

rule_by_sound : (next : Option Mark) (i j : Input) (x : Rule) → spec.rule_by next i ≡ Ok (x, j) → IsRule i x j
rule_by_sound (Some m.Baker) i j x h = baker_sound i j x h
rule_by_sound (Some m.System) i j x h = system_sound i j x h
rule_by_sound _ i j x h = absurd (search rules)

pub rule_sound : (i j : Input) (x : Rule) → spec.rule i ≡ Ok (x, j) → IsRule i x j
unfolding spec.rule
rule_sound i j x h = rule_by_sound (mark i) i j x h

record Rules (i : Input) (done x : List Rule) : Type 0 where
  more : List Rule
  whole : x ≡ done ++ more
  are : AreRules i more

RulesAll : ℕ → Type 0
RulesAll turns = (i j : Input) (done x : List Rule) → spec.rules_from turns done i ≡ Ok (x, j) → j ≡ [] → Rules i done x

no_rules : (i j : Input) (done x : List Rule) → pure done i ≡ Ok (x, j) → j ≡ [] → Rules i done x
no_rules i j done x h e = record { more = []; whole = sym (ok_value h) ∙ sym (append-nil done); are = rw (ok_rest h, e) no_rule }

rules_where : (turns : ℕ) → RulesAll turns → (i j : Input) (done x : List Rule) (b : Bool) → (if b then Ok (done, i) else go_on (spec.rule i) (λ y. spec.rules_from turns (done ++ y ∷ []))) ≡ Ok (x, j) → j ≡ [] → Rules i done x
unfolding RulesAll
rules_where turns more i j done x true h e = no_rules i j done x h e
rules_where turns more i j done x false h e =
    let a = went _ _ x j h in
    let rest = more a.rest j (done ++ a.value ∷ []) x a.onward e in
    record { more = a.value ∷ rest.more; whole = rest.whole ∙ append_assoc done (a.value ∷ []) rest.more; are = one_rule (rule_sound i a.rest a.value a.first) rest.are }

rules_from_sound : (turns : ℕ) → RulesAll turns
unfolding RulesAll
rules_from_sound zero i j done x h e = no_rules i j done x h e
rules_from_sound (suc turns) i j done x h e = rules_where turns (rules_from_sound turns) i j done x (length i == 0) h e

rule_list_sound : (i j : Input) (x : List Rule) → spec.rule_list i ≡ Ok (x, j) → j ≡ [] → AreRules i x
unfolding spec.rule_list RulesAll
rule_list_sound i j x h e = let a = rules_from_sound (length i) i j [] x h e in rw a.whole a.are

tree_moved : (i : Input) (list : List Rule) (k j : Input) (x : RulesTree) → AreRules i list → pure (spec.tree_of list) k ≡ Ok (x, j) → IsRules i x
tree_moved i list k j x are h = rw (← ok_value h) are

pub rules_sound : (i j : Input) (x : RulesTree) → spec.rules i ≡ Ok (x, j) → IsRules i x
unfolding spec.rules
rules_sound i j x h =
    let a = went _ _ x j h in
    let b = went _ _ x j a.onward in
    tree_moved i a.value b.rest j x (rule_list_sound i a.rest a.value a.first (ended _ _ _ b.first)) b.onward

-- ---- jobs

this_moved : (d : ℕ) (i k j : Input) (x : Target) → i ≡ l.Mark m.This ∷ k → pure a_target.This k ≡ Ok (x, j) → IsTarget d i x j
this_moved d i k j x e h = rw (e, ← ok_value h, ← ok_rest h) at_this

one_less : (d : ℕ) → 0 < d → d ≡ suc (d - 1)
one_less d h = omega arith

link_moved : (d : ℕ) (i k n j : Input) (p : FieldPath) (x : Target) → i ≡ l.Mark m.At ∷ k → 0 < d → k ≡ link_in_then p n → pure (a_target.At p) n ≡ Ok (x, j) → IsTarget d i x j
link_moved d i k n j p x e room f h = rw (one_less d room, e, f, ← ok_value h, ← ok_rest h) at_link

name_moved : (d : ℕ) (i k j : Input) (y : Text) (x : Target) → i ≡ l.Name y ∷ k → pure (a_target.Name y) k ≡ Ok (x, j) → IsTarget d i x j
name_moved d i k j y x e h = rw (e, ← ok_value h, ← ok_rest h) at_name

target_by_sound : (d : ℕ) (next : Option Mark) (i j : Input) (x : Target) → spec.target_by d next i ≡ Ok (x, j) → IsTarget d i x j
target_by_sound d (Some m.This) i j x h = let a = went _ _ x j h in this_moved d i a.rest j x (expected _ _ _ _ a.first) a.onward
target_by_sound d (Some m.At) i j x h =
    let a = went _ _ x j h in
    let b = went _ _ x j a.onward in
    let is = link_in_sound d a.rest b.rest b.value b.first in
    link_moved d i a.rest b.rest j b.value x (expected _ _ _ _ a.first) is.0 is.1 b.onward
target_by_sound d _ i j x h = let a = went _ _ x j h in name_moved d i a.rest j a.value x (named _ _ _ a.first) a.onward

target_sound : (d : ℕ) (i j : Input) (x : Target) → spec.target d i ≡ Ok (x, j) → IsTarget d i x j
unfolding spec.target
target_sound d i j x h = target_by_sound d (mark i) i j x h

command_moved : (d : ℕ) (i k j : Input) (x y : Command) → IsCommand d i y k → pure y k ≡ Ok (x, j) → IsCommand d i x j
command_moved d i k j x y is h = rw (← ok_value h, ← ok_rest h) is

create_at : (d : ℕ) (i k n : Input) (y : Text) → i ≡ l.Mark m.Create ∷ k → k ≡ l.Name y ∷ n → IsCommand d i (a_command.Create y) n
create_at d i k n y e f = rw (e, f) created

create_sound : (d : ℕ) (i j : Input) (x : Command) → spec.create i ≡ Ok (x, j) → IsCommand d i x j
unfolding spec.create
create_sound d i j x h =
    let a = went _ _ x j h in
    let b = went _ _ x j a.onward in
    command_moved d i b.rest j x (a_command.Create b.value) (create_at d i a.rest b.rest b.value (expected _ _ _ _ a.first) (named _ _ _ b.first)) b.onward

destroy_at : (d : ℕ) (i k n : Input) (on : Target) → i ≡ l.Mark m.Destroy ∷ k → IsTarget d k on n → IsCommand d i (a_command.Destroy on) n
destroy_at d i k n on e is = rw e (destroyed is)

destroy_sound : (d : ℕ) (i j : Input) (x : Command) → spec.destroy d i ≡ Ok (x, j) → IsCommand d i x j
unfolding spec.destroy
destroy_sound d i j x h =
    let a = went _ _ x j h in
    let b = went _ _ x j a.onward in
    command_moved d i b.rest j x (a_command.Destroy b.value) (destroy_at d i a.rest b.rest b.value (expected _ _ _ _ a.first) (target_sound d a.rest b.rest b.value b.first)) b.onward

named_target : (d : ℕ) (k n o : Input) (on : Target) (kind : Text) → IsTarget d k on n → n ≡ l.Name kind ∷ o → IsTarget d k on (l.Name kind ∷ o)
named_target d k n o on kind is f = rw (← f) is

remove_at : (d : ℕ) (i k n o : Input) (on : Target) (kind : Text) → i ≡ l.Mark m.Remove ∷ k → IsTarget d k on n → n ≡ l.Name kind ∷ o → IsCommand d i (a_command.Remove on kind) o
remove_at d i k n o on kind e is f = rw e (removed (named_target d k n o on kind is f))

remove_sound : (d : ℕ) (i j : Input) (x : Command) → spec.remove d i ≡ Ok (x, j) → IsCommand d i x j
unfolding spec.remove
remove_sound d i j x h =
    let a = went _ _ x j h in
    let b = went _ _ x j a.onward in
    let n = went _ _ x j b.onward in
    command_moved d i n.rest j x (a_command.Remove b.value n.value)
    (remove_at d i a.rest b.rest n.rest b.value n.value (expected _ _ _ _ a.first) (target_sound d a.rest b.rest b.value b.first) (named _ _ _ n.first)) n.onward

add_at : (d : ℕ) (i k n o t : Input) (on : Target) (kind : Text) (values : List Init) → i ≡ l.Mark m.Add ∷ k → IsTarget d k on n → n ≡ l.Name kind ∷ o → AreInits c.Job d o values t → IsCommand d i (a_command.Add on kind values) t
add_at d i k n o t on kind values e is f are = rw e (added_to (named_target d k n o on kind is f) are)

add_to_sound : (d : ℕ) (i j : Input) (x : Command) → spec.add_to d i ≡ Ok (x, j) → IsCommand d i x j
unfolding spec.add_to
add_to_sound d i j x h =
    let a = went _ _ x j h in
    let b = went _ _ x j a.onward in
    let n = went _ _ x j b.onward in
    let o = went _ _ x j n.onward in
    command_moved d i o.rest j x (a_command.Add b.value n.value o.value)
    (add_at d i a.rest b.rest n.rest o.rest b.value n.value o.value (expected _ _ _ _ a.first) (target_sound d a.rest b.rest b.value b.first) (named _ _ _ n.first) (inits_sound c.Job d n.rest o.rest o.value o.first)) o.onward

set_at : (d : ℕ) (i k n o t : Input) (on : Target) (kind : Text) (values : List Init) → i ≡ l.Mark m.Set ∷ k → IsTarget d k on n → n ≡ l.Name kind ∷ o → AreInits c.Job d o values t → IsCommand d i (a_command.Set on kind values) t
set_at d i k n o t on kind values e is f are = rw e (set_to (named_target d k n o on kind is f) are)

set_on_sound : (d : ℕ) (i j : Input) (x : Command) → spec.set_on d i ≡ Ok (x, j) → IsCommand d i x j
unfolding spec.set_on
set_on_sound d i j x h =
    let a = went _ _ x j h in
    let b = went _ _ x j a.onward in
    let n = went _ _ x j b.onward in
    let o = went _ _ x j n.onward in
    command_moved d i o.rest j x (a_command.Set b.value n.value o.value)
    (set_at d i a.rest b.rest n.rest o.rest b.value n.value o.value (expected _ _ _ _ a.first) (target_sound d a.rest b.rest b.value b.first) (named _ _ _ n.first) (inits_sound c.Job d n.rest o.rest o.value o.first)) o.onward

command_by_sound : (d : ℕ) (next : Option Mark) (i j : Input) (x : Command) → spec.command_by d next i ≡ Ok (x, j) → IsCommand d i x j
command_by_sound d (Some m.Create) i j x h = create_sound d i j x h
command_by_sound d (Some m.Destroy) i j x h = destroy_sound d i j x h
command_by_sound d (Some m.Remove) i j x h = remove_sound d i j x h
command_by_sound d (Some m.Add) i j x h = add_to_sound d i j x h
command_by_sound d (Some m.Set) i j x h = set_on_sound d i j x h
command_by_sound d _ i j x h = absurd (search rules)

pub command_sound : (d : ℕ) → Sound (IsCommand d) (spec.command d)
unfolding Sound spec.command
command_sound d i j x h = command_by_sound d (mark i) i j x h

end_commands : (i j : Input) (x : List Command) → Ends (IsCommand 31) i x j → EndCommands i x j
end_commands _ _ _ at_brace = no_command
end_commands i j _ (one_more is more) = one_command is (end_commands _ j _ more)

job_at : (i k n o q t u : Input) (asked : Query) (key : Expr) (list : List Command) → i ≡ l.Mark m.Job ∷ k → IsQuery k asked n → n ≡ l.Mark m.Key ∷ o → IsExpr c.Job 32 o key q → q ≡ l.Mark m.LBrace ∷ t
    → Ends (IsCommand 31) t list u → u ≡ [] → IsJob i (spec.job_of asked key list)
job_at i k n o q t u asked key list e is f value g are none =
    let at : IsQuery k asked (l.Mark m.Key ∷ o) = rw (← f) is in
    let here : IsExpr c.Job 32 o key (l.Mark m.LBrace ∷ t) = rw (← g) value in
    let all : EndCommands t list [] = rw (← none) (end_commands t u list are) in
    rw e (a_job at here all)

job_moved : (i k j : Input) (x y : JobTree) → IsJob i y → pure y k ≡ Ok (x, j) → IsJob i x
job_moved i k j x y is h = rw (← ok_value h) is

record Commands (i : Input) (x : List Command) (j : Input) : Type 0 where
  rest : Input
  tokens : i ≡ l.Mark m.LBrace ∷ rest
  are : Ends (IsCommand 31) rest x j

commands_sound : (i j : Input) (x : List Command) → spec.commands i ≡ Ok (x, j) → Commands i x j
unfolding spec.commands
commands_sound i j x h =
    let a = went _ _ x j h in
    record { rest = a.rest; tokens = (opened _ _ _ _ _ a.first).tokens; are = until_sound (IsCommand 31) (spec.command 31) (command_sound 31) a.rest j x a.onward }

one_job_sound : (i j : Input) (x : JobTree) → spec.one_job i ≡ Ok (x, j) → j ≡ [] → IsJob i x
unfolding spec.one_job
one_job_sound i j x h none =
    let a = went _ _ x j h in
    let b = went _ _ x j a.onward in
    let n = went _ _ x j b.onward in
    let o = went _ _ x j n.onward in
    let q = went _ _ x j o.onward in
    let list = commands_sound o.rest q.rest q.value q.first in
    let is = job_at i a.rest b.rest n.rest o.rest list.rest q.rest b.value o.value q.value (expected _ _ _ _ a.first) (query_sound a.rest b.rest b.value b.first) (expected _ _ _ _ n.first)
    (expression_sound c.Job 32 n.rest o.rest o.value o.first) list.tokens list.are (ok_rest q.onward ∙ none) in
    job_moved i q.rest j x (spec.job_of b.value o.value q.value) is q.onward

pub job_sound : (i j : Input) (x : JobTree) → spec.job i ≡ Ok (x, j) → IsJob i x
unfolding spec.job
job_sound i j x h =
    let a = went _ _ x j h in
    let b = went _ _ x j a.onward in
    job_moved i b.rest j x a.value (one_job_sound i a.rest a.value a.first (ended _ _ _ b.first)) b.onward
