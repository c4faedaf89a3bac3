-- What holds of the resolved trees of whole rules and jobs.
use Rattle.std.proofs.Common.{◌≡◌, ℕ, zero, suc, ℤ, pos, negsuc, ◌+◌, ◌-◌, ◌≤◌, ◌<◌, ◌==◌, ◌&&◌, if◌then◌else◌, Bool, true, false, not, List, [], ◌∷◌, ◌++◌, map, length, Option, Some, None, refl, ap, ◌∙◌, arith, rules}
use Rattle.std.specs.Prelude.{nat_le, nat_lt}
use Rattle.std.specs.List.{list_all, slice_set}
use Rattle.std.proofs.lemmas.Bool.Decides.{nat_tests}
use Rattle.eb_rule_text.specs.declared.trees.Context.TheVariants as c
use Rattle.eb_rule_text.specs.declared.trees.Init.{Init}
use Rattle.eb_rule_text.specs.declared.trees.Stmt.{Stmt}
use Rattle.eb_rule_text.specs.declared.trees.Query.{Query}
use Rattle.eb_rule_text.specs.declared.trees.Rule.{Rule}
use Rattle.eb_rule_text.specs.declared.trees.RulesTree.{RulesTree}
use Rattle.eb_rule_text.specs.declared.trees.Command.{Command}
use Rattle.eb_rule_text.specs.declared.trees.JobTree.{JobTree}
use Rattle.eb_rule_text.specs.Input.{Input}
use Rattle.eb_rule_text.specs.Blocks.{baker_of, system_of}
use Rattle.eb_rule_text.specs.Grammar.{EndStmts, IsRule, a_baker, a_system, AreRules, no_rule, one_rule, IsRules, AreInits, IsCommand, created, destroyed, removed, added_to, set_to, EndCommands, no_command, one_command, IsJob, a_job}
use Rattle.eb_schema.specs.Schemas.{Types, component_named, authoring_named}
use Rattle.eb_rules.specs.declared.plans.BakerPlan.{BakerPlan}
use Rattle.eb_rules.specs.declared.plans.SystemPlan.{SystemPlan}
use Rattle.eb_rules.specs.declared.plans.RulesPlan.{RulesPlan}
use Rattle.eb_rules.specs.declared.plans.Order.{Order}
use Rattle.eb_rules.specs.declared.plans.JobPlan.{JobPlan}
use Rattle.eb_rules.specs.declared.plans.Step.{Step}
use Rattle.eb_rules.specs.declared.scopes.Visible.{Visible}
use Rattle.eb_rules.specs.declared.shapes.Shape.TheVariants as shape
use Rattle.eb_rules.specs.Scopes.{Text}
use Rattle.eb_rules.specs.Queries.{small, unused, is_used, put, first_state, baker_ground, system_ground, no_rules}
use Rattle.eb_rules.specs.Jobs.{job_scope, behind_command}
use Rattle.eb_rules.specs.Meanings.{block_meant, stmt_meant, query_meant, number_meant, baker_meant, system_meant, rule_meant, rules_meant, rules_plan, fitted_meant, target_meant, filled_meant, command_meant, commands_meant, job_meant}
use Rattle.eb_rules.specs.Holds.{term_stands, addition_stands, few, joined, added_kinds, all_stand, baker_holds, slots_hold, baker_at, system_at, rules_hold, order_stands, job_holds}
use Rattle.eb_rules.proofs.Holding.{Gives, anything, gives_then, if_only, both_true}
use Rattle.eb_rules.proofs.HoldSteps.{StepsHold, body_holds, key_holds, values_hold}
use Rattle.eb_rules.specs.Statements.{is_free}

-- ---- rules at their numbers

pub left_true : (a b : Bool) → (a && b) ≡ true → a ≡ true
left_true true b h = refl
left_true false b h = absurd (search rules)

right_true : (a b : Bool) → (a && b) ≡ true → b ≡ true
right_true true b h = h
right_true false b h = absurd (search rules)

moved : {A : Type 0} (test : ℕ → A → Bool) (k at : ℕ) (x : A) → test (k + suc at) x ≡ true → test ((k + 1) + at) x ≡ true
moved test k at x h = ap (λ n. test n x) (omega arith) ∙ h

slot_set : {A : Type 0} (test : ℕ → A → Bool) (k at : ℕ) (x : A) (slots : List (Option A)) → slots_hold test k slots ≡ true → test (k + at) x ≡ true → slots_hold test k (slice_set slots at (Some x)) ≡ true
slot_set test k at x [] h t = h
slot_set test k zero x (None ∷ xs) h t = both_true (test k x) (slots_hold test (k + 1) xs) (ap (λ n. test n x) (omega arith) ∙ t) h
slot_set test k zero x (Some y ∷ xs) h t = both_true (test k x) (slots_hold test (k + 1) xs) (ap (λ n. test n x) (omega arith) ∙ t) (right_true (test k y) (slots_hold test (k + 1) xs) h)
slot_set test k (suc at) x (None ∷ xs) h t = slot_set test (k + 1) at x xs h (moved test k at x t)
slot_set test k (suc at) x (Some y ∷ xs) h t =
    both_true (test k y) (slots_hold test (k + 1) (slice_set xs at (Some x))) (left_true (test k y) (slots_hold test (k + 1) xs) h) (slot_set test (k + 1) at x xs (right_true (test k y) (slots_hold test (k + 1) xs) h) (moved test k at x t))

set_length : {A : Type 0} (at : ℕ) (x : A) (xs : List A) → length (slice_set xs at x) ≡ length xs
set_length at x [] = refl
set_length zero x (y ∷ ys) = refl
set_length (suc at) x (y ∷ ys) = ap suc (set_length at x ys)

record SlotsOk {A : Type 0} (test : ℕ → A → Bool) (most : ℕ) (slots : List (Option A)) : Type 0 where
  many : length slots ≡ most
  hold : slots_hold test 1 slots ≡ true

put_where : {A : Type 0} (test : ℕ → A → Bool) (most n : ℕ) (x : A) (slots : List (Option A)) (b : Bool) → 1 ≤ n → test n x ≡ true → SlotsOk test most slots → SlotsOk test most (if b then slice_set slots (n - 1) (Some x) else slots)
put_where test most n x slots true some t ok = record { many = set_length (n - 1) (Some x) slots ∙ ok.many; hold = slot_set test 1 (n - 1) x slots ok.hold (ap (λ k. test k x) (omega (arith, some)) ∙ t) }
put_where test most n x slots false some t ok = ok

put_ok : {A : Type 0} (test : ℕ → A → Bool) (most n : ℕ) (x : A) (slots : List (Option A)) → 1 ≤ n → test n x ≡ true → SlotsOk test most slots → SlotsOk test most (put n x slots)
put_ok test most n x slots some t ok = put_where test most n x slots (nat_lt (n - 1) (length slots)) some t ok

unused_hold : {A : Type 0} (test : ℕ → A → Bool) (k : ℕ) (xs : List (Option A)) → slots_hold test k xs ≡ true → slots_hold test k (xs ++ None ∷ []) ≡ true
unused_hold test k [] h = refl
unused_hold test k (None ∷ xs) h = unused_hold test (k + 1) xs h
unused_hold test k (Some y ∷ xs) h = both_true (test k y) (slots_hold test (k + 1) (xs ++ None ∷ [])) (left_true (test k y) (slots_hold test (k + 1) xs) h) (unused_hold test (k + 1) xs (right_true (test k y) (slots_hold test (k + 1) xs) h))

one_longer : {A : Type 0} (xs : List A) (x : A) → length (xs ++ x ∷ []) ≡ suc (length xs)
one_longer [] x = refl
one_longer (y ∷ xs) x = ap suc (one_longer xs x)

unused_ok : {A : Type 0} (test : ℕ → A → Bool) (most : ℕ) → SlotsOk test most (unused most)
unfolding unused
unused_ok test zero = record { many = refl; hold = refl }
unused_ok test (suc n) = let rest = unused_ok test n in record { many = one_longer (unused n) None ∙ ap suc rest.many; hold = unused_hold test 1 (unused n) rest.hold }

record PlanOk (plan : RulesPlan) : Type 0 where
  bakers : SlotsOk baker_at 64 plan.bakers
  systems : SlotsOk system_at 32 plan.systems

small_where : (most k : ℕ) (b : Bool) → (nat_le 1 k && nat_le k most) ≡ b → Gives (λ n. 1 ≤ n) (if b then Some k else None)
small_where most k true e = let some = left_true (nat_le 1 k) (nat_le k most) e in grind (arith, nat_tests)
small_where most k false e = tt

small_gives : (most : ℕ) (number : ℤ) → Gives (λ n. 1 ≤ n) (small most number)
small_gives most (pos k) = small_where most k (nat_le 1 k && nat_le k most) refl
small_gives most (negsuc k) = tt

same_number : (n : ℕ) → (n == n) ≡ true
same_number n = grind (arith, nat_tests)

few_body : (steps : List Step) (behind : List ℕ) → StepsHold c.Baker [] steps behind → few (joined (map added_kinds steps)) ≡ true
few_body steps behind h = let less : length behind ≤ 32 = h.few_are refl (omega arith) in let is = ap length h.noted_are in grind (arith, nat_tests)

number_holds : {A : Type 0} (most : ℕ) (number : ℤ) (slots : List (Option A)) → Gives (λ n. 1 ≤ n) (number_meant most number slots)
number_holds most number slots = gives_then (λ n. 1 ≤ n) (λ n. 1 ≤ n) (small most number) _ (small_gives most number) (λ n some. if_only (λ n. 1 ≤ n) (not (is_used n slots)) _ (λ u. some))

baker_ok : (types : Types) (n : ℕ) {d : ℕ} {i j : Input} (number : ℤ) (kind : Text) {body : List Stmt} → EndStmts c.Baker d i body j → Gives (λ x. (x.number ≡ n) × (baker_holds x ≡ true)) (baker_meant types n (baker_of number kind body))
baker_ok types n number kind {body = body} are =
    gives_then (λ k. Unit {0}) (λ x. (x.number ≡ n) × (baker_holds x ≡ true)) (authoring_named types kind) _ (anything (authoring_named types kind))
    (λ own u. gives_then (λ z. StepsHold c.Baker [] z.0 z.1.types) (λ x. (x.number ≡ n) × (baker_holds x ≡ true)) (block_meant (map (stmt_meant (baker_ground types own)) body) first_state) _ (body_holds (baker_ground types own) refl are first_state)
    (λ z h. (refl, both_true (all_stand c.Baker z.0) _ h.stand (few_body z.0 z.1.types h))))

system_ok : (types : Types) (n : ℕ) {d : ℕ} {i j : Input} (number : ℤ) (asked : Query) {body : List Stmt} → EndStmts c.System d i body j → Gives (λ x. (x.number ≡ n) × (all_stand c.System x.body ≡ true)) (system_meant types n (system_of number asked body))
system_ok types n number asked {body = body} are =
    gives_then (λ k. Unit {0}) (λ x. (x.number ≡ n) × (all_stand c.System x.body ≡ true)) (query_meant types asked) _ (anything (query_meant types asked))
    (λ q u. gives_then (λ z. StepsHold c.System [] z.0 z.1.types) (λ x. (x.number ≡ n) × (all_stand c.System x.body ≡ true)) (block_meant (map (stmt_meant (system_ground types q.all)) body) first_state) _ (body_holds (system_ground types q.all) refl are first_state)
    (λ z h. (refl, h.stand)))

at_number : (n : ℕ) (x : BakerPlan) → x.number ≡ n → baker_holds x ≡ true → baker_at x.number x ≡ true
at_number n x e h = both_true (x.number == x.number) (baker_holds x) (same_number x.number) h

system_at_number : (n : ℕ) (x : SystemPlan) → x.number ≡ n → all_stand c.System x.body ≡ true → system_at x.number x ≡ true
system_at_number n x e h = both_true (x.number == x.number) (all_stand c.System x.body) (same_number x.number) h

rule_holds : (types : Types) (plan : RulesPlan) {i j : Input} {x : Rule} → IsRule i x j → PlanOk plan → Gives PlanOk (rule_meant types plan x)
rule_holds types plan (a_baker {n = n} {kind = kind} {body = body} are) ok =
    gives_then (λ k. 1 ≤ k) PlanOk (number_meant 64 n plan.bakers) _ (number_holds 64 n plan.bakers)
    (λ k some. gives_then (λ x. (x.number ≡ k) × (baker_holds x ≡ true)) PlanOk (baker_meant types k (baker_of n kind body)) _ (baker_ok types k n kind are)
    (λ x h. record { bakers = put_ok baker_at 64 x.number x plan.bakers (rw h.0 some) (at_number k x h.0 h.1) ok.bakers; systems = ok.systems }))
rule_holds types plan (a_system {n = n} {asked = asked} {body = body} is are) ok =
    gives_then (λ k. 1 ≤ k) PlanOk (number_meant 32 n plan.systems) _ (number_holds 32 n plan.systems)
    (λ k some. gives_then (λ x. (x.number ≡ k) × (all_stand c.System x.body ≡ true)) PlanOk (system_meant types k (system_of n asked body)) _ (system_ok types k n asked are)
    (λ x h. record { bakers = ok.bakers; systems = put_ok system_at 32 x.number x plan.systems (rw h.0 some) (system_at_number k x h.0 h.1) ok.systems }))

rules_ok : (types : Types) (plan : RulesPlan) {i : Input} {xs : List Rule} → AreRules i xs → PlanOk plan → Gives PlanOk (rules_meant types xs plan)
rules_ok types plan no_rule ok = ok
rules_ok types plan (one_rule {x = x} {more = more} is are) ok = gives_then PlanOk PlanOk (rule_meant types plan x) _ (rule_holds types plan is ok) (λ y h. rules_ok types y are h)

given : {A : Type 0} (P : A → Type 0) (m : Option A) (a : A) → m ≡ Some a → Gives P m → P a
given P m a e h = rw e at h

plan_holds : (plan : RulesPlan) → PlanOk plan → rules_hold plan ≡ true
plan_holds plan ok = rw (ok.bakers.many, ok.systems.many, ok.bakers.hold, ok.systems.hold) refl

pub rules_holding : (types : Types) (tree : RulesTree) (plan : RulesPlan) {i : Input} → IsRules i tree → rules_plan types tree ≡ Some plan → rules_hold plan ≡ true
unfolding rules_plan
rules_holding types tree plan is e = plan_holds plan (given PlanOk (rules_meant types tree.rules no_rules) plan e (rules_ok types no_rules is (record { bakers = unused_ok baker_at 64; systems = unused_ok system_at 32 })))

-- ---- jobs

filled_holds : (types : Types) (all : List ℕ) (seen : List Visible) (kind : Text) {d : ℕ} {i j : Input} {inits : List Init} → AreInits c.Job d i inits j → Gives (λ y. addition_stands c.Job y ≡ true) (filled_meant (job_scope types all seen) kind inits)
filled_holds types all seen kind are =
    gives_then (λ n. Unit {0}) (λ y. addition_stands c.Job y ≡ true) (component_named types kind) _ (anything (component_named types kind)) (λ n u. values_hold (job_scope types all seen) n are)

abbrev pub Stands : Order → Type 0
Stands y = order_stands y ≡ true

command_holds : (types : Types) (all : List ℕ) (seen : List Visible) {d : ℕ} {i j : Input} {x : Command} → IsCommand d i x j → Gives Stands (command_meant (job_scope types all seen) x)
command_holds types all seen (created {x = x}) = if_only Stands (is_free x seen) _ (λ u. refl)
command_holds types all seen (destroyed {on = on} is) = gives_then (λ y. Unit {0}) Stands (target_meant (job_scope types all seen) on) _ (anything _) (λ y u. refl)
command_holds types all seen (removed {on = on} {kind = kind} is) =
    gives_then (λ y. Unit {0}) Stands (target_meant (job_scope types all seen) on) _ (anything _) (λ y u. gives_then (λ n. Unit {0}) Stands (component_named types kind) _ (anything _) (λ n v. refl))
command_holds types all seen (added_to {on = on} {kind = kind} {values = values} is are) =
    gives_then (λ y. Unit {0}) Stands (target_meant (job_scope types all seen) on) _ (anything _)
    (λ y u. gives_then (λ z. addition_stands c.Job z ≡ true) Stands (filled_meant (job_scope types all seen) kind values) _ (filled_holds types all seen kind are) (λ z h. h))
command_holds types all seen (set_to {on = on} {kind = kind} {values = values} is are) =
    gives_then (λ y. Unit {0}) Stands (target_meant (job_scope types all seen) on) _ (anything _)
    (λ y u. gives_then (λ z. addition_stands c.Job z ≡ true) Stands (filled_meant (job_scope types all seen) kind values) _ (filled_holds types all seen kind are) (λ z h. h))

record OrdersOk (count : ℕ) (ys : List Order) : Type 0 where
  stand : list_all order_stands ys ≡ true
  few_are : count ≤ 8 → count + length ys ≤ 8

below_8 : (n : ℕ) → not (nat_le 8 n) ≡ true → n < 8
below_8 n h = grind (arith, nat_tests)

commands_hold : (types : Types) (all : List ℕ) (count : ℕ) (seen : List Visible) {i j : Input} {xs : List Command} → EndCommands i xs j → Gives (OrdersOk count) (commands_meant types all xs count seen)
commands_hold types all count seen no_command = record { stand = refl; few_are = λ less. omega (arith, less) }
commands_hold types all count seen (one_command {x = x} {more = more} is are) =
    if_only (OrdersOk count) (not (nat_le 8 count)) _
    (λ low. gives_then Stands (OrdersOk count) (command_meant (job_scope types all seen) x) _ (command_holds types all seen is)
    (λ y h. gives_then (OrdersOk (count + 1)) (OrdersOk count) (commands_meant types all more (count + 1) (behind_command x seen)) _ (commands_hold types all (count + 1) (behind_command x seen) are)
    (λ ys hs. record {
      stand = both_true (order_stands y) (list_all order_stands ys) h hs.stand;
      few_are = λ less. let room = below_8 count low in let rest = hs.few_are (omega (arith, room)) in omega (arith, rest);
    })))

few_orders : (ys : List Order) → OrdersOk 0 ys → nat_le (length ys) 8 ≡ true
few_orders ys ok = let few = ok.few_are (omega arith) in grind (arith, nat_tests)

pub job_holding : (types : Types) (tree : JobTree) (plan : JobPlan) {i : Input} → IsJob i tree → job_meant types tree ≡ Some plan → job_holds plan ≡ true
unfolding job_meant
job_holding types tree plan (a_job {asked = asks} {key = key} {list = list} is value are) e =
    given (λ x. job_holds x ≡ true) _ plan e
    (gives_then (λ q. Unit {0}) (λ x. job_holds x ≡ true) (query_meant types asks) _ (anything (query_meant types asks))
    (λ q u. gives_then (λ y. term_stands c.Job y ≡ true) (λ x. job_holds x ≡ true) (fitted_meant (job_scope types q.all []) (Some shape.Int) key) _ (key_holds (job_scope types q.all []) (Some shape.Int) value)
    (λ y h. gives_then (OrdersOk 0) (λ x. job_holds x ≡ true) (commands_meant types q.all list 0 []) _ (commands_hold types q.all 0 [] are)
    (λ ys hs. both_true (term_stands c.Job y) _ h (both_true (list_all order_stands ys) (nat_le (length ys) 8) hs.stand (few_orders ys hs))))))

itself : {A : Type 0} (m : Option A) → Gives (λ a. m ≡ Some a) m
itself None = tt
itself (Some a) = refl

pub query_of : (types : Types) (tree : JobTree) (plan : JobPlan) → job_meant types tree ≡ Some plan → query_meant types tree.query ≡ Some plan.query
unfolding job_meant
query_of types tree plan e =
    given (λ x. query_meant types tree.query ≡ Some x.query) _ plan e
    (gives_then (λ q. query_meant types tree.query ≡ Some q) (λ x. query_meant types tree.query ≡ Some x.query) (query_meant types tree.query) _ (itself (query_meant types tree.query))
    (λ q is. gives_then (λ y. Unit {0}) (λ x. query_meant types tree.query ≡ Some x.query) (fitted_meant (job_scope types q.all []) (Some shape.Int) tree.key) _ (anything _)
    (λ y u. gives_then (λ ys. Unit {0}) (λ x. query_meant types tree.query ≡ Some x.query) (commands_meant types q.all tree.commands 0 []) _ (anything _) (λ ys v. is))))
