-- Walks over jobs follow their tokens.
use Rattle.std.proofs.Common.{◌≡◌, ℕ, ◌+◌, not, List, [], ◌∷◌, ◌++◌, drop, Some, refl, ap, append-nil}
use Rattle.std.specs.Prelude.{nat_le}
use Rattle.eb_rule_text.specs.declared.lexemes.Lexeme.TheVariants as l
use Rattle.eb_rule_text.specs.declared.marks.Mark.TheVariants as m
use Rattle.eb_rule_text.specs.declared.trees.Init.{Init}
use Rattle.eb_rule_text.specs.declared.trees.Target.{Target}
use Rattle.eb_rule_text.specs.declared.trees.Target.TheVariants as a_target
use Rattle.eb_rule_text.specs.declared.trees.Command.{Command}
use Rattle.eb_rule_text.specs.declared.trees.JobTree.{JobTree}
use Rattle.eb_rule_text.specs.Input.{Input}
use Rattle.eb_rule_text.specs.Grammar.{AreInits, IsTarget, at_this, at_name, at_link, IsCommand, created, destroyed, removed, added_to, set_to, EndCommands, no_command, one_command, IsJob, a_job}
use Rattle.eb_schema.specs.Schemas.{Types, component_named}
use Rattle.eb_rules.specs.declared.faults.RuleKind.TheVariants.{UnknownName, TypeFault, TooMany, NameTaken}
use Rattle.eb_rules.specs.declared.plans.Order.{Order}
use Rattle.eb_rules.specs.declared.scopes.Visible.{Visible}
use Rattle.eb_rules.specs.declared.shapes.Shape.TheVariants as shape
use Rattle.eb_rules.specs.Shapes.{is_ref}
use Rattle.eb_rules.specs.Scopes.{Text, Where, bound_of, as_entity}
use Rattle.eb_rules.specs.Typing.{Places, required, tested, visible}
use Rattle.eb_rules.specs.Statements.{fitted, values_typed, is_free}
use Rattle.eb_rules.specs.Queries.{query_typed}
use Rattle.eb_rule_text.specs.Spelled.{target_then}
use Rattle.eb_rule_text.specs.Counts.{target_tokens}
use Rattle.eb_rules.specs.Jobs.{aim_walk, target_typed, filled, command_typed, job_scope, behind_command, commands_typed, job_typed}
use Rattle.eb_rules.specs.Meanings.{only, asked_at, fitted_meant, values_meant, query_meant, target_meant, filled_meant, command_meant, commands_meant, job_meant, and_some}
use Rattle.eb_rules.specs.Following.{Passed, Means, unknown_name, wrong_name, wrong_target, taken_name, last_command, Follows, Tests}
use Rattle.eb_rules.proofs.Follow.{none_passed, passed_then, shifted, onward, test_then, tests_then, tests_behind, ended, onto, onto_empty, onto_one, at_meaning, then_list, test_list, required_tests, tested_tests}
use Rattle.eb_rules.proofs.FollowReads.{front_passed, asked_tests, visible_tests}
use Rattle.eb_rules.proofs.FollowStmts.{fitted_follows, values_follow}
use Rattle.eb_rules.proofs.FollowTexts.{query_follows}

-- ---- targets

aim_tests : (w : Where) (x : Target) (j : Input) (p : Places) → Means TypeFault (target_then x j) → Tests (aim_walk w x p) (target_meant w x) (target_then x j) p
aim_tests w a_target.This j p means = refl
aim_tests w (a_target.Name x) j p means = tests_then (visible as_entity w x p) _ (and_some (bound_of x w.known) as_entity) _ _ p (visible_tests as_entity w x 0 (l.Name x ∷ j) p unknown_name wrong_name) (λ k. refl)
aim_tests w (a_target.At x) j p means =
    tests_then _ _ (asked_at w x) _ _ p (asked_tests w x 4 6 (target_then (a_target.At x) j) p unknown_name wrong_name unknown_name)
    (λ y. tests_then (tested TypeFault (is_ref y.field.kind) p) _ (only (is_ref y.field.kind)) _ _ p (tested_tests TypeFault (is_ref y.field.kind) 0 (target_then (a_target.At x) j) p means) (λ u. refl))

target_passed : (x : Target) (j : Input) (p : Places) → Passed (target_then x j) j p (drop (target_tokens x) p)
target_passed a_target.This j p = front_passed (target_then a_target.This []) j p
target_passed (a_target.Name x) j p = front_passed (target_then (a_target.Name x) []) j p
target_passed (a_target.At x) j p = front_passed (target_then (a_target.At x) []) j p

spelled : {d : ℕ} {i j : Input} {x : Target} → IsTarget d i x j → i ≡ target_then x j
spelled at_this = refl
spelled at_name = refl
spelled at_link = refl

target_at : (w : Where) (x : Target) (i j : Input) (p : Places) → i ≡ target_then x j → Means TypeFault i → Follows (target_typed w x p) (target_meant w x) i j p
target_at w x i j p e means = rw e (ended (aim_walk w x p) (target_meant w x) (target_then x j) j p (drop (target_tokens x) p) (target_passed x j p) (aim_tests w x j p (rw (← e) means)))

target_follows : (w : Where) {d : ℕ} {i j : Input} {x : Target} → IsTarget d i x j → (p : Places) → Follows (target_typed w x p) (target_meant w x) i j p
target_follows w {i = i} {j = j} {x = x} is p = target_at w x i j p (spelled is) (wrong_target is)

-- ---- commands

filled_follows : (w : Where) {d : ℕ} (kind : Text) {i j : Input} {inits : List Init} → AreInits w.context d i inits j → (p : Places) → Follows (filled w kind inits p) (filled_meant w kind inits) (l.Name kind ∷ i) j p
filled_follows w kind {i = i} {j = j} {inits = inits} are p =
    test_then (required UnknownName (component_named w.types kind) p) _ (component_named w.types kind) _ (l.Name kind ∷ i) j p (required_tests UnknownName (component_named w.types kind) 0 (l.Name kind ∷ i) p unknown_name)
    (λ n. shifted (values_typed w n inits (drop 1 p)) (values_meant w n inits) _ (front_passed (l.Name kind ∷ []) i p) (values_follow w n are (drop 1 p)))

command_follows : (types : Types) (all : List ℕ) (seen : List Visible) {d : ℕ} {i j : Input} {x : Command} → IsCommand d i x j → (p : Places)
    → Follows (command_typed (job_scope types all seen) x p) (command_meant (job_scope types all seen) x) i j p
command_follows types all seen (created {x = x} {j = j}) p =
    test_then (tested NameTaken (is_free x seen) (drop 1 p)) _ (only (is_free x seen)) _ (l.Mark m.Create ∷ l.Name x ∷ j) j p (tested_tests NameTaken (is_free x seen) 1 (l.Mark m.Create ∷ l.Name x ∷ j) p taken_name) (λ u. (refl, front_passed (l.Mark m.Create ∷ l.Name x ∷ []) j p))
command_follows types all seen (destroyed {on = on} {i = i} {j = j} is) p =
    onward (target_typed (job_scope types all seen) on (drop 1 p)) _ (target_meant (job_scope types all seen) on) _ (l.Mark m.Destroy ∷ i) j j p
    (shifted _ _ _ (front_passed (l.Mark m.Destroy ∷ []) i p) (target_follows (job_scope types all seen) is (drop 1 p))) (λ y q pass. (refl, pass))
command_follows types all seen (removed {on = on} {kind = kind} {i = i} {j = j} is) p =
    onward (target_typed (job_scope types all seen) on (drop 1 p)) _ (target_meant (job_scope types all seen) on) _ (l.Mark m.Remove ∷ i) (l.Name kind ∷ j) j p
    (shifted _ _ _ (front_passed (l.Mark m.Remove ∷ []) i p) (target_follows (job_scope types all seen) is (drop 1 p)))
    (λ y q pass. test_then (required UnknownName (component_named types kind) q) _ (component_named types kind) _ (l.Mark m.Remove ∷ i) j p
    (tests_behind _ _ pass (required_tests UnknownName (component_named types kind) 0 (l.Name kind ∷ j) q unknown_name)) (λ n. (refl, passed_then pass (front_passed (l.Name kind ∷ []) j q))))
command_follows types all seen (added_to {on = on} {kind = kind} {values = values} {i = i} {k = k} {j = j} is are) p =
    onward (target_typed (job_scope types all seen) on (drop 1 p)) _ (target_meant (job_scope types all seen) on) _ (l.Mark m.Add ∷ i) (l.Name kind ∷ k) j p
    (shifted _ _ _ (front_passed (l.Mark m.Add ∷ []) i p) (target_follows (job_scope types all seen) is (drop 1 p)))
    (λ y q pass. onward (filled (job_scope types all seen) kind values q) _ (filled_meant (job_scope types all seen) kind values) _ (l.Mark m.Add ∷ i) j j p
    (shifted _ _ _ pass (filled_follows (job_scope types all seen) kind are q)) (λ z r passed. (refl, passed)))
command_follows types all seen (set_to {on = on} {kind = kind} {values = values} {i = i} {k = k} {j = j} is are) p =
    onward (target_typed (job_scope types all seen) on (drop 1 p)) _ (target_meant (job_scope types all seen) on) _ (l.Mark m.Set ∷ i) (l.Name kind ∷ k) j p
    (shifted _ _ _ (front_passed (l.Mark m.Set ∷ []) i p) (target_follows (job_scope types all seen) is (drop 1 p)))
    (λ y q pass. onward (filled (job_scope types all seen) kind values q) _ (filled_meant (job_scope types all seen) kind values) _ (l.Mark m.Set ∷ i) j j p
    (shifted _ _ _ pass (filled_follows (job_scope types all seen) kind are q)) (λ z r passed. (refl, passed)))

commands_follow : (types : Types) (all : List ℕ) {i j : Input} {xs : List Command} → EndCommands i xs j → (count : ℕ) (seen : List Visible) (done : List Order) (p : Places)
    → Follows (commands_typed types all xs count seen done p) (onto done (commands_meant types all xs count seen)) i (l.Mark m.RBrace ∷ j) p
commands_follow types all (no_command {j = j}) count seen done p = (ap Some (append-nil done), none_passed (l.Mark m.RBrace ∷ j) p)
commands_follow types all (one_command {i = i} {k = k} {j = j} {x = x} {more = more} is are) count seen done p =
    test_list done (tested TooMany (not (nat_le 8 count)) p) _ (only (not (nat_le 8 count))) _ i (l.Mark m.RBrace ∷ j) p (tested_tests TooMany (not (nat_le 8 count)) 0 i p (last_command is))
    (λ u. then_list done (command_typed (job_scope types all seen) x p) _ (command_meant (job_scope types all seen) x) _ i k (l.Mark m.RBrace ∷ j) p (command_follows types all seen is p)
    (λ y q pass. at_meaning _ _ _ _ _ _ (onto_one done y (commands_meant types all more (count + 1) (behind_command x seen))) (shifted _ _ _ pass (commands_follow types all are (count + 1) (behind_command x seen) (done ++ y ∷ []) q))))

-- ---- whole jobs

pub job_follows : (types : Types) {i : Input} {x : JobTree} → IsJob i x → (p : Places) → Follows (job_typed types x p) (job_meant types x) i [] p
unfolding job_meant
job_follows types (a_job {i = i} {k = k} {n = n} {asked = asks} {key = key} {list = list} is value are) p =
    onward (query_typed types asks (drop 1 p)) _ (query_meant types asks) _ (l.Mark m.Job ∷ i) (l.Mark m.Key ∷ k) [] p (shifted _ _ _ (front_passed (l.Mark m.Job ∷ []) i p) (query_follows types is (drop 1 p)))
    (λ q r pass. onward (fitted (job_scope types q.all []) (Some shape.Int) key (drop 1 r)) _ (fitted_meant (job_scope types q.all []) (Some shape.Int) key) _ (l.Mark m.Job ∷ i) (l.Mark m.LBrace ∷ n) [] p
    (shifted _ _ _ (passed_then pass (front_passed (l.Mark m.Key ∷ []) k r)) (fitted_follows (job_scope types q.all []) (Some shape.Int) value (drop 1 r)))
    (λ y t passed. onward (commands_typed types q.all list 0 [] [] (drop 1 t)) _ (commands_meant types q.all list 0 []) _ (l.Mark m.Job ∷ i) (l.Mark m.RBrace ∷ []) [] p
    (shifted _ _ _ (passed_then passed (front_passed (l.Mark m.LBrace ∷ []) n t)) (at_meaning _ _ _ _ _ _ (onto_empty _) (commands_follow types q.all are 0 [] [] (drop 1 t))))
    (λ z v last. (refl, passed_then last (front_passed (l.Mark m.RBrace ∷ []) [] v)))))
