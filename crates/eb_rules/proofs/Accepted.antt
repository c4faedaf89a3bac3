-- A text is accepted exactly where its tokens are in the grammar and the tree is well typed; and what the answers of the readers say.
use Rattle.std.proofs.Common.{◌≡◌, ◌≤◌, ◌==◌, ◌&&◌, ℕ, Bool, [], length, true, Option, Some, None, Result, Ok, Err, IfOk, MatchResult, refl, sym, ap, ◌∙◌, arith, rules}
use Rattle.eb_rule_text.specs.declared.errors.TextError.{TextError}
use Rattle.eb_rule_text.specs.declared.passes.Placed.{Placed}
use Rattle.eb_rule_text.specs.declared.trees.RulesTree.{RulesTree}
use Rattle.eb_rule_text.specs.declared.trees.JobTree.{JobTree}
use Rattle.eb_rule_text.specs.Input.{Input}
use Rattle.eb_rule_text.specs.Blocks.{rules as rules_reader, job as job_reader}
use Rattle.eb_rule_text.specs.Passes.{read_text, placed, Spells}
use Rattle.eb_rule_text.specs.Printing.{rules_text}
use Rattle.eb_rule_text.specs.Grammar.{IsRules}
use Rattle.eb_rule_text.proofs.ReadsBack.{rules_spelled, rules_read, rules_again, job_spelled, job_read}
use Rattle.eb_schema.specs.Schemas.{Types}
use Rattle.eb_rules.specs.declared.faults.RuleFault.{RuleFault}
use Rattle.eb_rules.specs.declared.faults.RuleFault.TheVariants.{Memory, At}
use Rattle.eb_rules.specs.declared.plans.RulesPlan.{RulesPlan}
use Rattle.eb_rules.specs.declared.plans.JobPlan.{JobPlan}
use Rattle.eb_rules.specs.Scopes.{Text}
use Rattle.eb_rules.specs.Typing.{Places, Walked, and_found}
use Rattle.eb_rules.specs.Queries.{rules_typed, no_rules, meant, rules_of, Tells}
use Rattle.eb_rules.specs.Jobs.{job_typed, job_of}
use Rattle.eb_rules.specs.Meanings.{rules_plan, AreWellTyped, job_meant}
use Rattle.eb_rules.specs.Following.{Follows}
use Rattle.eb_rules.specs.Holds.{rules_hold, job_holds}
use Rattle.eb_rules.specs.Kept.{Kept, KeptJob}
use Rattle.eb_rules.specs.Says.{SaysRules, SaysJob, AreReadAs, IsReadAs}
use Rattle.eb_rules.proofs.FollowTexts.{rules_follow}
use Rattle.eb_rules.proofs.FollowJobs.{job_follows}
use Rattle.std.proofs.lemmas.Bool.Decides.{nat_tests}
use Rattle.eb_rules.proofs.HoldTexts.{left_true, rules_holding, job_holding}

-- ---- walks that follow

answered : {A : Type 0} (r : Walked A) (m : Option A) (i j : Input) (p : Places) (a : A × Places) → Follows r m i j p → r ≡ Ok a → m ≡ Some a.0
answered (Ok b) m i j p a t e = let same : b ≡ a = search rules in t.0 ∙ ap (λ k. Some k.0) same
answered (Err x) m i j p a t e = absurd (search rules)

goes : {A : Type 0} (r : Walked A) (m : Option A) (i j : Input) (p : Places) (y : A) → Follows r m i j p → m ≡ Some y → (q : Places) × (r ≡ Ok (y, q))
goes (Ok a) m i j p y t e = let same : ◌≡◌ {A = Option _} (Some a.0) (Some y) = sym t.0 ∙ e in let is : a.0 ≡ y = search rules in (a.1, ap (λ k. Ok (k, a.1)) is)
goes (Err x) m i j p y t e = let none : ◌≡◌ {A = Option _} None (Some y) = sym t.0 ∙ e in absurd (search rules)

pub plan_follows : (types : Types) (tree : RulesTree) {i : Input} → IsRules i tree → (p : Places) → Follows (rules_typed types tree.rules no_rules p) (rules_plan types tree) i [] p
unfolding rules_plan
plan_follows types tree is p = rules_follow types no_rules is p

-- ---- texts of rules

record Meant {A B : Type 0} (walk : Walked B) (tree t : A) : Type 0 where
  answer : B × Places
  is : walk ≡ Ok answer
  same : tree ≡ t

meant_is : {A B : Type 0} (walk : Walked B) (tree t : A) → and_found walk (λ y. Ok tree) ≡ Ok t → Meant walk tree t
meant_is (Ok a) tree t h = record { answer = a; is = refl; same = search rules }
meant_is (Err x) tree t h = absurd (search rules)

pub rules_plan_is : (types : Types) (text : Text) (tree : RulesTree) (places : Places) (a : RulesPlan × Places) → read_text rules_reader text ≡ Ok (placed tree places) → rules_typed types tree.rules no_rules places ≡ Ok a → rules_plan types tree ≡ Some a.0
rules_plan_is types text tree places a e h = let spelled = rules_spelled text tree places e in answered _ (rules_plan types tree) spelled.lexemes [] places a (plan_follows types tree spelled.is places) h

pub rules_said : (types : Types) (text : Text) (tree : RulesTree) (places : Places) (a : RulesPlan × Places) → read_text rules_reader text ≡ Ok (placed tree places) → rules_typed types tree.rules no_rules places ≡ Ok a → SaysRules types text tree
rules_said types text tree places a e h = record { places = places; grammar = rules_spelled text tree places e; typed = (a.0, rules_plan_is types text tree places a e h) }

rules_where : (types : Types) (text : Text) (r : Result (Placed RulesTree) TextError) (t : RulesTree) → read_text rules_reader text ≡ r → meant (λ x p. rules_typed types x.rules no_rules p) r ≡ Ok t → SaysRules types text t
rules_where types text (Ok k) t e h =
    let a = meant_is (rules_typed types k.tree.rules no_rules k.places) k.tree t h in rw (← a.same) (rules_said types text k.tree k.places a.answer e a.is)
rules_where types text (Err x) t e h = absurd (search rules)

pub rules_says : (types : Types) (text : Text) (t : RulesTree) → rules_of types text ≡ Ok t → SaysRules types text t
unfolding rules_of
rules_says types text t h = rules_where types text (read_text rules_reader text) t refl h

pub says_rules : (types : Types) (text : Text) (t : RulesTree) → SaysRules types text t → rules_of types text ≡ Ok t
unfolding rules_of
says_rules types text t says =
    let a = goes _ (rules_plan types t) says.grammar.lexemes [] says.places says.typed.0 (plan_follows types t says.grammar.is says.places) says.typed.1 in
    rw (rules_read text t says.places says.grammar, a.1) refl

-- what is printed says the same rules
pub says_again : (types : Types) (text : Text) (t : RulesTree) (places : Places) → Spells IsRules text t places → AreWellTyped types t → SaysRules types (rules_text t) t
says_again types text t places spelled fit =
    let a = rules_again text t places (rules_read text t places spelled) in record { places = a.0; grammar = rules_spelled (rules_text t) t a.0 a.1; typed = fit }

pub printed_says : (text : Text) (tree kept : RulesTree) {over : Types} → (first : Text) × SaysRules over first kept → kept ≡ tree → text ≡ rules_text kept → (types : Types) → AreWellTyped types tree → SaysRules types text tree
printed_says text tree kept said same is types fit = rw (is, same) (says_again types said.0 tree said.1.places (rw (← same) said.1.grammar) fit)

pub rules_say : (types : Types) (text : Text) (r : Result Kept RuleFault) → MatchResult r (λ t. rules_of types text ≡ Ok t.tree) (λ e. Tells (rules_of types text) e) → IfOk r (λ t. SaysRules types text t.tree)
rules_say types text (Ok t) h = rules_says types text t.tree h
rules_say types text (Err e) h = tt

pub rules_accept : (types : Types) (text : Text) (r : Result Kept RuleFault) → MatchResult r (λ t. rules_of types text ≡ Ok t.tree) (λ e. Tells (rules_of types text) e) → (tree : RulesTree) → SaysRules types text tree → AreReadAs r tree
rules_accept types text (Ok t) h tree says = let e = sym h ∙ says_rules types text tree says in search rules
rules_accept types text (Err Memory) h tree says = refl
rules_accept types text (Err (At at kind)) h tree says = let e = sym h.1.0 ∙ says_rules types text tree says in absurd (search rules)

pub rules_hold_read : (types : Types) (text : Text) (r : Result Kept RuleFault) → MatchResult r (λ t. rules_of types text ≡ Ok t.tree) (λ e. Tells (rules_of types text) e)
    → IfOk r (λ t. (plan : RulesPlan) → rules_plan t.schema t.tree ≡ Some plan → rules_hold plan ≡ true)
rules_hold_read types text (Ok t) h = λ plan e. rules_holding t.schema t.tree plan (rules_says types text t.tree h).grammar.is e
rules_hold_read types text (Err x) h = tt

pub rules_hold_kept : (types : Types) (tree : RulesTree) (plan : RulesPlan) → (text : Text) × SaysRules types text tree → rules_plan types tree ≡ Some plan → rules_hold plan ≡ true
rules_hold_kept types tree plan said e = rules_holding types tree plan said.1.grammar.is e

pub typed_kept : {inside k : Kept} → inside ≡ k → AreWellTyped inside.schema inside.tree → AreWellTyped k.schema k.tree
typed_kept same fit = rw (← same) fit

few_where : (n : ℕ) (b : Bool) → ((n == 64) && b) ≡ true → n ≤ 64
few_where n b h = let same = left_true (n == 64) b h in grind (arith, nat_tests)

pub rules_few : (types : Types) (text : Text) (tree : RulesTree) (places : Places) (a : RulesPlan × Places) → read_text rules_reader text ≡ Ok (placed tree places) → rules_typed types tree.rules no_rules places ≡ Ok a → length a.0.bakers ≤ 64
rules_few types text tree places a e h =
    let held = rules_hold_kept types tree a.0 (text, rules_said types text tree places a e h) (rules_plan_is types text tree places a e h) in
    few_where (length a.0.bakers) _ (left_true (length a.0.bakers == 64 && _) _ held)

-- ---- texts of jobs

pub job_plan_is : (types : Types) (text : Text) (tree : JobTree) (places : Places) (a : JobPlan × Places) → read_text job_reader text ≡ Ok (placed tree places) → job_typed types tree places ≡ Ok a → job_meant types tree ≡ Some a.0
job_plan_is types text tree places a e h = let spelled = job_spelled text tree places e in answered _ (job_meant types tree) spelled.lexemes [] places a (job_follows types spelled.is places) h

pub job_said : (types : Types) (text : Text) (tree : JobTree) (places : Places) (a : JobPlan × Places) → read_text job_reader text ≡ Ok (placed tree places) → job_typed types tree places ≡ Ok a → SaysJob types text tree
job_said types text tree places a e h = record { places = places; grammar = job_spelled text tree places e; typed = (a.0, job_plan_is types text tree places a e h) }

job_where : (types : Types) (text : Text) (r : Result (Placed JobTree) TextError) (t : JobTree) → read_text job_reader text ≡ r → meant (job_typed types) r ≡ Ok t → SaysJob types text t
job_where types text (Ok k) t e h = let a = meant_is (job_typed types k.tree k.places) k.tree t h in rw (← a.same) (job_said types text k.tree k.places a.answer e a.is)
job_where types text (Err x) t e h = absurd (search rules)

pub job_says : (types : Types) (text : Text) (t : JobTree) → job_of types text ≡ Ok t → SaysJob types text t
unfolding job_of
job_says types text t h = job_where types text (read_text job_reader text) t refl h

pub says_job : (types : Types) (text : Text) (t : JobTree) → SaysJob types text t → job_of types text ≡ Ok t
unfolding job_of
says_job types text t says =
    let a = goes _ (job_meant types t) says.grammar.lexemes [] says.places says.typed.0 (job_follows types says.grammar.is says.places) says.typed.1 in
    rw (job_read text t says.places says.grammar, a.1) refl

pub job_say : (types : Types) (text : Text) (r : Result KeptJob RuleFault) → MatchResult r (λ t. job_of types text ≡ Ok t.tree) (λ e. Tells (job_of types text) e) → IfOk r (λ t. SaysJob types text t.tree)
job_say types text (Ok t) h = job_says types text t.tree h
job_say types text (Err e) h = tt

pub job_accepts : (types : Types) (text : Text) (r : Result KeptJob RuleFault) → MatchResult r (λ t. job_of types text ≡ Ok t.tree) (λ e. Tells (job_of types text) e) → (tree : JobTree) → SaysJob types text tree → IsReadAs r tree
job_accepts types text (Ok t) h tree says = let e = sym h ∙ says_job types text tree says in search rules
job_accepts types text (Err Memory) h tree says = refl
job_accepts types text (Err (At at kind)) h tree says = let e = sym h.1.0 ∙ says_job types text tree says in absurd (search rules)

pub job_hold_read : (types : Types) (text : Text) (r : Result KeptJob RuleFault) → MatchResult r (λ t. job_of types text ≡ Ok t.tree) (λ e. Tells (job_of types text) e)
    → IfOk r (λ t. (plan : JobPlan) → job_meant t.schema t.tree ≡ Some plan → job_holds plan ≡ true)
job_hold_read types text (Ok t) h = λ plan e. job_holding t.schema t.tree plan (job_says types text t.tree h).grammar.is e
job_hold_read types text (Err x) h = tt

pub job_hold_kept : (types : Types) (tree : JobTree) (plan : JobPlan) → (text : Text) × SaysJob types text tree → job_meant types tree ≡ Some plan → job_holds plan ≡ true
job_hold_kept types tree plan said e = job_holding types tree plan said.1.grammar.is e
