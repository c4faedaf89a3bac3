-- Walks over queries and rules follow their tokens.
use Rattle.std.proofs.Common.{◌≡◌, ℕ, ℤ, ◌+◌, not, List, [], ◌∷◌, ◌++◌, map, drop, length, Option, Some, refl, ap, ◌∙◌, arith, append-nil}
use Rattle.std.specs.Prelude.{nat_le}
use Rattle.eb_rule_text.specs.declared.lexemes.Lexeme.TheVariants as l
use Rattle.eb_rule_text.specs.declared.marks.Mark.{Mark}
use Rattle.eb_rule_text.specs.declared.marks.Mark.TheVariants as m
use Rattle.eb_rule_text.specs.declared.trees.Query.{Query}
use Rattle.eb_rule_text.specs.declared.trees.Rule.{Rule}
use Rattle.eb_rule_text.specs.Input.{Input}
use Rattle.eb_rule_text.specs.Blocks.{baker_of, system_of}
use Rattle.eb_rule_text.specs.Grammar.{AreNames, no_name, one_name, IsList, unwritten, written, IsQuery, queried, IsRule, a_baker, a_system, AreRules, no_rule, one_rule}
use Rattle.eb_schema.specs.Schemas.{Types, component_named, authoring_named}
use Rattle.eb_rules.specs.declared.faults.RuleKind.TheVariants.{UnknownName, NameTaken, TooMany}
use Rattle.eb_rules.specs.declared.plans.RulesPlan.{RulesPlan}
use Rattle.eb_rules.specs.Scopes.{Text}
use Rattle.eb_rules.specs.Typing.{Places, required, tested}
use Rattle.eb_rules.specs.Statements.{inside, walked}
use Rattle.eb_rules.specs.Queries.{name_typed, names_from, list_typed, clashes, query_typed, small, is_used, number_typed, first_state, baker_ground, system_ground, baker_typed, system_typed, rule_typed, rules_typed}
use Rattle.eb_rules.specs.Meanings.{only, block_meant, stmt_meant, type_meant, names_meant, query_meant, number_meant, baker_meant, system_meant, rule_meant, rules_meant}
use Rattle.eb_rules.specs.Following.{Means, unknown_name, last_name, taken_number, wide_number, clashing, Follows, Tests}
use Rattle.eb_rules.proofs.Follow.{none_passed, shifted, onward, test_then, tests_then, onto, onto_empty, onto_one, at_meaning, test_list, required_tests, tested_tests}
use Rattle.eb_rules.proofs.FollowReads.{front_passed}
use Rattle.eb_rules.proofs.FollowStmts.{body_follows}

-- ---- queries

type_tests : (types : Types) (before : ℕ) (x : Text) (n : ℕ) (i : Input) (p : Places) → Means UnknownName (drop n i) → Means TooMany (drop n i) → Tests (name_typed types before x (drop n p)) (type_meant types before x) i p
type_tests types before x n i p unknown many =
    tests_then (required UnknownName (component_named types x) (drop n p)) _ (component_named types x) _ i p (required_tests UnknownName (component_named types x) n i p unknown)
    (λ k. tests_then (tested TooMany (not (nat_le 32 before)) (drop n p)) _ (only (not (nat_le 32 before))) _ i p (tested_tests TooMany (not (nat_le 32 before)) n i p many) (λ u. refl))

one_longer : (done : List ℕ) (n : ℕ) → length (done ++ n ∷ []) ≡ length done + 1
one_longer [] n = refl
one_longer (x ∷ done) n = let e = one_longer done n in omega (arith, e)

counted : (before : ℕ) (done : List ℕ) (n : ℕ) → (before + length done) + 1 ≡ before + length (done ++ n ∷ [])
counted before done n = let e = one_longer done n in omega (arith, e)

names_follow : (types : Types) (before : ℕ) {i j : Input} {xs : List Text} → AreNames i xs j → (done : List ℕ) (p : Places) → Follows (names_from types before xs done p) (onto done (names_meant types (before + length done) xs)) i j p
names_follow types before (no_name {i = i}) done p = (ap Some (append-nil done), none_passed i p)
names_follow types before (one_name {i = i} {j = j} {x = x} {more = more} are) done p =
    test_list done (name_typed types (before + length done) x p) _ (type_meant types (before + length done) x) _ (l.Name x ∷ i) j p (type_tests types (before + length done) x 0 (l.Name x ∷ i) p unknown_name last_name)
    (λ n. at_meaning _ _ _ _ _ _ (onto_one done n (names_meant types ((before + length done) + 1) more) ∙ ap (λ k. onto (done ++ n ∷ []) (names_meant types k more)) (counted before done n))
    (shifted _ _ _ (front_passed (l.Name x ∷ []) i p) (names_follow types before are (done ++ n ∷ []) (drop 1 p))))

nothing_done : (before : ℕ) → before ≡ before + 0
nothing_done before = omega arith

list_follows : (types : Types) (before : ℕ) {word : Mark} {i j : Input} {xs : List Text} → IsList word i xs j → (p : Places) → Follows (list_typed types before xs p) (names_meant types before xs) i j p
list_follows types before (unwritten {i = i}) p = (refl, none_passed i p)
list_follows types before (written {word = word} {i = i} {j = j} {x = x} {more = more} are) p =
    shifted (names_from types before (x ∷ more) [] (drop 1 p)) (names_meant types before (x ∷ more)) _ (front_passed (l.Mark word ∷ []) (l.Name x ∷ i) p)
    (at_meaning _ _ _ _ _ _ (onto_empty _ ∙ ap (λ k. onto [] (names_meant types k (x ∷ more))) (nothing_done before)) (names_follow types before (one_name are) [] (drop 1 p)))

pub query_follows : (types : Types) {i j : Input} {x : Query} → IsQuery i x j → (p : Places) → Follows (query_typed types x p) (query_meant types x) i j p
query_follows types (queried {i = i} {k = k} {n = n} {j = j} {all = all} {any = any} {none = none} a b c) p =
    onward (list_typed types 0 all p) _ (names_meant types 0 all) _ i k j p (list_follows types 0 a p)
    (λ ns q pass. onward (list_typed types (length ns) any q) _ (names_meant types (length ns) any) _ i n j p (shifted _ _ _ pass (list_follows types (length ns) b q))
    (λ bs r passed. onward (list_typed types (length ns + length bs) none r) _ (names_meant types (length ns + length bs) none) _ i j j p (shifted _ _ _ passed (list_follows types (length ns + length bs) c r))
    (λ cs t last. test_then (tested TooMany (not (clashes ns bs cs)) p) _ (only (not (clashes ns bs cs))) _ i j p (tested_tests TooMany (not (clashes ns bs cs)) 0 i p (clashing (queried a b c))) (λ u. (refl, last)))))

-- ---- rules

number_tests : {A : Type 0} (most : ℕ) (number : ℤ) (slots : List (Option A)) (n : ℕ) (i : Input) (p : Places) → Means TooMany (drop n i) → Means NameTaken (drop n i) → Tests (number_typed most number slots (drop n p)) (number_meant most number slots) i p
number_tests most number slots n i p wide taken =
    tests_then (required TooMany (small most number) (drop n p)) _ (small most number) _ i p (required_tests TooMany (small most number) n i p wide)
    (λ k. tests_then (tested NameTaken (not (is_used k slots)) (drop n p)) _ (only (not (is_used k slots))) _ i p (tested_tests NameTaken (not (is_used k slots)) n i p taken) (λ u. refl))

rule_follows : (types : Types) (plan : RulesPlan) {i j : Input} {x : Rule} → IsRule i x j → (p : Places) → Follows (rule_typed types plan x p) (rule_meant types plan x) i j p
rule_follows types plan (a_baker {i = i} {j = j} {n = n} {kind = kind} {body = body} are) p =
    let tokens : Input = l.Mark m.Baker ∷ l.Int n ∷ l.Mark m.On ∷ l.Name kind ∷ l.Mark m.LBrace ∷ i in
    test_then (number_typed 64 n plan.bakers (drop 1 p)) _ (number_meant 64 n plan.bakers) _ tokens j p (number_tests 64 n plan.bakers 1 tokens p wide_number taken_number)
    (λ k. onward (baker_typed types k (baker_of n kind body) p) _ (baker_meant types k (baker_of n kind body)) _ tokens j j p
    (test_then (required UnknownName (authoring_named types kind) (drop 3 p)) _ (authoring_named types kind) _ tokens j p (required_tests UnknownName (authoring_named types kind) 3 tokens p unknown_name)
    (λ own. onward (inside (map (walked (baker_ground types own)) body) first_state (drop 4 p)) _ (block_meant (map (stmt_meant (baker_ground types own)) body) first_state) _ tokens j j p
    (shifted _ _ _ (front_passed (l.Mark m.Baker ∷ l.Int n ∷ l.Mark m.On ∷ l.Name kind ∷ []) (l.Mark m.LBrace ∷ i) p) (body_follows (baker_ground types own) refl are first_state (drop 4 p))) (λ y q pass. (refl, pass))))
    (λ y q pass. (refl, pass)))
rule_follows types plan (a_system {i = i} {k = k} {j = j} {n = n} {asked = asked} {body = body} is are) p =
    let tokens : Input = l.Mark m.System ∷ l.Int n ∷ i in
    test_then (number_typed 32 n plan.systems (drop 1 p)) _ (number_meant 32 n plan.systems) _ tokens j p (number_tests 32 n plan.systems 1 tokens p wide_number taken_number)
    (λ o. onward (system_typed types o (system_of n asked body) p) _ (system_meant types o (system_of n asked body)) _ tokens j j p
    (onward (query_typed types asked (drop 2 p)) _ (query_meant types asked) _ tokens (l.Mark m.LBrace ∷ k) j p (shifted _ _ _ (front_passed (l.Mark m.System ∷ l.Int n ∷ []) i p) (query_follows types is (drop 2 p)))
    (λ t q pass. onward (inside (map (walked (system_ground types t.all)) body) first_state q) _ (block_meant (map (stmt_meant (system_ground types t.all)) body) first_state) _ tokens j j p
    (shifted _ _ _ pass (body_follows (system_ground types t.all) refl are first_state q)) (λ y r passed. (refl, passed))))
    (λ y q pass. (refl, pass)))

pub rules_follow : (types : Types) (plan : RulesPlan) {i : Input} {xs : List Rule} → AreRules i xs → (p : Places) → Follows (rules_typed types xs plan p) (rules_meant types xs plan) i [] p
rules_follow types plan no_rule p = (refl, none_passed [] p)
rules_follow types plan (one_rule {i = i} {k = k} {x = x} {more = more} is are) p =
    onward (rule_typed types plan x p) _ (rule_meant types plan x) _ i k [] p (rule_follows types plan is p) (λ y q pass. shifted _ _ _ pass (rules_follow types y are q))
