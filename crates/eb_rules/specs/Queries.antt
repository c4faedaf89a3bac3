-- Names of queries, and whole texts of rules.
use Rattle.std.specs.Prelude.{◌≡◌, ℕ, zero, suc, ℤ, pos, negsuc, ◌+◌, ◌-◌, ◌^◌, min, ◌&&◌, ◌||◌, not, nat_le, nat_lt, Bool, if◌then◌else◌, List, [], ◌∷◌, ◌++◌, drop, length, Option, Some, None, Result, Ok, Err, map}
use Rattle.std.specs.{List.list_any, List.slice_set}
use Rattle.eb_rule_text.specs.declared.trees.{Query.Query, Baker.Baker, System.System, Rule.Rule, RulesTree.RulesTree}
use Rattle.eb_rule_text.specs.declared.{errors.TextError.TextError, passes.Placed.Placed}
use Rattle.eb_rule_text.specs.declared.errors.TextError.TheVariants as text
use Rattle.eb_rule_text.specs.declared.trees.Context.TheVariants as c
use Rattle.eb_rule_text.specs.declared.trees.Rule.TheVariants as a_rule
use Rattle.eb_rule_text.specs.{Blocks.rules, Passes.read_text}
use Rattle.eb_schema.specs.Schemas.{Types, component_named, authoring_named}
use Rattle.eb_rules.specs.declared.faults.RuleFault.TheVariants.{Memory, At}
use Rattle.eb_rules.specs.declared.faults.RuleKind.TheVariants.{Token, Syntax, Depth, UnknownName, NameTaken, TooMany}
use Rattle.eb_rules.specs.declared.faults.{Refusal.Refusal, RuleFault.RuleFault}
use Rattle.eb_rules.specs.declared.plans.{Step.Step, BakerPlan.BakerPlan, SystemPlan.SystemPlan, RulesPlan.RulesPlan}
use Rattle.eb_rules.specs.declared.walking.{State.State, WalkError.WalkError}
use Rattle.eb_rules.specs.declared.queries.Query3.{Query3}
use Rattle.eb_rules.specs.declared.walking.WalkError.TheVariants as walk
use Rattle.eb_rules.specs.{Scopes.Text, Scopes.authoring_fields, Scopes.is_in_all, Bakers.at_number}
use Rattle.eb_rules.specs.Typing.{Places, Found, Walked, required, tested, and_found}
use Rattle.eb_rules.specs.Statements.{Fixed, inside, walked, is_known}

-- ---- queries

-- the types so far, and the places behind
abbrev pub Listed : Type 0
Listed = Walked (List ℕ)

-- one name, where so many stand before it in the query: a 33rd is too many
abbrev pub name_typed : Types → ℕ → Text → Places → Found ℕ
name_typed types before x p = and_found (required UnknownName (component_named types x) p) (λ n. and_found (tested TooMany (not (nat_le 32 before)) p) (λ u.
    Ok n))

-- the names of one list
abbrev pub names_from : Types → ℕ → List Text → List ℕ → Places → Listed
names_from types before [] done p = Ok (done, p)
names_from types before (x ∷ xs) done p = and_found (name_typed types (before + length done) x p) (λ n. names_from types before xs (done ++ n ∷ []) (drop 1 p))

-- a list that isn't written has no word
abbrev pub list_typed : Types → ℕ → List Text → Places → Listed
list_typed types before [] p = Ok ([], p)
list_typed types before (x ∷ xs) p = names_from types before (x ∷ xs) [] (drop 1 p)

-- a type that the query both asks for and keeps out
abbrev pub clashes : List ℕ → List ℕ → List ℕ → Bool
clashes all any none = list_any (λ n. is_in_all n all || is_in_all n any) none

abbrev pub query3 : List ℕ → List ℕ → List ℕ → Query3
query3 all any none = record { all = all; any = any; none = none }

-- the names, and then whether a type is kept out that is asked for
abbrev pub query_typed : Types → Query → Places → Walked Query3
query_typed types q p =
    and_found (list_typed types 0 q.all p) (λ a.
    and_found (list_typed types (length a.0) q.any a.1) (λ b.
    and_found (list_typed types (length a.0 + length b.0) q.none b.1) (λ c.
    and_found (tested TooMany (not (clashes a.0 b.0 c.0)) p) (λ u. Ok (query3 a.0 b.0 c.0, c.1)))))

-- ---- rules

-- a number from 1 to the most
abbrev pub small : ℕ → ℤ → Option ℕ
small most (pos n) = if nat_le 1 n && nat_le n most then Some n else None
small most (negsuc n) = None

-- so many numbers, of which none is used
unfoldable pub unused : {A : Type 0} → ℕ → List (Option A)
unused zero = []
unused (suc n) = unused n ++ None ∷ []

abbrev pub is_used : {A : Type 0} → ℕ → List (Option A) → Bool
is_used n slots = is_known (at_number n slots)

abbrev pub put : {A : Type 0} → ℕ → A → List (Option A) → List (Option A)
put n x slots = if nat_lt (n - 1) (length slots) then slice_set slots (n - 1) (Some x) else slots

-- the number of a rule: its range, and whether one before has it
abbrev pub number_typed : {A : Type 0} → ℕ → ℤ → List (Option A) → Places → Found ℕ
number_typed most number slots p = and_found (required TooMany (small most number) p) (λ n. and_found (tested NameTaken (not (is_used n slots)) p) (λ u. Ok n))

abbrev pub first_state : State
first_state = record { known = []; types = []; extras = 0 }

abbrev pub baker_ground : Types → ℕ → Fixed
baker_ground types kind = record { types = types; context = c.Baker; own = authoring_fields types kind; all = [] }

abbrev pub system_ground : Types → List ℕ → Fixed
system_ground types all = record { types = types; context = c.System; own = []; all = all }

abbrev pub baker_plan : ℕ → ℕ → List Step → BakerPlan
baker_plan n kind body = record { number = n; authoring = kind; body = body }

-- a baker behind its number
abbrev pub baker_typed : Types → ℕ → Baker → Places → Walked BakerPlan
baker_typed types n x p =
    and_found (required UnknownName (authoring_named types x.authoring) (drop 3 p)) (λ kind.
    and_found (inside (map (walked (baker_ground types kind)) x.body) first_state (drop 4 p)) (λ y. Ok (baker_plan n kind y.0.0, y.1)))

abbrev pub system_plan : ℕ → Query3 → List Step → SystemPlan
system_plan n query body = record { number = n; query = query; body = body }

-- a system behind its number
abbrev pub system_typed : Types → ℕ → System → Places → Walked SystemPlan
system_typed types n x p =
    and_found (query_typed types x.query (drop 2 p)) (λ q.
    and_found (inside (map (walked (system_ground types q.0.all)) x.body) first_state q.1) (λ y. Ok (system_plan n q.0 y.0.0, y.1)))

abbrev pub with_baker : RulesPlan → BakerPlan → RulesPlan
with_baker plan x = record { bakers = put x.number x plan.bakers; systems = plan.systems }

abbrev pub with_system : RulesPlan → SystemPlan → RulesPlan
with_system plan x = record { bakers = plan.bakers; systems = put x.number x plan.systems }

-- a rule behind others: its number first, then the rest
abbrev pub rule_typed : Types → RulesPlan → Rule → Places → Walked RulesPlan
rule_typed types plan (a_rule.Baker x) p = and_found (number_typed 64 x.number plan.bakers (drop 1 p)) (λ n. and_found (baker_typed types n x p) (λ y.
    Ok (with_baker plan y.0, y.1)))
rule_typed types plan (a_rule.System x) p = and_found (number_typed 32 x.number plan.systems (drop 1 p)) (λ n. and_found (system_typed types n x p) (λ y.
    Ok (with_system plan y.0, y.1)))

abbrev pub rules_typed : Types → List Rule → RulesPlan → Places → Walked RulesPlan
rules_typed types [] plan p = Ok (plan, p)
rules_typed types (x ∷ xs) plan p = and_found (rule_typed types plan x p) (λ y. rules_typed types xs y.0 y.1)

abbrev pub no_rules : RulesPlan
no_rules = record { bakers = unused 64; systems = unused 32 }

-- ---- a whole text

abbrev pub text_refusal : TextError → Refusal
text_refusal text.Memory = record { kind = Token; at = 0 }
text_refusal (text.Token at) = record { kind = Token; at = at }
text_refusal (text.Syntax at) = record { kind = Syntax; at = at }
text_refusal (text.Depth at) = record { kind = Depth; at = at }

-- tokens, then syntax, then meaning
abbrev pub meant : {A B : Type 0} → (A → Places → Walked B) → Result (Placed A) TextError → Found A
meant walk (Ok placed) = and_found (walk placed.tree placed.places) (λ y. Ok placed.tree)
meant walk (Err e) = Err (text_refusal e)

-- the rules that a text says
unfoldable pub rules_of : Types → Text → Found RulesTree
rules_of types text = meant (λ x p. rules_typed types x.rules no_rules p) (read_text rules text)

-- a place as 32 bits have it
abbrev pub capped : ℕ → ℕ
capped n = min n (2 ^ 32 - 1)

-- a refusal as it is told, unless memory fails
abbrev pub Tells : {A : Type 0} → Found A → RuleFault → Type 0
Tells told Memory = Unit {0}
Tells told (At at kind) = (n : ℕ) × ((told ≡ Err (record { kind = kind; at = n })) × (at ≡ capped n))

abbrev pub OfText : TextError → RuleFault → Type 0
OfText text.Memory fault = fault ≡ Memory
OfText (text.Token at) fault = fault ≡ At (capped at) Token
OfText (text.Syntax at) fault = fault ≡ At (capped at) Syntax
OfText (text.Depth at) fault = fault ≡ At (capped at) Depth

abbrev pub OfWalk : WalkError → RuleFault → Type 0
OfWalk walk.Memory fault = fault ≡ Memory
OfWalk (walk.Refused x) fault = fault ≡ At (capped x.at) x.kind
