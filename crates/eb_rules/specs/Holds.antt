-- What holds of the resolved trees of every accepted text, whatever the schema: reads stand where they may, an entity of a run
-- gets at most 32 different types, and each rule stands at its number.
use Rattle.std.specs.Prelude.{ℕ, ◌+◌, ◌==◌, ◌&&◌, nat_le, nat_lt, Bool, true, false, List, [], ◌∷◌, ◌++◌, length, map, Option, Some, None}
use Rattle.std.specs.List.{list_all}
use Rattle.eb_rule_text.specs.declared.trees.{Context.Context, Link.Link}
use Rattle.eb_rule_text.specs.declared.trees.Context.TheVariants as c
use Rattle.eb_rules.specs.declared.plans.{Addition.Addition, BakerPlan.BakerPlan, FindTerm.FindTerm, JobPlan.JobPlan, Order.Order, ReadTerm.ReadTerm}
use Rattle.eb_rules.specs.declared.plans.{RulesPlan.RulesPlan, Step.Step, Step.TheOpen.Step-F, Step.TheFolds.fold-Step, SystemPlan.SystemPlan, Term.Term}
use Rattle.eb_rules.specs.declared.plans.{Term.TheOpen.Term-F, Term.TheFolds.fold-Term}
use Rattle.eb_rules.specs.declared.plans.FindTerm.TheVariants as found
use Rattle.eb_rules.specs.declared.plans.Order.TheVariants as an_order
use Rattle.eb_rules.specs.declared.plans.ReadTerm.TheVariants as value
use Rattle.eb_rules.specs.Statements.{noted}

-- ---- reads

abbrev pub find_stands : Context → FindTerm → Bool
find_stands c.Baker (found.Own x) = true
find_stands c.Baker (found.Parent x) = true
find_stands c.Baker (found.Asset a x) = true
find_stands c.Baker (found.Min over x) = true
find_stands c.Baker (found.Max over x) = true
find_stands c.System (found.At link x) = true
find_stands c.System (found.MaxAll x) = true
find_stands c.Job (found.At link x) = true
find_stands _ _ = false

abbrev pub read_stands : Context → ReadTerm → Bool
read_stands c.Baker (value.This x) = true
read_stands c.Baker (value.Sum over x) = true
read_stands c.Baker (value.Count over kind) = true
read_stands c.Baker value.Entity = true
read_stands c.Baker (value.EntityAt x) = true
read_stands c.System (value.Field x) = true
read_stands c.System (value.SumAll x) = true
read_stands c.System (value.CountAll kind) = true
read_stands c.System value.Entity = true
read_stands c.Job (value.Field x) = true
read_stands c.Job value.Entity = true
read_stands _ _ = false

abbrev pub term_step : Context → Term-F Bool → Bool
term_step context (Term-F.Int n) = true
term_step context (Term-F.Fix n) = true
term_step context Term-F.True = true
term_step context Term-F.False = true
term_step context Term-F.Null = true
term_step context (Term-F.Name at) = true
term_step context (Term-F.ToFix x) = x
term_step context (Term-F.ToInt x) = x
term_step context (Term-F.Read x) = read_stands context x
term_step context (Term-F.Find finds x) = list_all (find_stands context) finds && x
term_step context (Term-F.Negate x) = x
term_step context (Term-F.Not x) = x
term_step context (Term-F.Chain first more) = first && list_all (λ x. x.right) more

-- each read of a term is one of those of a baker, a system or a job
unfoldable pub term_stands : Context → Term → Bool
term_stands context = fold-Term Bool (term_step context)

abbrev pub link_stands : Context → Link Term → Link Bool
link_stands context x = record { op = x.op; right = term_stands context x.right }

abbrev pub addition_stands : Context → Addition → Bool
addition_stands context x = list_all (λ y. term_stands context y.value) x.values

-- ---- types of an entity

-- these types behind those before, each once
abbrev pub all_noted : List ℕ → List ℕ → List ℕ
all_noted [] types = types
all_noted (n ∷ ns) types = all_noted ns (noted n types)

-- at most 32 different types
abbrev pub few : List ℕ → Bool
few kinds = nat_le (length (all_noted kinds [])) 32

abbrev pub kinds : List Addition → List ℕ
kinds = map (λ x. x.kind)

abbrev pub joined : List (List ℕ) → List ℕ
joined [] = []
joined (xs ∷ more) = xs ++ joined more

abbrev pub added_step : Step-F (List ℕ) → List ℕ
added_step (Step-F.Let x) = []
added_step (Step-F.Add x) = x.kind ∷ []
added_step (Step-F.Extra number adds) = []
added_step (Step-F.If test body other) = joined body ++ joined other

-- the types that a statement may add to the own entity
unfoldable pub added_kinds : Step → List ℕ
added_kinds = fold-Step (List ℕ) added_step

-- ---- statements

-- extras have at most 32 types where bakers stand
abbrev pub step_step : Context → Step-F Bool → Bool
step_step context (Step-F.Let x) = term_stands context x
step_step context (Step-F.Add x) = addition_stands context x
step_step context (Step-F.Extra number adds) = nat_lt number 16 && (few (kinds adds) && list_all (addition_stands context) adds)
step_step context (Step-F.If test body other) = term_stands context test && (list_all (λ x. x) body && list_all (λ x. x) other)

unfoldable pub step_stands : Context → Step → Bool
step_stands context = fold-Step Bool (step_step context)

abbrev pub all_stand : Context → List Step → Bool
all_stand context steps = list_all (λ x. x) (map (step_stands context) steps)

-- ---- rules

abbrev pub baker_holds : BakerPlan → Bool
baker_holds x = all_stand c.Baker x.body && few (joined (map added_kinds x.body))

-- what stands at each number, from this one on, holds there
abbrev pub slots_hold : {A : Type 0} → (ℕ → A → Bool) → ℕ → List (Option A) → Bool
slots_hold test n [] = true
slots_hold test n (None ∷ xs) = slots_hold test (n + 1) xs
slots_hold test n (Some x ∷ xs) = test n x && slots_hold test (n + 1) xs

abbrev pub baker_at : ℕ → BakerPlan → Bool
baker_at n x = x.number == n && baker_holds x

abbrev pub system_at : ℕ → SystemPlan → Bool
system_at n x = x.number == n && all_stand c.System x.body

-- bakers at their numbers 1 to 64, and systems at theirs, 1 to 32
abbrev pub rules_hold : RulesPlan → Bool
rules_hold x = (length x.bakers == 64 && slots_hold baker_at 1 x.bakers) && (length x.systems == 32 && slots_hold system_at 1 x.systems)

-- ---- jobs

abbrev pub order_stands : Order → Bool
order_stands an_order.Create = true
order_stands (an_order.Destroy on) = true
order_stands (an_order.Remove on kind) = true
order_stands (an_order.Add on x) = addition_stands c.Job x
order_stands (an_order.Set on x) = addition_stands c.Job x

abbrev pub job_holds : JobPlan → Bool
job_holds x = term_stands c.Job x.key && (list_all order_stands x.orders && nat_le (length x.orders) 8)
