-- Which fields the statements of a system ask a total of.
use Rattle.std.specs.Prelude.{ℕ, List, [], ◌∷◌, ◌++◌, map, flat_map}
use Rattle.eb_rule_text.specs.declared.trees.Link.{Link}
use Rattle.eb_rules.specs.declared.plans.Addition.{Addition}
use Rattle.eb_rules.specs.declared.plans.ComponentField.{ComponentField}
use Rattle.eb_rules.specs.declared.plans.FindTerm.{FindTerm}
use Rattle.eb_rules.specs.declared.plans.FindTerm.TheVariants as find
use Rattle.eb_rules.specs.declared.plans.ReadTerm.{ReadTerm}
use Rattle.eb_rules.specs.declared.plans.ReadTerm.TheVariants as read
use Rattle.eb_rules.specs.declared.plans.Step.{Step}
use Rattle.eb_rules.specs.declared.plans.Step.TheOpen.{Step-F}
use Rattle.eb_rules.specs.declared.plans.Step.TheFolds.{fold-Step}
use Rattle.eb_rules.specs.declared.plans.Term.{Term}
use Rattle.eb_rules.specs.declared.plans.Term.TheOpen.{Term-F}
use Rattle.eb_rules.specs.declared.plans.Term.TheFolds.{fold-Term}
use Rattle.eb_system.specs.declared.wanted.Summed.{Summed}

abbrev pub summed : ℕ → ℕ → Summed
summed kind place = record { kind = kind; place = place }

abbrev pub of_field : ComponentField → List Summed
of_field x = summed x.kind x.field.place ∷ []

-- a count goes by the first field, whatever it holds
abbrev pub of_read : ReadTerm → List Summed
of_read (read.SumAll x) = of_field x
of_read (read.CountAll kind) = summed kind 0 ∷ []
of_read x = []

abbrev pub of_find : FindTerm → List Summed
of_find (find.MaxAll x) = of_field x
of_find x = []

abbrev pub term_step : Term-F (List Summed) → List Summed
term_step (Term-F.Int n) = []
term_step (Term-F.Fix n) = []
term_step Term-F.True = []
term_step Term-F.False = []
term_step Term-F.Null = []
term_step (Term-F.Name at) = []
term_step (Term-F.ToFix x) = x
term_step (Term-F.ToInt x) = x
term_step (Term-F.Read x) = of_read x
term_step (Term-F.Find finds x) = flat_map of_find finds ++ x
term_step (Term-F.Negate x) = x
term_step (Term-F.Not x) = x
term_step (Term-F.Chain first more) = first ++ flat_map (λ x. x.right) more

-- the totals that an expression asks after, in the order of the text
unfoldable pub term_wants : Term → List Summed
term_wants = fold-Term (List Summed) term_step

-- an operator, and the totals that its right operand asks after
abbrev pub link_wants : Link Term → Link (List Summed)
link_wants x = record { op = x.op; right = term_wants x.right }

abbrev pub links_wants : List (Link Term) → List Summed
links_wants links = flat_map (λ x. x.right) (map link_wants links)

abbrev pub addition_wants : Addition → List Summed
addition_wants x = flat_map (λ y. term_wants y.value) x.values

abbrev pub joined : List (List Summed) → List Summed
joined xs = flat_map (λ x. x) xs

abbrev pub step_step : Step-F (List Summed) → List Summed
step_step (Step-F.Let x) = term_wants x
step_step (Step-F.Add x) = addition_wants x
step_step (Step-F.Extra number adds) = flat_map addition_wants adds
step_step (Step-F.If test body other) = term_wants test ++ (joined body ++ joined other)

unfoldable pub step_wants : Step → List Summed
step_wants = fold-Step (List Summed) step_step

-- the totals that statements ask after
abbrev pub body_wants : List Step → List Summed
body_wants body = joined (map step_wants body)
