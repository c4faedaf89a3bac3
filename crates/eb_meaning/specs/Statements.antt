-- What statements mean: on what they have come to so far, a calculation that gives what they come to.
use Rattle.std.specs.Prelude.{ℕ, Bool, true, false, List, [], ◌∷◌, ◌++◌, length, map, take, Result, Ok, Err}
use Rattle.eb_rules.specs.declared.plans.Addition.{Addition}
use Rattle.eb_rules.specs.declared.plans.Filling.{Filling}
use Rattle.eb_rules.specs.declared.plans.Step.{Step}
use Rattle.eb_rules.specs.declared.plans.Step.TheOpen.{Step-F}
use Rattle.eb_rules.specs.declared.plans.Step.TheFolds.{fold-Step}
use Rattle.eb_rules.specs.declared.plans.Term.{Term}
use Rattle.eb_schema.specs.declared.rows.Cell.{Cell}
use Rattle.eb_schema.specs.declared.rows.Val.{Val}
use Rattle.eb_meaning.specs.Asks.{Asks, Form, AVal, ACell, AnEnd, Many, Of, End, Through, Broken, Sight, done, tried, bind, lift}
use Rattle.eb_meaning.specs.Fields.{tested}
use Rattle.eb_meaning.specs.Meaning.{meaning}
use Rattle.eb_meaning.specs.Operators.{truth}
use Rattle.eb_meaning.specs.declared.scopes.Extra.{Extra}
use Rattle.eb_meaning.specs.declared.scopes.Scope.{Scope}
use Rattle.eb_meaning.specs.declared.values.RunFault.{RunFault}
use Rattle.eb_meaning.specs.declared.values.Value.{Value}

-- ---- additions

-- the value of a field, tested as soon as it is known
abbrev pub field : Sight → List Value → Filling → Asks AVal
field s names x = bind (meaning s x.value names) (λ y. lift (tested x.kind y))

-- the values of all fields, behind those that are done
abbrev pub fields : Sight → List Value → List Filling → List Val → Asks (Many AVal)
fields s names [] so_far = done so_far
fields s names (x ∷ xs) so_far = bind (field s names x) (λ y. fields s names xs (so_far ++ y ∷ []))

abbrev pub cell_of : ℕ → List Val → Cell
cell_of kind values = record { kind = kind; values = values }

-- add T { .. }
abbrev pub cell : Sight → List Value → Addition → Asks ACell
cell s names x = bind (fields s names x.values []) (λ values. done (cell_of x.kind values))

-- additions, behind those that are done
abbrev pub cells : Sight → List Value → List Addition → List Cell → Asks (Many ACell)
cells s names [] so_far = done so_far
cells s names (x ∷ xs) so_far = bind (cell s names x) (λ y. cells s names xs (so_far ++ y ∷ []))

-- ---- what statements come to

abbrev pub Acts : Type 0
Acts = Scope → Asks AnEnd

abbrev pub through : Acts
through scope = done (Through scope)

-- goes on from the end of what stands before, unless that is a fault
abbrev pub unless_broken : Acts → End → Asks AnEnd
unless_broken next (Through scope) = next scope
unless_broken next (Broken scope e) = done (Broken scope e)

abbrev pub went : {A : Type 0} → Result A RunFault → (A → Acts) → Acts
went (Ok a) next scope = next a scope
went (Err e) next scope = done (Broken scope e)

-- goes on with what a calculation gives; at its fault the scope stays as it is
abbrev pub with_given : {g : Form} → Asks g → (Of g → Acts) → Acts
with_given m next scope = bind (tried m) (λ r. went r next scope)

abbrev pub with_name : Scope → Value → Scope
with_name scope x = record { names = scope.names ++ x ∷ []; own = scope.own; extras = scope.extras }

abbrev pub with_cell : Scope → Cell → Scope
with_cell scope x = record { names = scope.names; own = scope.own ++ x ∷ []; extras = scope.extras }

abbrev pub extra_of : ℕ → List Cell → Extra
extra_of number cells = record { number = number; cells = cells }

-- the extra is there, and its name is visible
abbrev pub with_extra : Scope → Value → ℕ → List Cell → Scope
with_extra scope x number cells = record { names = scope.names ++ x ∷ []; own = scope.own; extras = scope.extras ++ extra_of number cells ∷ [] }

-- without the names that came since
abbrev pub shut : Scope → Scope → Scope
shut before scope = record { names = take (length before.names) scope.names; own = scope.own; extras = scope.extras }

-- ---- statements

abbrev pub all_act : List Acts → Acts
all_act [] scope = through scope
all_act (x ∷ xs) scope = bind (x scope) (unless_broken (all_act xs))

-- those of a block, whose names go at its end
abbrev pub block_acts : List Acts → Acts
block_acts body scope = bind (all_act body scope) (unless_broken (λ more. through (shut scope more)))

abbrev pub choice : Bool → Acts → Acts → Acts
choice true a b = a
choice false a b = b

-- let x = e ;
abbrev pub let_acts : Sight → Term → Acts
let_acts s x scope = with_given (meaning s x scope.names) (λ y more. through (with_name more y)) scope

-- add T { .. }
abbrev pub add_acts : Sight → Addition → Acts
add_acts s x scope = with_given (cell s scope.names x) (λ y more. through (with_cell more y)) scope

-- extra x { add .. }
abbrev pub extra_acts : Sight → ℕ → List Addition → Acts
extra_acts s number adds scope = with_given (cells s scope.names adds []) (λ y more. through (with_extra more (s.extra number) number y)) scope

-- if e { .. } else { .. }
abbrev pub if_acts : Sight → Term → List Acts → List Acts → Acts
if_acts s test body other scope = with_given (meaning s test scope.names) (λ y. choice (truth y) (block_acts body) (block_acts other)) scope

abbrev pub acts_step : Sight → Step-F Acts → Acts
acts_step s (Step-F.Let x) = let_acts s x
acts_step s (Step-F.Add x) = add_acts s x
acts_step s (Step-F.Extra number adds) = extra_acts s number adds
acts_step s (Step-F.If test body other) = if_acts s test body other

-- a statement
unfoldable pub acts : Sight → Step → Acts
acts s = fold-Step Acts (acts_step s)

-- the statements of a body
abbrev pub body_acts : Sight → List Step → Acts
body_acts s body = all_act (map (acts s) body)

-- statements in braces
abbrev pub in_braces : Sight → List Step → Acts
in_braces s body = block_acts (map (acts s) body)
