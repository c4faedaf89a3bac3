-- What a run looks at beside its own object, step by step.
use Rattle.std.specs.Prelude.{◌≡◌, ⊤, ℕ, zero, suc, ℤ, pos, List, [], ◌∷◌, ◌++◌, Option, Some, None, option_map, Bool, false, Result, Ok, Err}
use Rattle.std.specs.List.{slice_get}
use Rattle.eb_schema.specs.declared.kinds.Kind.{Kind}
use Rattle.eb_schema.specs.declared.kinds.Kind.TheVariants as kind
use Rattle.eb_scene.specs.Answers.{Answer, Values, Above, Below, There}
use Rattle.eb_scene.specs.declared.keys.Key.{Key}
use Rattle.eb_scene.specs.declared.keys.Key.TheVariants as key
use Rattle.eb_scene.specs.declared.objects.Given.{Given}
use Rattle.eb_scene.specs.declared.objects.Given.TheVariants as given
use Rattle.eb_rule_text.specs.declared.trees.Reach.{Reach}
use Rattle.eb_rule_text.specs.declared.trees.Reach.TheVariants as reach
use Rattle.eb_rules.specs.declared.plans.AuthoredField.{AuthoredField}
use Rattle.eb_rules.specs.declared.plans.FieldPlace.{FieldPlace}
use Rattle.eb_meaning.specs.Asks.{Asks, Form, ANumber, Many, Found, done, look, bind, Told, Gives, Stops}
use Rattle.eb_meaning.specs.declared.values.Stop.{Stop}
use Rattle.eb_meaning.specs.declared.values.Stop.TheVariants as stop
use Rattle.eb_meaning.specs.declared.values.Value.{Value}
use Rattle.eb_meaning.specs.declared.values.Value.TheVariants as v
use Rattle.eb_eval.specs.declared.walks.Sought.{Sought}

-- ---- what a key answers

abbrev pub values_of : Answer → Option (List Given)
values_of (Values values) = values
values_of a = None

abbrev pub above_of : Answer → Option ℕ
above_of (Above parent) = parent
above_of a = None

abbrev pub below_of : Answer → List ℕ
below_of (Below children) = children
below_of a = []

abbrev pub is_there : Answer → Bool
is_there (There b) = b
is_there a = false

-- ---- fields

-- the number in a field, 0 where it holds none
abbrev pub number_in : Option Given → ℤ
number_in (Some (given.Num z)) = z
number_in value = pos 0

abbrev pub number_at : ℕ → List Given → ℤ
number_at place values = number_in (slice_get values place)

-- a number as the value of a field of the kind
abbrev pub value_as : Kind → ℤ → Value
value_as kind.Fix z = v.Fix z
value_as k z = v.Int z

-- the value of a number field
abbrev pub value_at : FieldPlace → List Given → Value
value_at field values = value_as field.kind (number_at field.place values)

-- the value of a number field of a component or an asset that is there
abbrev pub found_at : FieldPlace → Answer → Option Value
found_at field a = option_map (value_at field) (values_of a)

-- ---- upward

-- how many levels a walk goes at most: a scene has no more
unfoldable pub most_levels : ℕ
most_levels = 64

abbrev pub or_further : Option Value → Asks Found → Asks Found
or_further (Some x) more = done (Some x)
or_further None more = more

abbrev pub if_above : Option ℕ → (ℕ → Asks Found) → Asks Found
if_above None next = done None
if_above (Some p) next = next p

-- a field of an object's component
abbrev pub field_of : ℕ → ℕ → AuthoredField → Asks Found
field_of s n x = bind (look (key.Comp s n x.kind)) (λ a. done (found_at x.field a))

-- the field of the nearest ancestor that has the type, at most so many levels up
unfoldable pub nearest : ℕ → AuthoredField → ℕ → ℕ → Asks Found
nearest s x zero n = done None
nearest s x (suc levels) n =
    bind (look (key.Parent s n)) (λ a. if_above (above_of a) (λ p. bind (field_of s p x) (λ found. or_further found (nearest s x levels p))))

-- ---- downward

-- how many levels the reads go down: to the children, or to all below
unfoldable pub levels_of : Reach → ℕ
levels_of reach.Children = 1
levels_of reach.Within = most_levels

-- what is gathered: the numbers in one field, of the objects that have its type
abbrev pub Numbers : Form
Numbers = Many ANumber

-- with the number of a component, if it is there
abbrev pub with_number : ℕ → Option (List Given) → List ℤ → List ℤ
with_number place None have = have
with_number place (Some values) have = have ++ number_at place values ∷ []

-- an object's own number
abbrev pub own_number : Sought → ℕ → List ℤ → Asks Numbers
own_number x n have = bind (look (key.Comp x.scene n x.kind)) (λ a. done (with_number x.place (values_of a) have))

-- an object's own number, and then those below it
abbrev pub gathered_one : Sought → (ℕ → List ℤ → Asks Numbers) → ℕ → List ℤ → Asks Numbers
gathered_one x below n have = bind (own_number x n have) (below n)

abbrev pub gathered_all : Sought → (ℕ → List ℤ → Asks Numbers) → List ℕ → List ℤ → Asks Numbers
gathered_all x below [] have = done have
gathered_all x below (n ∷ ns) have = bind (gathered_one x below n have) (gathered_all x below ns)

-- the numbers of the objects below one, at most so many levels down, behind those before
unfoldable pub gathered : Sought → ℕ → ℕ → List ℤ → Asks Numbers
gathered x zero n have = done have
gathered x (suc levels) n have = bind (look (key.Children x.scene n)) (λ a. gathered_all x (gathered x levels) (below_of a) have)

-- ---- what calls leave

-- what a call that adds to a value in place may answer, and what it leaves then; want of memory says nothing
abbrev pub GoesInto : {A U : Type 0} → Told A → Result U Stop → A → List Key → Type 0
GoesInto t (Ok u) a keys = t ≡ Gives a keys
GoesInto t (Err (stop.Fault e)) a keys = t ≡ Stops e keys
GoesInto t (Err stop.Memory) a keys = ⊤
