-- Forms: what a node at a place reads as, or the place of the first wrong node. Nodes are read in
-- preorder, so the first wrong node is the one of the least number.
use Rattle.std.specs.Prelude.{◌≡◌, ℕ, ℤ, ◌&&◌, List, [], ◌∷◌, Bool, true, false, if◌then◌else◌, nat_le, Option, Some, None, option_and_then, Result, Ok, Err}
use Rattle.serde_json.specs.Data.{Data, Items, no_items, item}
use Rattle.serde_json.specs.Find.{get, as_array, as_number, as_u64, as_str}
use Rattle.serde_json.specs.Events.{items_len}
use Rattle.eb_json.specs.declared.faults.FormFault.{FormFault}
use Rattle.eb_json.specs.declared.faults.FormFault.TheVariants.{Memory, Wrong}
use Rattle.eb_json.specs.Documents.{whole_number_of, within, is_null, has_keys}
use Rattle.eb_json.specs.Places.{further, after}

infixl 10 ◌>>=◌
abbrev pub ◌>>=◌ : {A B E : Type 0} → Result A E → (A → Result B E) → Result B E
(Ok x) >>= f = f x
(Err e) >>= f = Err e

-- What a reader answered, seen by view, is what reading gives, unless memory ran out.
abbrev pub Fails : {Y : Type 0} → FormFault → Result Y FormFault → Type 0
Fails Memory read = Unit {0}
Fails (Wrong place) read = read ≡ Err (Wrong place)

abbrev pub Gives : {X Y : Type 0} → (X → Y) → Result X FormFault → Result Y FormFault → Type 0
Gives view (Ok x) read = read ≡ Ok (view x)
Gives view (Err fault) read = Fails fault read

-- the value, where there is one, at a node that is wrong without it
abbrev pub or_wrong : {X : Type 0} → ℕ → Option X → Result X FormFault
or_wrong place None = Err (Wrong place)
or_wrong place (Some x) = Ok x

-- a text
abbrev pub text_at : ℕ → Data → Result (List ℕ) FormFault
text_at place d = or_wrong place (as_str d)

-- a whole number from least to most
abbrev pub whole_number_at : ℤ → ℤ → ℕ → Data → Result ℤ FormFault
whole_number_at least most place d = or_wrong place (within least most (whole_number_of d))

-- an object whose keys are exactly these
abbrev pub object_at : List (List ℕ) → ℕ → Data → Result Data FormFault
object_at keys place d = if has_keys keys d then Ok d else Err (Wrong place)

-- the value at a key of the object at this place
abbrev pub member_at : List ℕ → ℕ → Data → Result Data FormFault
member_at key place d = or_wrong place (get key d)

-- null, or what the form says
abbrev pub null_or_where : {X : Type 0} → Bool → Result X FormFault → Result (Option X) FormFault
null_or_where true read = Ok None
null_or_where false read = read >>= λ x. Ok (Some x)

abbrev pub null_or_at : {X : Type 0} → (ℕ → Data → Result X FormFault) → ℕ → Data → Result (Option X) FormFault
null_or_at form place d = null_or_where (is_null d) (form place d)

-- each item what the form says, the first at this place
unfoldable pub items_at : {X : Type 0} → (ℕ → Data → Result X FormFault) → ℕ → Items → Result (List X) FormFault
items_at form place no_items = Ok []
items_at form place (item d ds) = do
  x ← form place d
  xs ← items_at form (after place d) ds
  Ok (x ∷ xs)

-- a list, each item of it what the form says
abbrev pub list_at : {X : Type 0} → (ℕ → Data → Result X FormFault) → ℕ → Data → Result (List X) FormFault
list_at form place d = do
  ds ← or_wrong place (as_array d)
  items_at form (further place 1) ds

-- a list of at most so many items
abbrev pub list_within_at : {X : Type 0} → ℕ → (ℕ → Data → Result X FormFault) → ℕ → Data → Result (List X) FormFault
list_within_at most form place d = do
  ds ← or_wrong place (as_array d)
  if nat_le (items_len ds) most then items_at form (further place 1) ds else Err (Wrong place)

abbrev pub natural_within : ℕ → ℕ → Option ℕ → Option ℕ
natural_within least most None = None
natural_within least most (Some n) = if nat_le least n && nat_le n most then Some n else None

-- a whole number from least to most, which are not below 0
abbrev pub natural_at : ℕ → ℕ → ℕ → Data → Result ℕ FormFault
natural_at least most place d = or_wrong place (natural_within least most (option_and_then as_u64 (as_number d)))

abbrev pub pair_of : Items → Option (Data × Data)
pair_of no_items = None
pair_of (item a no_items) = None
pair_of (item a (item b no_items)) = Some (a, b)
pair_of (item a (item b (item c ds))) = None

-- a list of exactly two items
abbrev pub pair_at : ℕ → Data → Result (Data × Data) FormFault
pair_at place d = or_wrong place (option_and_then pair_of (as_array d))
