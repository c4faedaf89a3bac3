-- Calculations that ask after keys, written down before any key is answered: what one gives and asks is then a function of
-- the answers.
use Rattle.std.specs.Prelude.{◌≡◌, ◌++◌, ℕ, ℤ, Bool, true, List, [], ◌∷◌, Option, Result, Ok, Err, ⊤}
use Rattle.std.specs.List.{Contains, list_all}
use Rattle.eb_rules.specs.declared.plans.FindTerm.{FindTerm}
use Rattle.eb_rules.specs.declared.plans.ReadTerm.{ReadTerm}
use Rattle.eb_scene.specs.Answers.{Answer}
use Rattle.eb_scene.specs.declared.keys.Key.{Key}
use Rattle.eb_schema.specs.declared.rows.Cell.{Cell}
use Rattle.eb_schema.specs.declared.rows.Val.{Val}
use Rattle.eb_meaning.specs.declared.scopes.Scope.{Scope}
use Rattle.eb_meaning.specs.declared.values.RunFault.{RunFault}
use Rattle.eb_meaning.specs.declared.values.Stop.{Stop}
use Rattle.eb_meaning.specs.declared.values.Stop.TheVariants as stop
use Rattle.eb_meaning.specs.declared.values.Value.{Value}

abbrev pub Answers : Type 0
Answers = Key → Answer

-- how statements end: what they have come to, at their end or up to a fault
pub data End : Type 0 where
  Through : Scope → End
  Broken : Scope → RunFault → End

-- what a calculation gives
pub data Form : Type 0 where
  AValue : Form
  AVal : Form
  ACell : Form
  AnEnd : Form
  AnAnswer : Form
  ANumber : Form
  Maybe : Form → Form
  Many : Form → Form
  Tried : Form → Form

abbrev pub Of : Form → Type 0
Of AValue = Value
Of AVal = Val
Of ACell = Cell
Of AnEnd = End
Of AnAnswer = Answer
Of ANumber = ℤ
Of (Maybe g) = Option (Of g)
Of (Many g) = List (Of g)
Of (Tried g) = Result (Of g) RunFault

-- a value, where one is found
abbrev pub Found : Form
Found = Maybe AValue

pub data Asks : Form → Type 0 where
  done : {g : Form} → Of g → Asks g
  fault : {g : Form} → RunFault → Asks g
  look : Key → Asks AnAnswer
  tried : {g : Form} → Asks g → Asks (Tried g)
  bind : {g h : Form} → Asks g → (Of g → Asks h) → Asks h

abbrev pub lift : {g : Form} → Result (Of g) RunFault → Asks g
lift (Ok a) = done a
lift (Err e) = fault e

-- what the reads of one run mean, and the names of its extras
pub record Sight : Type 0 where
  pub read : ReadTerm → Asks AValue
  pub find : FindTerm → Asks Found
  pub extra : ℕ → Value

-- ---- what is given, and what is asked

abbrev pub on_ok : {A B : Type 0} → Result A RunFault → (A → Result B RunFault) → Result B RunFault
on_ok (Ok a) next = next a
on_ok (Err e) next = Err e

-- what a calculation gives, or its first fault
abbrev pub outcome : {g : Form} → Answers → Asks g → Result (Of g) RunFault
outcome o (done a) = Ok a
outcome o (fault e) = Err e
outcome o (look k) = Ok (o k)
outcome o (tried m) = Ok (outcome o m)
outcome o (bind m next) = on_ok (outcome o m) (λ a. outcome o (next a))

abbrev pub further : {A : Type 0} → Result A RunFault → (A → List Key) → List Key
further (Ok a) next = next a
further (Err e) next = []

-- the keys that it asks after, in order, up to its fault
abbrev pub asked : {g : Form} → Answers → Asks g → List Key
asked o (done a) = []
asked o (fault e) = []
asked o (look k) = k ∷ []
asked o (tried m) = asked o m
asked o (bind m next) = asked o m ++ further (outcome o m) (λ a. asked o (next a))

-- ---- both at once

-- how a calculation ended, and the keys that were asked after by then
pub data Told (A : Type 0) : Type 0 where
  Gives : A → List Key → Told A
  Stops : RunFault → List Key → Told A

abbrev pub told : {A : Type 0} → Result A RunFault → List Key → Told A
told (Ok a) keys = Gives a keys
told (Err e) keys = Stops e keys

abbrev pub after : {A B : Type 0} → Told A → (A → List Key → Told B) → Told B
after (Gives a keys) next = next a keys
after (Stops e keys) next = Stops e keys

-- a fault is given, and stops nothing
abbrev pub kept : {A : Type 0} → Told A → Told (Result A RunFault)
kept (Gives a keys) = Gives (Ok a) keys
kept (Stops e keys) = Gives (Err e) keys

-- a calculation behind others that have asked after these keys
abbrev pub run : {g : Form} → Answers → Asks g → List Key → Told (Of g)
run o (done a) keys = Gives a keys
run o (fault e) keys = Stops e keys
run o (look k) keys = Gives (o k) (keys ++ k ∷ [])
run o (tried m) keys = kept (run o m keys)
run o (bind m next) keys = after (run o m keys) (λ a. run o (next a))

-- ---- what calls answer

-- what a call may answer, and the keys that are noted then; want of memory says nothing
abbrev pub Goes : {A : Type 0} → Told A → Result A Stop → List Key → Type 0
Goes t (Ok a) keys = t ≡ Gives a keys
Goes t (Err (stop.Fault e)) keys = t ≡ Stops e keys
Goes t (Err stop.Memory) keys = ⊤

-- the same of a call that works on a scope, and leaves it as it is at a fault
abbrev pub GoesTo : {U : Type 0} → Told End → Result U Stop → Scope → List Key → Type 0
GoesTo t (Ok u) scope keys = t ≡ Gives (Through scope) keys
GoesTo t (Err (stop.Fault e)) scope keys = t ≡ Gives (Broken scope e) keys
GoesTo t (Err stop.Memory) scope keys = ⊤

-- what a calculation gives, and all that it asks
abbrev pub EndsWith : {g : Form} → Answers → Asks g → Result (Of g) RunFault → List Key → Type 0
EndsWith o m result keys = (outcome o m ≡ result) × (asked o m ≡ keys)

-- ---- answers that are alike

-- alike on these keys
abbrev pub AreAlike : Answers → Answers → List Key → Type 0
AreAlike o p keys = (k : Key) → Contains keys k → p k ≡ o k

-- a calculation gives and asks the same under both
abbrev pub EndAlike : {g : Form} → Answers → Answers → Asks g → Type 0
EndAlike o p m = (outcome p m ≡ outcome o m) × (asked p m ≡ asked o m)

-- ---- what is asked

-- each key that is asked passes a test
abbrev pub AsksOnly : {g : Form} → (Key → Bool) → Answers → Asks g → Type 0
AsksOnly p o m = list_all p (asked o m) ≡ true

-- so do those of each read
pub record ReadsAsk (p : Key → Bool) (o : Answers) (s : Sight) : Type 0 where
  pub reads : (x : ReadTerm) → AsksOnly p o (s.read x)
  pub finds : (x : FindTerm) → AsksOnly p o (s.find x)
