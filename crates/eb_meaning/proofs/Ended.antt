-- What a run behind no keys says of what is given and asked.
use Rattle.std.proofs.Common.{◌≡◌, List, [], Result, Ok, Err, sym, ◌∙◌}
use Rattle.eb_scene.specs.declared.keys.Key.{Key}
use Rattle.eb_meaning.specs.declared.values.RunFault.{RunFault}
use Rattle.eb_meaning.specs.Asks.{Answers, Asks, EndsWith, Form, Gives, Of, Stops, asked, outcome, run, told}
use Rattle.eb_meaning.proofs.Noted.{noted_all}

gives : {A : Type 0} (r : Result A RunFault) (xs : List Key) (a : A) (keys : List Key) → told r xs ≡ Gives a keys → (r ≡ Ok a) × (xs ≡ keys)
gives (Ok b) xs a keys h = (cc, cc)
gives (Err e) xs a keys h = absurd (cc)

stops : {A : Type 0} (r : Result A RunFault) (xs : List Key) (e : RunFault) (keys : List Key) → told r xs ≡ Stops e keys → (r ≡ Err e) × (xs ≡ keys)
stops (Ok b) xs e keys h = absurd (cc)
stops (Err f) xs e keys h = (cc, cc)

pub ended_well : (g : Form) (o : Answers) (m : Asks g) (a : Of g) (keys : List Key) → run o m [] ≡ Gives a keys → EndsWith o m (Ok a) keys
ended_well g o m a keys h = gives (outcome o m) (asked o m) a keys (sym (noted_all g o m []) ∙ h)

pub ended_badly : (g : Form) (o : Answers) (m : Asks g) (e : RunFault) (keys : List Key) → run o m [] ≡ Stops e keys → EndsWith o m (Err e) keys
ended_badly g o m e keys h = stops (outcome o m) (asked o m) e keys (sym (noted_all g o m []) ∙ h)
