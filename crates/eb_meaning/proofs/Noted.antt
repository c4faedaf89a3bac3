-- A run gives what the calculation gives, and notes what it asks.
use Rattle.std.proofs.Common.{◌≡◌, List, ◌++◌, Result, Ok, Err, refl, ap, ◌∙◌, append_assoc}
use Rattle.std.proofs.lemmas.List.{append-nil}
use Rattle.eb_scene.specs.declared.keys.Key.{Key}
use Rattle.eb_meaning.specs.declared.values.RunFault.{RunFault}
use Rattle.eb_meaning.specs.Asks.{Answers, Asks, Form, Of, asked, bind, done, fault, kept, look, outcome, run, told, tried}

-- two in a row, by what the first one gives
in_a_row : {g h : Form} (o : Answers) (m : Asks g) (next : Of g → Asks h) (keys : List Key) (r : Result (Of g) RunFault)
    → outcome o m ≡ r
    → run o m keys ≡ told r (keys ++ asked o m)
    → ((a : Of g) (more : List Key) → run o (next a) more ≡ told (outcome o (next a)) (more ++ asked o (next a)))
    → run o (bind m next) keys ≡ told (outcome o (bind m next)) (keys ++ asked o (bind m next))
in_a_row o m next keys (Ok a) is ran onward =
    rw (ran, is) (onward a (keys ++ asked o m) ∙ ap (told (outcome o (next a))) (append_assoc keys (asked o m) (asked o (next a))))
in_a_row o m next keys (Err e) is ran onward = rw (ran, is, append-nil (asked o m)) refl

-- what is tried gives its fault
kept_told : {A : Type 0} (r : Result A RunFault) (keys : List Key) → kept (told r keys) ≡ told (Ok r) keys
kept_told (Ok a) keys = refl
kept_told (Err e) keys = refl

pub noted_all : (g : Form) (o : Answers) (m : Asks g) (keys : List Key) → run o m keys ≡ told (outcome o m) (keys ++ asked o m)
noted_all g o (done a) keys = rw (append-nil keys) refl
noted_all g o (fault e) keys = rw (append-nil keys) refl
noted_all g o (look k) keys = refl
noted_all g o (tried m) keys = ap kept (noted_all _ o m keys) ∙ kept_told (outcome o m) (keys ++ asked o m)
noted_all g o (bind m next) keys = in_a_row o m next keys (outcome o m) refl (noted_all _ o m keys) (λ a. noted_all g o (next a))
