-- Answers that are alike on what a calculation asks end it alike.
use Rattle.std.proofs.Common.{◌≡◌, List, [], ◌++◌, Result, Ok, Err, refl, ap}
use Rattle.std.proofs.lemmas.List.Elements.{Contains-append_left, Contains-append_right, Contains-push}
use Rattle.eb_scene.specs.declared.keys.Key.{Key}
use Rattle.eb_meaning.specs.declared.values.RunFault.{RunFault}
use Rattle.eb_meaning.specs.Asks.{Answers, AreAlike, Asks, EndAlike, Form, Of, asked, bind, done, fault, further, look, outcome, tried}

-- alike on the front of what is asked, and on what follows it
front : (o p : Answers) (xs ys : List Key) → AreAlike o p (xs ++ ys) → AreAlike o p xs
front o p xs ys h = λ k c. h k (Contains-append_left xs ys k c)

rest : (o p : Answers) (xs ys : List Key) → AreAlike o p (xs ++ ys) → AreAlike o p ys
rest o p xs ys h = λ k c. h k (Contains-append_right xs ys k c)

-- two in a row, by what the first one gives
in_a_row : {g h : Form} (o p : Answers) (m : Asks g) (next : Of g → Asks h) (r : Result (Of g) RunFault)
    → outcome o m ≡ r
    → EndAlike o p m
    → AreAlike o p (asked o m ++ further r (λ a. asked o (next a)))
    → ((a : Of g) → AreAlike o p (asked o (next a)) → EndAlike o p (next a))
    → EndAlike o p (bind m next)
in_a_row o p m next (Ok a) is same h onward =
    let then_alike : EndAlike o p (next a) = onward a (rest o p (asked o m) _ h) in
    rw (same.0, same.1, is) (then_alike.0, ap (λ keys. asked o m ++ keys) then_alike.1)
in_a_row o p m next (Err e) is same h onward = rw (same.0, same.1, is) (refl, refl)

pub end_alike : (g : Form) (o p : Answers) (m : Asks g) → AreAlike o p (asked o m) → EndAlike o p m
end_alike g o p (done a) h = (refl, refl)
end_alike g o p (fault e) h = (refl, refl)
end_alike g o p (look k) h = (ap Ok (h k (Contains-push [] k)), refl)
end_alike g o p (tried m) h = let same : EndAlike o p m = end_alike _ o p m h in (ap Ok same.0, same.1)
end_alike g o p (bind m next) h =
    in_a_row o p m next (outcome o m) refl (end_alike _ o p m (front o p (asked o m) _ h)) h (λ a. end_alike g o p (next a))
