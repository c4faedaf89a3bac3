-- Reading the members of an object one after the other, as a loop does.
use Rattle.std.proofs.Common.{◌≡◌, ℕ, List, [], ◌∷◌, ◌++◌, Result, Ok, Err, refl, sym, ap, ◌∙◌, append_assoc}
use Rattle.std.proofs.lemmas.List.{append-nil}
use Rattle.serde_json.specs.Data.{Data, Members, no_members, member}
use Rattle.eb_json.specs.declared.faults.FormFault.{FormFault}
use Rattle.eb_json.specs.declared.faults.FormFault.TheVariants.{Memory, Wrong}
use Rattle.eb_json.specs.Forms.{◌>>=◌, Fails}
use Rattle.eb_json.specs.Places.{after}
use Rattle.eb_json.proofs.FormFacts.{with_front}
use Rattle.eb_scene_text.specs.Values.{members_at}

regroup : {X : Type 0} (front : List X) (x : X) (read : Result (List X) FormFault) → with_front front (read >>= λ xs. Ok (x ∷ xs)) ≡ with_front (front ++ x ∷ []) read
regroup front x (Ok xs) = ap Ok (simp append_assoc)
regroup front x (Err e) = refl

module _ {X : Type 0} (form : List ℕ → ℕ → Data → Result X FormFault) (front : List X) (next : ℕ) (total : Result (List X) FormFault) where
  -- a member that was read
  pub goes_on : (key : List ℕ) (d : Data) (ms : Members) (x : X) → form key next d ≡ Ok x → with_front front (members_at form next (member key d ms)) ≡ total
      → with_front (front ++ x ∷ []) (members_at form (after next d) ms) ≡ total
  unfolding members_at
  goes_on key d ms x reads so_far =
      let rest = members_at form (after next d) ms in
      sym (sym so_far ∙ ap (λ r. with_front front (r >>= λ y. rest >>= λ ys. Ok (y ∷ ys))) reads ∙ regroup front x rest)

  -- a member that is wrong
  pub stops : (fault : FormFault) (key : List ℕ) (d : Data) (ms : Members) → Fails fault (form key next d) → with_front front (members_at form next (member key d ms)) ≡ total → Fails fault total
  unfolding members_at
  stops Memory key d ms fails so_far = tt
  stops (Wrong place) key d ms fails so_far =
      let rest = members_at form (after next d) ms in
      sym so_far ∙ ap (λ r. with_front front (r >>= λ y. rest >>= λ ys. Ok (y ∷ ys))) fails

  -- the last one
  pub ends : with_front front (members_at form next no_members) ≡ total → total ≡ Ok front
  unfolding members_at
  ends so_far = sym so_far ∙ ap Ok (append-nil front)
