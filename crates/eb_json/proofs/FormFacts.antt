-- Reading the items of a list one after the other, as a loop does.
use Rattle.std.specs.Option.{option_and_then}
use Rattle.std.proofs.Common.{Some, None, true, false, if◌then◌else◌, nat_le, ◌≡◌, ℕ, suc, ◌+◌, ◌<◌, ◌≤◌, List, [], ◌∷◌, ◌++◌, length, get_or, drop, Result, Ok, Err, refl, sym, ap, ◌∙◌, append_assoc, add-one, drop-cons, arith}
use Rattle.std.proofs.Math.ListN.{drop_of_length-le}
use Rattle.std.proofs.lemmas.List.{append-nil}
use Rattle.serde_json.specs.Data.{Data, item}
use Rattle.serde_json.specs.View.{view, items_view}
use Rattle.serde_json.specs.declared.value.Value.{Value}
use Rattle.eb_json.specs.declared.faults.FormFault.{FormFault}
use Rattle.eb_json.specs.declared.faults.FormFault.TheVariants.{Memory, Wrong}
use Rattle.eb_json.specs.Forms.{◌>>=◌, Fails, or_wrong, items_at, list_within_at, pair_of, pair_at}
use Rattle.eb_json.specs.Places.{further, after}
use Rattle.std.proofs.lemmas.Bool.Decides.{nat_tests}
use Rattle.serde_json.specs.Find.{as_array}
use Rattle.serde_json.specs.Events.{items_len}
use Rattle.serde_json.proofs.Views.{items_len-items_view}

-- what was read before, and what is still read
abbrev pub with_front : {X : Type 0} → List X → Result (List X) FormFault → Result (List X) FormFault
with_front front read = read >>= λ xs. Ok (front ++ xs)

-- the item at an index, then the rest
next_item : (vs : List Value) (i : ℕ) (v : Value) → i < length vs → v ≡ get_or vs i v → items_view (drop i vs) ≡ item (view v) (items_view (drop (i + 1) vs))
next_item vs i v lt is =
    ap items_view (drop-cons vs i v lt) ∙ ap (λ w. item (view w) (items_view (drop (suc i) vs))) (sym is) ∙ ap (λ n. item (view v) (items_view (drop n vs))) (sym (add-one i))

regroup : {X : Type 0} (front : List X) (x : X) (read : Result (List X) FormFault) → with_front front (read >>= λ xs. Ok (x ∷ xs)) ≡ with_front (front ++ x ∷ []) read
regroup front x (Ok xs) = ap Ok (simp append_assoc)
regroup front x (Err e) = refl

module _ {X : Type 0} (form : ℕ → Data → Result X FormFault) (front : List X) (next : ℕ) (vs : List Value) (i : ℕ) (total : Result (List X) FormFault) where
  one_more : (v : Value) → i < length vs → v ≡ get_or vs i v → with_front front (items_at form next (items_view (drop i vs))) ≡ total
      → total ≡ with_front front (items_at form next (item (view v) (items_view (drop (i + 1) vs))))
  one_more v lt is so_far = sym so_far ∙ ap (λ ds. with_front front (items_at form next ds)) (next_item vs i v lt is)

  pub goes_on : (v : Value) (x : X) → i < length vs → v ≡ get_or vs i v → form next (view v) ≡ Ok x → with_front front (items_at form next (items_view (drop i vs))) ≡ total
      → with_front (front ++ x ∷ []) (items_at form (after next (view v)) (items_view (drop (i + 1) vs))) ≡ total
  unfolding items_at
  goes_on v x lt is reads so_far =
      let rest = items_at form (after next (view v)) (items_view (drop (i + 1) vs)) in
      sym (one_more v lt is so_far ∙ ap (λ r. with_front front (r >>= λ y. rest >>= λ ys. Ok (y ∷ ys))) reads ∙ regroup front x rest)

  pub stops : (fault : FormFault) (v : Value) → i < length vs → v ≡ get_or vs i v → Fails fault (form next (view v)) → with_front front (items_at form next (items_view (drop i vs))) ≡ total
      → Fails fault total
  unfolding items_at
  stops Memory v lt is fails so_far = tt
  stops (Wrong place) v lt is fails so_far =
      let rest = items_at form (after next (view v)) (items_view (drop (i + 1) vs)) in
      one_more v lt is so_far ∙ ap (λ r. with_front front (r >>= λ y. rest >>= λ ys. Ok (y ∷ ys))) fails

  pub ends : length vs ≤ i → with_front front (items_at form next (items_view (drop i vs))) ≡ total → total ≡ Ok front
  unfolding items_at
  ends le so_far = sym so_far ∙ ap (λ ws. with_front front (items_at form next (items_view ws))) (drop_of_length-le vs le) ∙ ap Ok (append-nil front)

-- a list that is too long is wrong itself, and of another one the items decide
module _ {X : Type 0} (form : ℕ → Data → Result X FormFault) (most place : ℕ) (vs : List Value) (d : Data) (is : Some (items_view vs) ≡ as_array d) where
  measured : list_within_at most form place d ≡ (if nat_le (length vs) most then items_at form (further place 1) (items_view vs) else Err (Wrong place))
  measured =
      ap (λ ds. or_wrong place ds >>= λ es. if nat_le (items_len es) most then items_at form (further place 1) es else Err (Wrong place)) (sym is)
      ∙ ap (λ n. if nat_le n most then items_at form (further place 1) (items_view vs) else Err (Wrong place)) (items_len-items_view vs)

  pub list_within_at-long : most < length vs → list_within_at most form place d ≡ Err (Wrong place)
  list_within_at-long more = let no : nat_le (length vs) most ≡ false = grind (arith, nat_tests) in measured ∙ ap (λ b. if b then items_at form (further place 1) (items_view vs) else Err (Wrong place)) no

  pub list_within_at-short : length vs ≤ most → items_at form (further place 1) (items_view vs) ≡ list_within_at most form place d
  list_within_at-short fit = let yes : nat_le (length vs) most ≡ true = grind (arith, nat_tests) in sym (measured ∙ ap (λ b. if b then items_at form (further place 1) (items_view vs) else Err (Wrong place)) yes)

not_two : (vs : List Value) → (length vs ≡ 2 → ⊥) → pair_of (items_view vs) ≡ None
not_two [] other = refl
not_two (a ∷ []) other = refl
not_two (a ∷ b ∷ []) other = absurd (other refl)
not_two (a ∷ b ∷ c ∷ vs) other = refl

-- a list of another length than two is no pair
pub pair_at-other : (place : ℕ) (d : Data) (vs : List Value) → Some (items_view vs) ≡ as_array d → (length vs ≡ 2 → ⊥) → pair_at place d ≡ Err (Wrong place)
pair_at-other place d vs is other = ap (λ o. or_wrong place (option_and_then pair_of o)) (sym is) ∙ ap (or_wrong place) (not_two vs other)
