-- Making drafts one after the other, as a loop does.
use Rattle.std.proofs.Common.{◌≡◌, ℕ, suc, ◌+◌, ◌<◌, ◌≤◌, List, [], ◌∷◌, ◌++◌, length, get_or, take, drop, Result, Ok, Err, refl, sym, ap, ◌∙◌, append_assoc, add-one, drop-cons}
use Rattle.std.proofs.Math.ListN.{drop_of_length-le}
use Rattle.std.proofs.lemmas.List.{append-nil, take_more}
use Rattle.eb_json.specs.Forms.{◌>>=◌}
use Rattle.eb_schema.specs.declared.faults.SchemaFault.{SchemaFault}
use Rattle.eb_schema.specs.declared.faults.SchemaFault.TheVariants.{Memory, NotForm, NameTaken, NumberTaken, TooMany, BadKind, CopyMismatch}
use Rattle.eb_schema.specs.SchemaFaults.{Refuses}
use Rattle.eb_schema.specs.SchemaTests.{each_of}

-- what was made before, and what is still made
abbrev pub with_front : {X : Type 0} → List X → Result (List X) SchemaFault → Result (List X) SchemaFault
with_front front made = made >>= λ xs. Ok (front ++ xs)

regroup : {X : Type 0} (front : List X) (x : X) (made : Result (List X) SchemaFault) → with_front front (made >>= λ xs. Ok (x ∷ xs)) ≡ with_front (front ++ x ∷ []) made
regroup front x (Ok xs) = ap Ok (simp append_assoc)
regroup front x (Err e) = refl

-- a refusal is the whole answer
refuse : {X Y : Type 0} (fault : SchemaFault) (made : Result X SchemaFault) (whole : Result Y SchemaFault) → ((e : SchemaFault) → made ≡ Err e → whole ≡ Err e) → Refuses fault made → Refuses fault whole
refuse Memory made whole carry h = tt
refuse (NotForm p) made whole carry h = carry (NotForm p) h
refuse (NameTaken p) made whole carry h = carry (NameTaken p) h
refuse (NumberTaken p) made whole carry h = carry (NumberTaken p) h
refuse (TooMany p) made whole carry h = carry (TooMany p) h
refuse (BadKind p) made whole carry h = carry (BadKind p) h
refuse (CopyMismatch p) made whole carry h = carry (CopyMismatch p) h

module _ {D X : Type 0} (makes : List D → D → Result X SchemaFault) (front : List X) (ds : List D) (i : ℕ) (total : Result (List X) SchemaFault)
    (so_far : with_front front (each_of makes (take i ds) (drop i ds)) ≡ total) where
  one_more : (d : D) → i < length ds → d ≡ get_or ds i d → total ≡ with_front front (each_of makes (take i ds) (d ∷ drop (i + 1) ds))
  one_more d lt is =
      sym so_far ∙ ap (λ es. with_front front (each_of makes (take i ds) es))
      (drop-cons ds i d lt ∙ ap (λ e. e ∷ drop (suc i) ds) (sym is) ∙ ap (λ n. d ∷ drop n ds) (sym (add-one i)))

  grown : (d : D) → i < length ds → d ≡ get_or ds i d → take i ds ++ d ∷ [] ≡ take (i + 1) ds
  grown d lt is = ap (λ e. take i ds ++ e ∷ []) is ∙ sym (take_more ds i d lt)

  pub goes_on : (d : D) (x : X) → i < length ds → d ≡ get_or ds i d → makes (take i ds) d ≡ Ok x → with_front (front ++ x ∷ []) (each_of makes (take (i + 1) ds) (drop (i + 1) ds)) ≡ total
  unfolding each_of
  goes_on d x lt is made =
      let rest = λ (before : List D). each_of makes before (drop (i + 1) ds) in
      sym (one_more d lt is ∙ ap (λ r. with_front front (r >>= λ y. rest (take i ds ++ d ∷ []) >>= λ ys. Ok (y ∷ ys))) made
      ∙ regroup front x (rest (take i ds ++ d ∷ [])) ∙ ap (λ before. with_front (front ++ x ∷ []) (rest before)) (grown d lt is))

  pub stops : (fault : SchemaFault) (d : D) → i < length ds → d ≡ get_or ds i d → Refuses fault (makes (take i ds) d) → Refuses fault total
  unfolding each_of
  stops fault d lt is =
      let rest = each_of makes (take i ds ++ d ∷ []) (drop (i + 1) ds) in
      refuse fault (makes (take i ds) d) total (λ e made. one_more d lt is ∙ ap (λ r. with_front front (r >>= λ y. rest >>= λ ys. Ok (y ∷ ys))) made)

  pub ends : length ds ≤ i → total ≡ Ok front
  unfolding each_of
  ends le = sym so_far ∙ ap (λ es. with_front front (each_of makes (take i ds) es)) (drop_of_length-le ds le) ∙ ap Ok (append-nil front)
