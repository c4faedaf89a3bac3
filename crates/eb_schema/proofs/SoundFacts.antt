-- What was made of drafts one after the other: as many, each with what its making says, and no two alike where each
-- was tested against those before it.
use Rattle.std.proofs.Common.{◌≡◌, ℕ, suc, ◌≤◌, List, [], ◌∷◌, ◌++◌, length, map, Bool, true, false, cond, nat_le, Some, Result, Ok, Err, refl, ap, ◌∙◌, true≢false, arith, if◌then◌else◌}
use Rattle.std.specs.Prelude.{◌||◌, find}
use Rattle.std.specs.List.{list_any, AllByRecursion, IsDistinct}
use Rattle.std.proofs.lemmas.Bool.Decides.{nat_tests}
use Rattle.eb_json.specs.Forms.{◌>>=◌}
use Rattle.eb_schema.specs.declared.faults.SchemaFault.{SchemaFault}
use Rattle.eb_schema.specs.declared.drafts.Placed.{Placed}
use Rattle.eb_schema.specs.SchemaTests.{each_of, each_within}

-- the parts of what succeeded
pub bound : {A B E : Type 0} (m : Result A E) (f : A → Result B E) (y : B) → (m >>= f) ≡ Ok y → (x : A) × (m ≡ Ok x) × (f x ≡ Ok y)
bound (Ok x) f y h = (x, refl, h)
bound (Err e) f y h = cc

pub unless : {A E : Type 0} (b : Bool) (e : E) (m : Result A E) (y : A) → (if b then Err e else m) ≡ Ok y → (b ≡ false) × (m ≡ Ok y)
unless true e m y h = cc
unless false e m y h = (refl, h)

pub provided : {A E : Type 0} (b : Bool) (e : E) (m : Result A E) (y : A) → (if b then m else Err e) ≡ Ok y → (b ≡ true) × (m ≡ Ok y)
provided true e m y h = (refl, h)
provided false e m y h = cc

pub neither : (a b : Bool) → (a || b) ≡ false → (a ≡ false) × (b ≡ false)
neither true b h = absurd (true≢false h)
neither false b h = (refl, h)

all_nothing : {X : Type 0} (P : X → Type 0) → ((x : X) → P x) → (xs : List X) → AllByRecursion P xs
all_nothing P always [] = tt
all_nothing P always (x ∷ xs) = (always x, all_nothing P always xs)

all_front : {X : Type 0} (P : X → Type 0) (xs : List X) (y : X) → AllByRecursion P (xs ++ y ∷ []) → AllByRecursion P xs × P y
all_front P [] y h = (tt, h.0)
all_front P (x ∷ xs) y h = let rest = all_front P xs y h.1 in ((h.0, rest.0), rest.1)

-- each that was made of drafts, its making and the rest
module _ {D X : Type 0} (makes : List D → D → Result X SchemaFault) where
  pub record Made (before : List D) (d : D) (ds : List D) (xs : List X) : Type 0 where
    pub first : X
    pub rest : List X
    pub all : xs ≡ first ∷ rest
    pub made : makes before d ≡ Ok first
    pub later : each_of makes (before ++ d ∷ []) ds ≡ Ok rest

  pub made_of : (before : List D) (d : D) (ds : List D) (xs : List X) → each_of makes before (d ∷ ds) ≡ Ok xs → Made before d ds xs
  unfolding each_of
  made_of before d ds xs h =
      let one = bound (makes before d) _ xs h in
      let others = bound (each_of makes (before ++ d ∷ []) ds) _ xs one.2 in
      record { first = one.0; rest = others.0; all = cc; made = one.1; later = others.1 }

  pub none_of : (before : List D) (xs : List X) → each_of makes before [] ≡ Ok xs → xs ≡ []
  unfolding each_of
  none_of before xs h = cc

  pub lengths : (before ds : List D) (xs : List X) → each_of makes before ds ≡ Ok xs → length xs ≡ length ds
  lengths before [] xs h = ap length (none_of before xs h)
  lengths before (d ∷ ds) xs h = let m = made_of before d ds xs h in ap length m.all ∙ ap suc (lengths (before ++ d ∷ []) ds m.rest m.later)

  pub each_has : (Q : X → Type 0) → ((before : List D) (d : D) (x : X) → makes before d ≡ Ok x → Q x) → (before ds : List D) (xs : List X) → each_of makes before ds ≡ Ok xs → AllByRecursion Q xs
  each_has Q has before [] xs h = rw (none_of before xs h) tt
  each_has Q has before (d ∷ ds) xs h =
      let m = made_of before d ds xs h in
      rw m.all (has before d m.first m.made, each_has Q has (before ++ d ∷ []) ds m.rest m.later)

  module _ {K : Type 0} (same : K → K → Bool) (of : D → K) (key : X → K)
      (fresh : (before : List D) (d : D) (x : X) → makes before d ≡ Ok x → (list_any (λ c. same (of c) (of d)) before ≡ false) × (key x ≡ of d)) where
    abbrev Apart : List X → D → Type 0
    Apart xs b = AllByRecursion (λ k. same (of b) k ≡ false) (map key xs)

    apart_more : (before : List D) (x : X) (xs : List X) → list_any (λ c. same (of c) (key x)) before ≡ false → AllByRecursion (Apart xs) before → AllByRecursion (Apart (x ∷ xs)) before
    apart_more [] x xs none h = tt
    apart_more (b ∷ bs) x xs none h =
        let both = neither (same (of b) (key x)) (list_any (λ c. same (of c) (key x)) bs) none in
        ((both.0, h.0), apart_more bs x xs both.1 h.1)

    apart : (before ds : List D) (xs : List X) → each_of makes before ds ≡ Ok xs → AllByRecursion (Apart xs) before × IsDistinct same (map key xs)
    unfolding IsDistinct
    apart before [] xs h = rw (none_of before xs h) (all_nothing (Apart []) (λ b. tt) before, tt)
    apart before (d ∷ ds) xs h =
        let m = made_of before d ds xs h in
        let f = fresh before d m.first m.made in
        let later = apart (before ++ d ∷ []) ds m.rest m.later in
        let parts = all_front (Apart m.rest) before d later.0 in
        let none : list_any (λ c. same (of c) (key m.first)) before ≡ false = rw f.1 f.0 in
        rw m.all (apart_more before m.first m.rest none parts.0, (rw f.1 parts.1, later.1))

    pub distinct : (ds : List D) (xs : List X) → each_of makes [] ds ≡ Ok xs → IsDistinct same (map key xs)
    distinct ds xs h = (apart [] ds xs h).1

  pub few_made : (most : ℕ) (drafts : Placed (List D)) (xs : List X) → each_within most makes drafts ≡ Ok xs → (length xs ≤ most) × (each_of makes [] drafts.value ≡ Ok xs)
  few_made most drafts xs h =
      let p = provided (nat_le (length drafts.value) most) _ _ xs h in
      let fits : length drafts.value ≤ most = grind (arith, nat_tests, p.0) in
      (omega (arith, fits, lengths [] drafts.value xs p.1), p.1)

-- ---- where no two have the same key, each is found by its own
module _ {X K : Type 0} (same : K → K → Bool) (itself : (k : K) → same k k ≡ true) (turned : (j k : K) → same j k ≡ false → same k j ≡ false) (key : X → K) where
  abbrev FoundIn : List X → X → Type 0
  FoundIn xs x = find (λ y. same (key x) (key y)) xs ≡ Some x

  found_behind : (x : X) (ys xs : List X) → AllByRecursion (λ k. same (key x) k ≡ false) (map key ys) → AllByRecursion (FoundIn xs) ys → AllByRecursion (FoundIn (x ∷ xs)) ys
  found_behind x [] xs apart h = tt
  found_behind x (y ∷ ys) xs apart h =
      (ap (λ b. cond b (Some x) (find (λ z. same (key y) (key z)) xs)) (turned (key x) (key y) apart.0) ∙ h.0, found_behind x ys xs apart.1 h.1)

  pub each_found : (xs : List X) → IsDistinct same (map key xs) → AllByRecursion (FoundIn xs) xs
  unfolding IsDistinct
  each_found [] h = tt
  each_found (x ∷ xs) h =
      (ap (λ b. cond b (Some x) (find (λ z. same (key x) (key z)) xs)) (itself (key x)), found_behind x xs xs h.0 (each_found xs h.1))
