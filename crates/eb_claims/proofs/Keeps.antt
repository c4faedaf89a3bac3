-- Each kind of step keeps the five parts of the rule, whatever the word and the other views are.
use Rattle.std.proofs.Common.{◌≡◌, ℕ, zero, suc, ◌+◌, ◌%◌, ◌^◌, ◌<◌, ◌≤◌, min, Bool, true, false, nat_lt, List, [], ◌∷◌, ◌++◌, length, set, get_or, refl, sym, ap, ◌∙◌, subst, ⊎_elim, arith, length-set, get_or-set_same}
use Rattle.std.proofs.lemmas.Bool.Decides.{nat_tests}
use mathlib.Core.Option.{Option, none, some, some-ne-none}
use mathlib.Core.Logic.{dite}
use native.Mathlib.Decide.{dec_le}
use lib.ListN.{get_elem?}
use Rattle.std.specs.List.{range_with_len}
use Rattle.atomic_table.specs.Table.{step, keeps, Allows, Splits, Joins}
use Rattle.atomic_table.proofs.Lists.{at_set, at_snoc, set_else, set_again}
use Rattle.eb_claims.specs.declared.rule.View.{View}
use Rattle.eb_claims.specs.declared.rule.Work.{Work}
use Rattle.eb_claims.specs.Claiming.{weighed, below, IsFair, AreFair, Holds, EachOnce, Claimed, Learned, claimed, claimed_as, took, stopped, less, fresh, joined, spent}
use Rattle.eb_claims.proofs.Weights.{weighed-append, weighed-set, one_of_all, weighed_at_most, below_next}
use Rattle.eb_claims.proofs.Whole.{whole_once}

at_place : {A : Type 0} (list : List A) (at : ℕ) (old new : A) → get_elem? list at ≡ some old → get_elem? (set list at new) at ≡ some new
at_place [] at old new is = absurd (some-ne-none old (sym is))
at_place (a ∷ list) zero old new is = refl
at_place (a ∷ list) (suc at) old new is = at_place list at old new is

-- what holds of a view holds of it after any further claim
later : (k : Work) (word : ℕ) (v : View) → IsFair k word v → IsFair k (word + 1) v
later k word v h = record { numbers = h.numbers; stops = h.stops; stopped = (λ some_stop. let passed : k.items < word = h.stopped some_stop in omega arith); spent = h.spent }

-- the word can't turn over: it is at most the items and all workers
small : (k : Work) (word : ℕ) (views : List View) → AreFair k word views → word ≤ k.items + k.workers
small k word views h =
    let most = weighed_at_most (λ (v : View). v.stops) (λ v. v.share) views (λ at v is. (h.each at v is).stops) in
    let bound = h.bound in
    let shares = h.shares in
    omega arith

claimed_fair : (k : Work) (word : ℕ) (views : List View) (id : ℕ) (v : View) → AreFair k word views → get_elem? views id ≡ some v → v.stops < v.share
    → (b : Bool) → nat_lt word v.items ≡ b → AreFair k (word + 1) (set views id (claimed_as b v word))
claimed_fair k word views id v h is room true test =
    let mine = h.each id v is in
    let items : v.items ≡ k.items = (mine.numbers (omega arith)).0 in
    let here : word < v.items = grind (arith, nat_tests) in
    record {
      each = λ at u found. ⊎_elim
          (λ t. subst (IsFair k (word + 1)) t.1
          (record { numbers = mine.numbers; stops = mine.stops; stopped = (λ some_stop. let passed : k.items < word = mine.stopped some_stop in omega arith); spent = (λ none_left. absurd (omega arith)) }))
          (λ t. later k word u (h.each at u t.1))
          (at_set views id at (took v word) u found);
      once = λ weight.
          let before = h.once weight in
          let change = weighed-set (λ (u : View). weighed weight u.list) views id v (took v word) is in
          let longer = weighed-append weight v.list (word ∷ []) in
          let next = below_next weight word in
          let old : below weight (min word k.items) ≡ below weight word = ap (below weight) (omega arith) in
          let new : below weight (min (word + 1) k.items) ≡ below weight (word + 1) = ap (below weight) (omega arith) in
          omega arith;
      bound = omega arith;
      shares = (let change = weighed-set (λ (u : View). u.share) views id v (took v word) is in let before = h.shares in omega arith);
    }
claimed_fair k word views id v h is room false test =
    let mine = h.each id v is in
    let items : v.items ≡ k.items = (mine.numbers (omega arith)).0 in
    let past : v.items ≤ word = grind (arith, nat_tests) in
    record {
      each = λ at u found. ⊎_elim
          (λ t. subst (IsFair k (word + 1)) t.1
          (record { numbers = mine.numbers; stops = omega arith; stopped = (λ some_stop. omega arith); spent = (λ none_left. absurd (omega arith)) }))
          (λ t. later k word u (h.each at u t.1))
          (at_set views id at (stopped v) u found);
      once = λ weight.
          let before = h.once weight in
          let change = weighed-set (λ (u : View). weighed weight u.list) views id v (stopped v) is in
          let same : below weight (min (word + 1) k.items) ≡ below weight (min word k.items) = ap (below weight) (omega arith) in
          omega arith;
      bound = (let change = weighed-set (λ (u : View). u.stops) views id v (stopped v) is in let before = h.bound in omega arith);
      shares = (let change = weighed-set (λ (u : View). u.share) views id v (stopped v) is in let before = h.shares in omega arith);
    }

ranged-one : (start n : ℕ) → weighed (λ _. 1) (range_with_len start n) ≡ n
ranged-one start zero = refl
ranged-one start (suc n) = let rest = ranged-one (start + 1) n in omega arith

below-one : (n : ℕ) → below (λ _. 1) n ≡ n
below-one n = ranged-one 0 n

weighed-one : (list : List ℕ) → weighed (λ _. 1) list ≡ length list
weighed-one [] = refl
weighed-one (x ∷ list) = let rest = weighed-one list in omega arith

-- the lists together weigh no more than the items, so none is longer
few : (k : Work) (word : ℕ) (views : List View) (id : ℕ) (v : View) → AreFair k word views → get_elem? views id ≡ some v → length v.list ≤ k.items
few k word views id v h is =
    let mine = one_of_all (λ (u : View). weighed (λ _. 1) u.list) views id v is in
    let all = h.once (λ _. 1) in
    let counted = below-one (min word k.items) in
    let long = weighed-one v.list in
    omega arith

-- the rule of a table whose one word and whose views are these
holds : (k : Work) (words : List ℕ) (homes : List (Option (Unit {0}))) (word : ℕ) (views : List View) → length words ≡ 1 → AreFair k word views → Holds k (record { words = set words 0 word; homes = homes; views = views })
holds k words homes word views one fair = (length-set words 0 word ∙ one, subst (λ (n : ℕ). AreFair k n views) (sym (get_or-set_same words 0 word 0 (omega arith))) fair)

pub claim_keeps : (k : Work) (slots id : ℕ) (v : View) (c : List (ℕ × Unit {0})) → c ≡ [] → k.items + k.workers < 2 ^ 33 → v.stops < v.share
    → Allows (Holds k) slots id (v, c) 0 (λ n. (n + 1) % 2 ^ 64) (Claimed (step slots 0 1 0 none) (v, c))
claim_keeps k slots id v c none_held room more s h _ is _ =
    let word : ℕ = get_or s.words 0 0 in
    let fits = small k word s.views h.1 in
    let w : View = claimed v word in
    let next : word + 1 ≡ (word + 1) % 18446744073709551616 = omega arith in
    let fair = claimed_fair k word s.views id v h.1 is more (nat_lt word v.items) refl in
    let there : get_elem? (set s.views id w) id ≡ some w = at_place s.views id v w is in
    let numbers = ((h.1.each id v is).numbers (omega arith)).0 in
    let long = few k (word + 1) (set s.views id w) id w fair there in
    (w, keeps, tt, holds k s.words s.homes ((word + 1) % 18446744073709551616) (set s.views id w) h.0 (subst (λ (n : ℕ). AreFair k n (set s.views id w)) next fair), (refl, omega arith))

split_fair : (k : Work) (word : ℕ) (views : List View) (id part : ℕ) (v : View) → AreFair k word views → get_elem? views id ≡ some v → 0 < part → v.stops + part + 1 ≤ v.share
    → AreFair k word (set views id (less part v) ++ fresh part v ∷ [])
split_fair k word views id part v h is some_part room =
    let mine = h.each id v is in
    let both = mine.numbers (omega arith) in
    let own : IsFair k word (less part v) = record { numbers = (λ _. both); stops = omega arith; stopped = mine.stopped; spent = (λ none_left. absurd (omega arith)) } in
    let given : IsFair k word (fresh part v) = record { numbers = (λ _. both); stops = omega arith; stopped = (λ none_yet. absurd (omega arith)); spent = (λ _. refl) } in
    record {
      each = λ at u found. ⊎_elim
          (λ old. ⊎_elim (λ t. subst (IsFair k word) t.1 own) (λ t. h.each at u t.1) (at_set views id at (less part v) u old))
          (λ same. subst (IsFair k word) same given)
          (at_snoc (set views id (less part v)) (fresh part v) u at found);
      once = λ weight.
          let before = h.once weight in
          let change = weighed-set (λ (u : View). weighed weight u.list) views id v (less part v) is in
          let more = weighed-append (λ (u : View). weighed weight u.list) (set views id (less part v)) (fresh part v ∷ []) in
          omega arith;
      bound =
          (let before = h.bound in
          let change = weighed-set (λ (u : View). u.stops) views id v (less part v) is in
          let more = weighed-append (λ (u : View). u.stops) (set views id (less part v)) (fresh part v ∷ []) in
          omega arith);
      shares =
          (let before = h.shares in
          let change = weighed-set (λ (u : View). u.share) views id v (less part v) is in
          let more = weighed-append (λ (u : View). u.share) (set views id (less part v)) (fresh part v ∷ []) in
          omega arith);
    }

pub split_keeps : (k : Work) (id part : ℕ) (v : View) → 0 < part → v.stops + part + 1 ≤ v.share → Splits (Holds k) id v (less part v) (fresh part v)
split_keeps k id part v some_part room s h is = (h.0, split_fair k (get_or s.words 0 0) s.views id part v h.1 is some_part room)

joined_fair : (k : Work) (word : ℕ) (v w : View) → IsFair k word v → IsFair k word w → 0 < v.share → IsFair k word (joined v w)
joined_fair k word v w mine theirs some_share =
    let a = mine.stops in
    let b = theirs.stops in
    record {
      numbers = λ _. mine.numbers some_share;
      stops = omega arith;
      stopped = λ some_stop. dite (dec_le 1 v.stops) (λ here. mine.stopped here) (λ none_here. theirs.stopped (omega arith));
      spent = λ none_left. absurd (omega arith);
    }

join_fair : (k : Work) (word : ℕ) (views : List View) (id other : ℕ) (v w : View) → AreFair k word views → get_elem? views id ≡ some v → ¬ (other ≡ id) → get_elem? (set views id (joined v w)) other ≡ some w → 0 < v.share
    → AreFair k word (set (set views id (joined v w)) other spent)
join_fair k word views id other v w h is differs there some_share =
    let mine = h.each id v is in
    let theirs = h.each other w (sym (set_else views id other (joined v w) differs) ∙ there) in
    let both = joined_fair k word v w mine theirs some_share in
    let gone : IsFair k word spent = record { numbers = (λ nothing. absurd (omega arith)); stops = omega arith; stopped = (λ nothing. absurd (omega arith)); spent = (λ _. refl) } in
    record {
      each = λ at u found. ⊎_elim
          (λ t. subst (IsFair k word) t.1 gone)
          (λ t. ⊎_elim (λ r. subst (IsFair k word) r.1 both) (λ r. h.each at u r.1) (at_set views id at (joined v w) u t.1))
          (at_set (set views id (joined v w)) other at spent u found);
      once = λ weight.
          let before = h.once weight in
          let one = weighed-set (λ (u : View). weighed weight u.list) views id v (joined v w) is in
          let two = weighed-set (λ (u : View). weighed weight u.list) (set views id (joined v w)) other w spent there in
          let list = weighed-append weight v.list w.list in
          omega arith;
      bound =
          (let before = h.bound in
          let one = weighed-set (λ (u : View). u.stops) views id v (joined v w) is in
          let two = weighed-set (λ (u : View). u.stops) (set views id (joined v w)) other w spent there in
          omega arith);
      shares =
          (let before = h.shares in
          let one = weighed-set (λ (u : View). u.share) views id v (joined v w) is in
          let two = weighed-set (λ (u : View). u.share) (set views id (joined v w)) other w spent there in
          omega arith);
    }

pub join_keeps : (k : Work) (id other : ℕ) (v w : View) → 0 < v.share → Joins (Holds k) id v other w (joined v w) spent
join_keeps k id other v w some_share s h is differs there = (h.0, join_fair k (get_or s.words 0 0) s.views id other v w h.1 is differs there some_share)

pub learn_keeps : (k : Work) (slots id : ℕ) (v : View) (c : List (ℕ × Unit {0})) → c ≡ [] → 0 < v.share → Allows (Holds k) slots id (v, c) 0 (λ n. n) (Learned (step slots 0 0 0 none) (v, c))
learn_keeps k slots id v c none_held some_share s h _ is _ =
    let word : ℕ = get_or s.words 0 0 in
    let numbers = (h.1.each id v is).numbers some_share in
    let same : AreFair k word (set s.views id v) = subst (AreFair k word) (sym (set_again s.views id v is)) h.1 in (
      v,
      keeps,
      tt,
      holds k s.words s.homes word (set s.views id v) h.0 same,
      (refl, λ whole stop. subst (λ (n : ℕ). EachOnce n v.list) (sym numbers.0) (whole_once k word s.views id v h.1 is (whole ∙ numbers.1) stop)),
    )
