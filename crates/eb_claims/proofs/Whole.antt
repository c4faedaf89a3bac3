-- Lists that weigh the same however numbers are weighed have the same elements; so a seat of the whole share that has noted a stop has each item once.
use Rattle.std.proofs.Common.{◌≡◌, ℕ, zero, suc, ◌+◌, ◌<◌, min, cond, eqb, List, [], ◌∷◌, ◌++◌, refl, sym, ap, ◌∙◌, subst, arith, IsPermutation, flat_map, append_assoc, map-id, eq-eqb, ne_eqb}
use Rattle.std.specs.List.{range_with_len}
use Rattle.std.proofs.lemmas.Grind.{flat_map-append}
use Rattle.std.proofs.lemmas.List.Concat.{flat_map_single}
use Rattle.std.proofs.lemmas.List.Sorted.{IsPermutation-refl, IsPermutation-trans, IsPermutation-append_right, IsPermutation-append_left, IsPermutation-append_comm}
use mathlib.Core.Logic.{dite}
use mathlib.Core.Option.{some}
use native.Mathlib.Decide.{ℕ_discrete}
use lib.ListN.{get_elem?}
use Rattle.eb_claims.specs.declared.rule.View.{View}
use Rattle.eb_claims.specs.declared.rule.Work.{Work}
use Rattle.eb_claims.specs.Claiming.{weighed, below, EachOnce, AreFair}
use Rattle.eb_claims.proofs.Weights.{weighed-append, alone}

-- 1 at one number, and 0 at all others
abbrev one_at : ℕ → ℕ → ℕ
one_at x y = cond (eqb x y) 1 0

one_here : (x y : ℕ) → x ≡ y → one_at x y ≡ 1
one_here x y is = ap (λ b. cond b 1 0) (eq-eqb x y is)

none_there : (x y : ℕ) → (x ≡ y → ⊥) → one_at x y ≡ 0
none_there x y differs = ap (λ b. cond b 1 0) (ne_eqb x y differs)

record Parted (x : ℕ) (list : List ℕ) : Type 0 where
  pub front : List ℕ
  pub back : List ℕ
  pub is : list ≡ front ++ x ∷ back

parted : (x : ℕ) (list : List ℕ) → 0 < weighed (one_at x) list → Parted x list
parted x [] some_weight = absurd (omega arith)
parted x (y ∷ list) some_weight = dite (ℕ_discrete x y)
    (λ same. record { front = []; back = list; is = ap (λ z. z ∷ list) (sym same) })
    (λ differs.
    let zero_here = none_there x y differs in
    let rest = parted x list (omega arith) in
    record { front = y ∷ rest.front; back = rest.back; is = ap (λ l. y ∷ l) rest.is })

nothing_weighs : (list : List ℕ) → 0 ≡ weighed (λ _. 1) list → list ≡ []
nothing_weighs [] is = refl
nothing_weighs (x ∷ list) is = absurd (omega arith)

-- in three parts the middle one can stand in front
to_front : {X : Type 0} (a b c : List X) → IsPermutation (b ++ (a ++ c)) (a ++ (b ++ c))
to_front a b c =
    subst (λ l. IsPermutation l (a ++ (b ++ c))) (append_assoc b a c)
    (subst (IsPermutation ((b ++ a) ++ c)) (append_assoc a b c) (IsPermutation-append_left c (b ++ a) (a ++ b) (IsPermutation-append_comm b a)))

-- what two lists that weigh the same give, item by item
pub spread : {X : Type 0} (r : ℕ → List X) (xs ys : List ℕ) → ((weight : ℕ → ℕ) → weighed weight xs ≡ weighed weight ys) → IsPermutation (flat_map r xs) (flat_map r ys)
spread r [] ys alike = subst (λ l. IsPermutation [] (flat_map r l)) (sym (nothing_weighs ys (alike (λ _. 1)))) (IsPermutation-refl [])
spread {X} r (x ∷ xs) ys alike =
    let mine = one_here x x refl in
    let same = alike (one_at x) in
    let p = parted x ys (omega arith) in
    let rest : (weight : ℕ → ℕ) → weighed weight xs ≡ weighed weight (p.front ++ p.back) = (λ weight.
    let whole = alike weight in
    let parts = ap (weighed weight) p.is in
    let apart = weighed-append weight p.front (x ∷ p.back) in
    let without = weighed-append weight p.front p.back in
    omega arith) in
    let more : IsPermutation (r x ++ flat_map r xs) (r x ++ flat_map r (p.front ++ p.back)) = IsPermutation-append_right (r x) _ _ (spread r xs (p.front ++ p.back) rest) in
    let moved : IsPermutation (r x ++ (flat_map r p.front ++ flat_map r p.back)) (flat_map r p.front ++ (r x ++ flat_map r p.back)) = to_front (flat_map r p.front) (r x) (flat_map r p.back) in
    let here = subst (λ (l : List X). IsPermutation (r x ++ flat_map r xs) (r x ++ l)) (flat_map-append r p.front p.back) more in
    let there : flat_map r p.front ++ (r x ++ flat_map r p.back) ≡ flat_map r ys = sym (flat_map-append r p.front (x ∷ p.back)) ∙ ap (flat_map r) (sym p.is) in
    subst (IsPermutation (r x ++ flat_map r xs)) there (IsPermutation-trans _ _ _ here moved)

each_alone : (xs : List ℕ) → flat_map (λ x. x ∷ []) xs ≡ xs
each_alone xs = flat_map_single (λ (x : ℕ). x) xs ∙ map-id xs

shuffled : (xs ys : List ℕ) → ((weight : ℕ → ℕ) → weighed weight xs ≡ weighed weight ys) → IsPermutation xs ys
shuffled xs ys alike = subst (λ (z : List ℕ × List ℕ). IsPermutation z.0 z.1) (λ i. (each_alone xs i, each_alone ys i)) (spread (λ x. x ∷ []) xs ys alike)

pub once_weighed : (n : ℕ) (list : List ℕ) → ((weight : ℕ → ℕ) → weighed weight list ≡ below weight n) → EachOnce n list
once_weighed n list alike = shuffled (range_with_len 0 n) list (λ weight. sym (alike weight))

-- a view of the whole share that has noted a stop has each item once
pub whole_once : (k : Work) (word : ℕ) (views : List View) (at : ℕ) (v : View) → AreFair k word views → get_elem? views at ≡ some v → v.share ≡ k.workers → 0 < v.stops → EachOnce k.items v.list
whole_once k word views at v h is whole stop = once_weighed k.items v.list (λ weight.
    let passed : k.items < word = (h.each at v is).stopped stop in
    let full : min word k.items ≡ k.items = omega arith in
    let mine = alone (λ (u : View). weighed weight u.list) (λ u. u.share) views at v is (h.shares ∙ sym whole) (λ there u here gone. ap (weighed weight) ((h.each there u here).spent gone)) in
    sym mine ∙ (h.once weight ∙ ap (below weight) full))
