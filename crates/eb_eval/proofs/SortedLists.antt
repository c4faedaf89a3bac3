-- Lists in a strict order: one alone has given items, and it is what inserting them one by one makes.
use mathlib.Core.Logic.{◌⊎◌, inl, inr}
use Rattle.std.proofs.Common.{◌≡◌, List, [], ◌∷◌, refl, sym, ◌∙◌, ap, subst, arith, ⊎_elim}
use Rattle.std.specs.BTreeSet.{insert_key}
use Rattle.std.specs.Cmp.{IsTotalOrder}
use Rattle.std.specs.List.{Contains, AllByRecursion}
use Rattle.std.specs.List.Sorted.{IsStrictlySortedBy}
use Rattle.std.specs.Ordering.{match_ordering, ordering_reverse}
use Rattle.std.specs.declared.cmp.Ordering.{Ordering}
use Rattle.std.specs.declared.cmp.Ordering.TheVariants.{Less, Equal, Greater}
use Rattle.std.proofs.lemmas.Cmp.{tied_itself}
use Rattle.std.proofs.lemmas.List.Elements.{Contains-append_left, Contains-append_right, Contains-append_cases, Contains-push, Contains-push_cases}
use Rattle.std.proofs.lemmas.Map.Keys.{sorted_head, sorted_tail}
use Rattle.std.proofs.lemmas.Map.Lookups.{CmpEqualImpliesEq}

-- ---- membership, by recursion

abbrev pub In : {K : Type 0} → List K → K → Type 0
In [] x = ⊥
In (y ∷ ys) x = (y ≡ x) ⊎ In ys x

none_in : {K : Type 0} (x : K) → Contains [] x → ⊥
none_in x c = omega (arith, c.1)

is_only : {K : Type 0} (y x : K) → Contains (y ∷ []) x → y ≡ x
is_only y x c = ⊎_elim (λ none. absurd (none_in x none)) (λ e. e) (Contains-push_cases [] y x c)

pub in_list : {K : Type 0} (xs : List K) (x : K) → Contains xs x → In xs x
in_list [] x c = none_in x c
in_list (y ∷ ys) x c = ⊎_elim (λ first. inl (is_only y x first)) (λ later. inr (in_list ys x later)) (Contains-append_cases (y ∷ []) ys x c)

at_front : {K : Type 0} (y : K) (ys : List K) (x : K) → y ≡ x → Contains (y ∷ ys) x
at_front y ys x e = subst (Contains (y ∷ ys)) e (Contains-append_left (y ∷ []) ys y (Contains-push [] y))

pub list_has : {K : Type 0} (xs : List K) (x : K) → In xs x → Contains xs x
list_has [] x h = absurd h
list_has (y ∷ ys) x h = ⊎_elim (at_front y ys x) (λ later. Contains-append_right (y ∷ []) ys x (list_has ys x later)) h

-- what holds of each holds of one that is in the list
each_in : {K : Type 0} (P : K → Type 0) (xs : List K) (x : K) → AllByRecursion P xs → In xs x → P x
each_in P [] x all h = absurd h
each_in P (y ∷ ys) x all h = ⊎_elim (λ e. subst P e all.0) (λ later. each_in P ys x all.1 later) h

from_each : {K : Type 0} (P : K → Type 0) (xs : List K) → ((x : K) → In xs x → P x) → AllByRecursion P xs
from_each P [] h = tt
from_each P (y ∷ ys) h = (h y (inl refl), from_each P ys (λ x later. h x (inr later)))

-- ---- one list alone

less_apart : {K : Type 0} (R : K → K → Ordering) (o : IsTotalOrder R) (x y : K) → R x y ≡ Less → R y x ≡ Less → ⊥
less_apart R o x y h k = let e : R x y ≡ Greater = o.antisymm x y ∙ ap ordering_reverse k in absurd (cc)

less_other : {K : Type 0} (R : K → K → Ordering) (o : IsTotalOrder R) (x y : K) → x ≡ y → R x y ≡ Less → ⊥
less_other R o x y e h = let t : R x y ≡ Equal = subst (λ z. R x z ≡ Equal) e (tied_itself o x) in absurd (cc)

-- the first item is below one that stands behind it
first_below : {K : Type 0} (R : K → K → Ordering) (x : K) (xs : List K) (z : K) → IsStrictlySortedBy R (x ∷ xs) → In xs z → R x z ≡ Less
first_below R x xs z s h = each_in (λ y. R x y ≡ Less) xs z (sorted_head R x xs s) h

same_first : {K : Type 0} (R : K → K → Ordering) (o : IsTotalOrder R) (x : K) (xs : List K) (y : K) (ys : List K)
    → IsStrictlySortedBy R (x ∷ xs) → IsStrictlySortedBy R (y ∷ ys) → In (y ∷ ys) x → In (x ∷ xs) y → x ≡ y
same_first R o x xs y ys s t a b =
    ⊎_elim (λ e. sym e) (λ later. ⊎_elim (λ e. e) (λ other. absurd (less_apart R o x y (first_below R x xs y s other) (first_below R y ys x t later))) b) a

-- an item behind the first one of one list stands behind that of the other
behind : {K : Type 0} (R : K → K → Ordering) (o : IsTotalOrder R) (x : K) (xs : List K) (y : K) (ys : List K) (z : K)
    → x ≡ y → IsStrictlySortedBy R (x ∷ xs) → In xs z → In (y ∷ ys) z → In ys z
behind R o x xs y ys z e s h a = ⊎_elim (λ k. absurd (less_other R o x z (e ∙ k) (first_below R x xs z s h))) (λ later. later) a

pub same_list : {K : Type 0} (R : K → K → Ordering) (o : IsTotalOrder R) (xs ys : List K)
    → IsStrictlySortedBy R xs → IsStrictlySortedBy R ys → ((z : K) → In xs z → In ys z) → ((z : K) → In ys z → In xs z) → xs ≡ ys
same_list R o [] [] s t f g = refl
same_list R o [] (y ∷ ys) s t f g = absurd (g y (inl refl))
same_list R o (x ∷ xs) [] s t f g = absurd (f x (inl refl))
same_list R o (x ∷ xs) (y ∷ ys) s t f g =
    let e : x ≡ y = same_first R o x xs y ys s t (f x (inl refl)) (g y (inl refl)) in
    let rest : xs ≡ ys = same_list R o xs ys (sorted_tail R x xs s) (sorted_tail R y ys t)
    (λ z h. behind R o x xs y ys z e s h (f z (inr h))) (λ z h. behind R o y ys x xs z (sym e) t h (g z (inr h))) in
    ap (λ k. k ∷ xs) e ∙ ap (λ ks. y ∷ ks) rest

-- ---- inserting

inserted_where : {K : Type 0} (R : K → K → Ordering) (x : K) (xs : List K) (k z : K) (r : Ordering)
    → (In (insert_key R xs k) z → (k ≡ z) ⊎ In xs z)
    → In (match_ordering r (k ∷ x ∷ xs) (x ∷ xs) (x ∷ insert_key R xs k)) z → (k ≡ z) ⊎ In (x ∷ xs) z
inserted_where R x xs k z Less more h = h
inserted_where R x xs k z Equal more h = inr h
inserted_where R x xs k z Greater more h = ⊎_elim (λ e. inr (inl e)) (λ later. ⊎_elim (λ e. inl e) (λ old. inr (inr old)) (more later)) h

-- what is there after inserting k was there, or is k
pub inserted_from : {K : Type 0} (R : K → K → Ordering) (xs : List K) (k z : K) → In (insert_key R xs k) z → (k ≡ z) ⊎ In xs z
inserted_from R [] k z h = h
inserted_from R (x ∷ xs) k z h = inserted_where R x xs k z (R k x) (inserted_from R xs k z) h

kept_where : {K : Type 0} (R : K → K → Ordering) (x : K) (xs : List K) (k z : K) (r : Ordering)
    → (In xs z → In (insert_key R xs k) z)
    → In (x ∷ xs) z → In (match_ordering r (k ∷ x ∷ xs) (x ∷ xs) (x ∷ insert_key R xs k)) z
kept_where R x xs k z Less more h = inr h
kept_where R x xs k z Equal more h = h
kept_where R x xs k z Greater more h = ⊎_elim (λ e. inl e) (λ later. inr (more later)) h

-- what was there still is
pub inserted_keeps : {K : Type 0} (R : K → K → Ordering) (xs : List K) (k z : K) → In xs z → In (insert_key R xs k) z
inserted_keeps R [] k z h = absurd h
inserted_keeps R (x ∷ xs) k z h = kept_where R x xs k z (R k x) (inserted_keeps R xs k z) h

itself_where : {K : Type 0} (R : K → K → Ordering) (exact : CmpEqualImpliesEq R) (x : K) (xs : List K) (k : K) (r : Ordering) → R k x ≡ r
    → In (insert_key R xs k) k → In (match_ordering r (k ∷ x ∷ xs) (x ∷ xs) (x ∷ insert_key R xs k)) k
itself_where R exact x xs k Less is more = inl refl
itself_where R exact x xs k Equal is more = inl (sym (exact k x is))
itself_where R exact x xs k Greater is more = inr more

-- and k is there
pub inserted_itself : {K : Type 0} (R : K → K → Ordering) (exact : CmpEqualImpliesEq R) (xs : List K) (k : K) → In (insert_key R xs k) k
inserted_itself R exact [] k = inl refl
inserted_itself R exact (x ∷ xs) k = itself_where R exact x xs k (R k x) refl (inserted_itself R exact xs k)

in_strict_order : {K : Type 0} (R : K → K → Ordering) (x : K) (xs : List K) → ((z : K) → In xs z → R x z ≡ Less) → IsStrictlySortedBy R xs → IsStrictlySortedBy R (x ∷ xs)
unfolding IsStrictlySortedBy
in_strict_order R x xs low s = (from_each (λ y. R x y ≡ Less) xs low, s)

below_both : {K : Type 0} (R : K → K → Ordering) (o : IsTotalOrder R) (x : K) (xs : List K) (k z : K) → R k x ≡ Less → IsStrictlySortedBy R (x ∷ xs) → In (x ∷ xs) z → R k z ≡ Less
below_both R o x xs k z h s a = ⊎_elim (λ e. subst (λ y. R k y ≡ Less) e h) (λ later. o.trans k x z h (first_below R x xs z s later)) a

above_first : {K : Type 0} (R : K → K → Ordering) (o : IsTotalOrder R) (x : K) (xs : List K) (k z : K) → R k x ≡ Greater → IsStrictlySortedBy R (x ∷ xs)
    → In (insert_key R xs k) z → R x z ≡ Less
above_first R o x xs k z h s a =
    let low : R x k ≡ Less = o.antisymm x k ∙ ap ordering_reverse h in
    ⊎_elim (λ e. subst (λ y. R x y ≡ Less) e low) (λ old. first_below R x xs z s old) (inserted_from R xs k z a)

order_where : {K : Type 0} (R : K → K → Ordering) (o : IsTotalOrder R) (x : K) (xs : List K) (k : K) (r : Ordering) → R k x ≡ r → IsStrictlySortedBy R (x ∷ xs)
    → IsStrictlySortedBy R (insert_key R xs k) → IsStrictlySortedBy R (match_ordering r (k ∷ x ∷ xs) (x ∷ xs) (x ∷ insert_key R xs k))
order_where R o x xs k Less is s more = in_strict_order R k (x ∷ xs) (λ z a. below_both R o x xs k z is s a) s
order_where R o x xs k Equal is s more = s
order_where R o x xs k Greater is s more = in_strict_order R x (insert_key R xs k) (λ z a. above_first R o x xs k z is s a) more

pub nothing_sorted : {K : Type 0} (R : K → K → Ordering) → IsStrictlySortedBy R []
unfolding IsStrictlySortedBy
nothing_sorted R = tt

pub inserted_sorted : {K : Type 0} (R : K → K → Ordering) (o : IsTotalOrder R) (xs : List K) (k : K) → IsStrictlySortedBy R xs → IsStrictlySortedBy R (insert_key R xs k)
inserted_sorted R o [] k s = in_strict_order R k [] (λ z h. absurd h) s
inserted_sorted R o (x ∷ xs) k s = order_where R o x xs k (R k x) refl s (inserted_sorted R o xs k (sorted_tail R x xs s))
