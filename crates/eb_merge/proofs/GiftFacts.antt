-- What stands after a baker has given a component too, by where the component's type stands.
use Rattle.std.proofs.Common.{◌≡◌, ℕ, zero, suc, ◌<◌, ◌≤◌, List, [], ◌∷◌, length, map, take, Bool, true, false, cond, nat_eq, Option, Some, None, Ok, Err, Less, refl, sym, ap, ◌∙◌, ◌++◌, append-nil, arith, subst, ◌-◌, drop, length-drop}
use Rattle.std.specs.Prelude.{slice_get, slice_set, IfSome}
use Rattle.std.specs.List.{insert, AllByRecursion}
use Rattle.std.specs.List.Sorted.{IsStrictlySortedBy}
use Rattle.std.specs.Ordering.{nat_cmp}
use Rattle.std.proofs.lemmas.Bool.Decides.{nat_tests}
use Rattle.std.proofs.lemmas.List.{length-map, length-take, drop_all, take_all}
use Rattle.eb_base.specs.declared.names.Name.{Name}
use Rattle.eb_schema.specs.declared.rows.Cell.{Cell}
use Rattle.eb_schema.specs.Rows.{most_kinds, kinds_of, with_item, IsRow}
use Rattle.eb_schema.specs.TypeOrder.{place_of}
use Rattle.eb_schema.proofs.TypeOrderFacts.{put_at, put_at_place, found_at, found_at_place, sorted_with}
use Rattle.eb_eval.specs.declared.issues.Issue.{Issue}
use Rattle.eb_merge.specs.declared.own_cells.Standing.{Standing}
use Rattle.eb_merge.specs.Standing.{kind_of, standing_at, noted, given, with_gift, row_of, too_many_of, type_beyond}

abbrev Kinds : List Standing → List ℕ
Kinds xs = map kind_of xs

-- ---- what is found is of the type

found_where : (b : Bool) (k : ℕ) (y x : Standing) (rest : Option Standing) → nat_eq (kind_of y) k ≡ b → cond b (Some y) rest ≡ Some x → (rest ≡ Some x → kind_of x ≡ k) → kind_of x ≡ k
found_where true k y x rest is found later =
    let here : kind_of y ≡ k = grind (arith, nat_tests) in
    let same : y ≡ x = cc in
    ap kind_of (sym same) ∙ here
found_where false k y x rest is found later = later found

pub kind_found : (k : ℕ) (xs : List Standing) (x : Standing) → standing_at xs k ≡ Some x → kind_of x ≡ k
kind_found k [] x found = cc
kind_found k (y ∷ ys) x found = found_where (nat_eq (kind_of y) k) k y x (standing_at ys k) refl found (kind_found k ys x)

missing : (at : ℕ) (xs : List Standing) → at < length xs → slice_get xs at ≡ None → ⊥
missing at [] within none = omega arith
missing zero (x ∷ xs) within none = cc
missing (suc at) (x ∷ xs) within none = missing at xs (omega arith) none

-- ---- one more component

module _ (baker : ℕ) (xs : List Standing) (c : Cell) (sorted : IsStrictlySortedBy nat_cmp (Kinds xs)) where
  pub sorted_gift : IsStrictlySortedBy nat_cmp (Kinds (with_gift baker xs c))
  sorted_gift = sorted_with kind_of (given baker c (standing_at xs c.kind)) xs sorted

  -- ---- its type stands at a place
  module _ (at : ℕ) (is : Ok at ≡ place_of kind_of c.kind xs) (within : at < length xs) where
    stands_here : slice_get xs at ≡ standing_at xs c.kind
    stands_here = ap (λ r. found_at kind_of r xs) is ∙ found_at_place kind_of c.kind xs sorted

    put_noted : (x : Standing) → standing_at xs c.kind ≡ Some x → slice_set xs at (noted baker x) ≡ with_gift baker xs c
    put_noted x found =
        let same : Ok at ≡ place_of kind_of (kind_of (noted baker x)) xs = is ∙ ap (λ k. place_of kind_of k xs) (sym (kind_found c.kind xs x found)) in
        ap (λ r. put_at kind_of r xs (noted baker x)) same ∙ put_at_place kind_of (noted baker x) xs
        ∙ ap (λ o. with_item kind_of (given baker c o) xs) (sym found)

    noted_where : (o : Option Standing) (ys : List Standing) → slice_get xs at ≡ o → IfSome o (λ x. ys ≡ slice_set xs at (noted baker x)) → ys ≡ with_gift baker xs c
    noted_where None ys found h = absurd (missing at xs within found)
    noted_where (Some x) ys found h = h ∙ put_noted x (sym stands_here ∙ found)

    pub noted_gift : (ys : List Standing) → IfSome (slice_get xs at) (λ x. ys ≡ slice_set xs at (noted baker x)) → ys ≡ with_gift baker xs c
    noted_gift ys h = noted_where (slice_get xs at) ys refl h

  -- ---- none of its type stands
  pub new_gift : (at : ℕ) → Err at ≡ place_of kind_of c.kind xs → insert xs at (record { cell = c; others = [] }) ≡ with_gift baker xs c
  new_gift at is =
      let fresh : Standing = record { cell = c; others = [] } in
      let none : standing_at xs c.kind ≡ None = sym (ap (λ r. found_at kind_of r xs) is ∙ found_at_place kind_of c.kind xs sorted) in
      ap (λ r. put_at kind_of r xs fresh) is ∙ put_at_place kind_of fresh xs ∙ ap (λ o. with_item kind_of (given baker c o) xs) (sym none)

-- ---- as the code comes to it

pub noted_here : (baker : ℕ) (xs ss ys : List Standing) (c : Cell) (at : ℕ) → IsStrictlySortedBy nat_cmp (Kinds xs) → ss ≡ xs → Ok at ≡ place_of kind_of c.kind ss → at < length ss
    → IfSome (slice_get xs at) (λ x. ys ≡ slice_set xs at (noted baker x)) → ys ≡ with_gift baker xs c
noted_here baker xs ss ys c at sorted same is within h =
    noted_gift baker xs c sorted at (is ∙ ap (place_of kind_of c.kind) same) (subst (λ zs. at < length zs) same within) ys h

pub new_here : (baker : ℕ) (xs ss ys : List Standing) (c : Cell) (at : ℕ) → IsStrictlySortedBy nat_cmp (Kinds xs) → ss ≡ xs → Err at ≡ place_of kind_of c.kind ss
    → ys ≡ insert xs at (record { cell = c; others = [] }) → ys ≡ with_gift baker xs c
new_here baker xs ss ys c at sorted same is h = h ∙ new_gift baker xs c sorted at (is ∙ ap (place_of kind_of c.kind) same)

pub sorted_along : (baker : ℕ) (xs ys : List Standing) (c : Cell) → IsStrictlySortedBy nat_cmp (Kinds xs) → ys ≡ with_gift baker xs c → IsStrictlySortedBy nat_cmp (Kinds ys)
sorted_along baker xs ys c sorted is = subst (λ zs. IsStrictlySortedBy nat_cmp (Kinds zs)) (sym is) (sorted_gift baker xs c sorted)

pub none_sorted : IsStrictlySortedBy nat_cmp (Kinds [])
unfolding IsStrictlySortedBy
none_sorted = tt

-- ---- the row

below_take : (n j : ℕ) (xs : List Standing) → AllByRecursion (λ k. nat_cmp j k ≡ Less) (Kinds xs) → AllByRecursion (λ k. nat_cmp j k ≡ Less) (Kinds (take n xs))
below_take zero j xs h = tt
below_take (suc n) j [] h = tt
below_take (suc n) j (x ∷ xs) h = (h.0, below_take n j xs h.1)

sorted_take : (n : ℕ) (xs : List Standing) → IsStrictlySortedBy nat_cmp (Kinds xs) → IsStrictlySortedBy nat_cmp (Kinds (take n xs))
unfolding IsStrictlySortedBy
sorted_take zero xs h = tt
sorted_take (suc n) [] h = tt
sorted_take (suc n) (x ∷ xs) h = (below_take n (kind_of x) xs h.0, sorted_take n xs h.1)

kinds_of_cells : (xs : List Standing) → kinds_of (map (λ x. x.cell) xs) ≡ Kinds xs
kinds_of_cells [] = refl
kinds_of_cells (x ∷ xs) = ap (λ ks. kind_of x ∷ ks) (kinds_of_cells xs)

pub is_row : (xs : List Standing) → IsStrictlySortedBy nat_cmp (Kinds xs) → IsRow (row_of xs)
is_row xs sorted = record {
  order = rw (kinds_of_cells (take most_kinds xs)) (sorted_take most_kinds xs sorted);
  few = omega (arith, length-map (take most_kinds xs) (λ (x : Standing). x.cell), length-take most_kinds xs);
}

-- ---- what is left out

pub none_beyond : (name : Name) (xs : List Standing) (out : List Issue) → length xs ≤ 32 → out ≡ out ++ too_many_of name xs
none_beyond name xs out few = sym (ap (λ ys. out ++ map (type_beyond name) ys) (drop_all most_kinds xs few) ∙ append-nil out)

-- all behind the 32 lowest
pub all_beyond : (n : ℕ) (xs : List Standing) → take (length xs - n) (drop n xs) ≡ drop n xs
all_beyond n xs = take_all (length xs - n) (drop n xs) (omega (arith, length-drop n xs))
