-- A list has one ascending list of its members, and `each_once` gives it.
use Rattle.std.proofs.Common.{◌≡◌, Bool, true, false, ◌||◌, List, [], ◌∷◌, refl, sym, ap, ◌∙◌}
use Rattle.std.specs.Cmp.{IsTotalOrder}
use Rattle.std.specs.List.{AllByRecursion}
use Rattle.std.specs.List.Sorted.{IsStrictlySortedBy}
use Rattle.std.specs.Ordering.{eq_by_cmp, ordering_reverse}
use Rattle.std.specs.declared.cmp.Ordering.{Ordering}
use Rattle.std.specs.declared.cmp.Ordering.TheVariants.{Less, Equal, Greater}
use Rattle.std.proofs.lemmas.Map.Lookups.{CmpEqualImpliesEq, btree_set_from_contains}
use Rattle.eb_file.specs.Ascending.{has, IsEachOnce, by_order, put_once, each_once}

or_again : (a b : Bool) → (a || b) ≡ (a || (a || b))
or_again true b = refl
or_again false b = refl

or_swap : (a b c : Bool) → (a || (b || c)) ≡ (b || (a || c))
or_swap true true c = refl
or_swap true false c = refl
or_swap false b c = refl

turned : (r s : Ordering) → r ≡ ordering_reverse s → r ≡ Greater → s ≡ Less
turned r Less e g = refl
turned r Equal e g = absurd (cc)
turned r Greater e g = absurd (cc)

module _ {X : Type 0} {R : X → X → Ordering} (o : IsTotalOrder R) where
  -- what is below an element is below all that this element is below
  below-all : (x y : X) (ys : List X) → R x y ≡ Less → AllByRecursion (λ z. R y z ≡ Less) ys → AllByRecursion (λ z. R x z ≡ Less) ys
  below-all x y [] less all = tt
  below-all x y (z ∷ zs) less all = (o.trans x y z less all.0, below-all x y zs less all.1)

  below-put_once : (k x : X) (ys : List X) → R k x ≡ Less → AllByRecursion (λ z. R k z ≡ Less) ys → AllByRecursion (λ z. R k z ≡ Less) (put_once R x ys)
  unfolding put_once
  below-put_once k x [] less all = (less, tt)
  below-put_once k x (y ∷ ys) less all =
      elim (R x y) as (λ r. AllByRecursion (λ z. R k z ≡ Less) (by_order r (x ∷ y ∷ ys) (y ∷ ys) (y ∷ put_once R x ys))) [
        | Less ↦ (less, all)
        | Equal ↦ all
        | Greater ↦ (all.0, below-put_once k x ys less all.1)
      ]

  sorted-put_once : (x : X) (ys : List X) → IsStrictlySortedBy R ys → IsStrictlySortedBy R (put_once R x ys)
  unfolding put_once IsStrictlySortedBy
  sorted-put_once x [] s = (tt, tt)
  sorted-put_once x (y ∷ ys) s =
      elim (R x y) as (λ r. R x y ≡ r → IsStrictlySortedBy R (by_order r (x ∷ y ∷ ys) (y ∷ ys) (y ∷ put_once R x ys))) [
        | Less ↦ λ e. ((e, below-all x y ys e s.0), s)
        | Equal ↦ λ e. s
        | Greater ↦ λ e. (below-put_once y x ys (turned (R x y) (R y x) (o.antisymm x y) e) s.0, sorted-put_once x ys s.1)
      ] refl

  sorted-each_once : (xs : List X) → IsStrictlySortedBy R (each_once R xs)
  unfolding each_once IsStrictlySortedBy
  sorted-each_once [] = tt
  sorted-each_once (x ∷ xs) = sorted-put_once x (each_once R xs) (sorted-each_once xs)

  module _ (exact : CmpEqualImpliesEq R) where
    has-put_once : (x : X) (ys : List X) (q : X) → has R (put_once R x ys) q ≡ (eq_by_cmp R q x || has R ys q)
    unfolding put_once
    has-put_once x [] q = refl
    has-put_once x (y ∷ ys) q =
        elim (R x y) as (λ r. R x y ≡ r → has R (by_order r (x ∷ y ∷ ys) (y ∷ ys) (y ∷ put_once R x ys)) q ≡ (eq_by_cmp R q x || (eq_by_cmp R q y || has R ys q))) [
          | Less ↦ λ e. refl
          | Equal ↦ λ e. or_again (eq_by_cmp R q y) (has R ys q) ∙ ap (λ (z : X). eq_by_cmp R q z || (eq_by_cmp R q y || has R ys q)) (sym (exact x y e))
          | Greater ↦ λ e. ap (λ (b : Bool). eq_by_cmp R q y || b) (has-put_once x ys q) ∙ or_swap (eq_by_cmp R q y) (eq_by_cmp R q x) (has R ys q)
        ] refl

    has-each_once : (xs : List X) (q : X) → has R (each_once R xs) q ≡ has R xs q
    unfolding each_once
    has-each_once [] q = refl
    has-each_once (x ∷ xs) q = has-put_once x (each_once R xs) q ∙ ap (λ (b : Bool). eq_by_cmp R q x || b) (has-each_once xs q)

    pub each_once-IsEachOnce : (xs : List X) → IsEachOnce R (each_once R xs) xs
    each_once-IsEachOnce xs = record { order = sorted-each_once xs; members = has-each_once xs }

    -- two ascending lists of the same members are equal
    pub one_ascending : (a b xs : List X) → IsEachOnce R a xs → IsEachOnce R b xs → a ≡ b
    one_ascending a b xs p q = btree_set_from_contains o (record { keys = a }) (record { keys = b }) p.order q.order (λ x. p.members x ∙ sym (q.members x)) exact
