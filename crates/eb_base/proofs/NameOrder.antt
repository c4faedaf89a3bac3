-- Names and places are in exact total orders, with which `==` agrees.
use Rattle.std.proofs.Common.{◌≡◌, ℕ, Bool, ◌&&◌, ◌==◌, refl, ◌∙◌, ap, arith}
use Rattle.std.specs.Cmp.{IsTotalOrder, nat_cmp_total}
use Rattle.std.specs.Ordering.{nat_cmp, ordering_then, eq_by_cmp, is_eq}
use Rattle.std.specs.declared.cmp.Ordering.{Ordering}
use Rattle.std.specs.declared.cmp.Ordering.TheVariants.{Less, Equal, Greater}
use Rattle.std.proofs.lemmas.Bool.Decides.{nat_tests}
use Rattle.std.proofs.lemmas.Cmp.{on_total, then_total}
use Rattle.std.proofs.lemmas.Map.Lookups.{CmpEqualImpliesEq, exact_pairs, exact_unsigned}
use Rattle.eb_base.specs.Names.{name_cmp}
use Rattle.eb_base.specs.Places.{place_cmp}
use Rattle.eb_base.specs.declared.names.Name.{Name}
use Rattle.eb_base.specs.declared.names.Place.{Place}

pub names_total : IsTotalOrder name_cmp
names_total =
    then_total (on_total (λ (n : Name). n.play) nat_cmp_total)
    (then_total (on_total (λ (n : Name). n.scene) nat_cmp_total)
    (then_total (on_total (λ (n : Name). n.object) nat_cmp_total) (on_total (λ (n : Name). n.extra) nat_cmp_total)))

pub exact_names : CmpEqualImpliesEq name_cmp
exact_names a b h =
    let pairs = exact_pairs nat_cmp _ exact_unsigned (exact_pairs nat_cmp _ exact_unsigned (exact_pairs nat_cmp nat_cmp exact_unsigned exact_unsigned)) in
    ap (λ (p : ℕ × (ℕ × (ℕ × ℕ))). record { play = p.0; scene = p.1.0; object = p.1.1.0; extra = p.1.1.1 })
    (pairs (a.play, (a.scene, (a.object, a.extra))) (b.play, (b.scene, (b.object, b.extra))) h)

same_number : (x y : ℕ) → (x == y) ≡ is_eq (nat_cmp x y)
same_number x y = grind (arith, nat_tests)

then_same : (r s : Ordering) → (is_eq r && is_eq s) ≡ is_eq (ordering_then r s)
then_same Less s = refl
then_same Equal s = refl
then_same Greater s = refl

pair_same : (p q : Bool) (r s : Ordering) → p ≡ is_eq r → q ≡ is_eq s → (p && q) ≡ is_eq (ordering_then r s)
pair_same p q r s h k = ap (λ x. x && q) h ∙ ap (λ y. is_eq r && y) k ∙ then_same r s

-- `==` of two names, as it is derived
pub names_same : (a b : Name) → ((a.play == b.play) && ((a.scene == b.scene) && ((a.object == b.object) && (a.extra == b.extra)))) ≡ eq_by_cmp name_cmp a b
names_same a b =
    pair_same _ _ _ _ (same_number a.play b.play)
    (pair_same _ _ _ _ (same_number a.scene b.scene) (pair_same _ _ _ _ (same_number a.object b.object) (same_number a.extra b.extra)))

pub places_total : IsTotalOrder place_cmp
places_total = then_total (on_total (λ (p : Place). p.scene) nat_cmp_total) (on_total (λ (p : Place). p.section) nat_cmp_total)

pub exact_places : CmpEqualImpliesEq place_cmp
exact_places a b h =
    ap (λ (p : ℕ × ℕ). record { scene = p.0; section = p.1 })
    (exact_pairs nat_cmp nat_cmp exact_unsigned exact_unsigned (a.scene, a.section) (b.scene, b.section) h)

-- `==` of two places, as it is derived
pub places_same : (a b : Place) → ((a.scene == b.scene) && (a.section == b.section)) ≡ eq_by_cmp place_cmp a b
places_same a b = pair_same _ _ _ _ (same_number a.scene b.scene) (same_number a.section b.section)
