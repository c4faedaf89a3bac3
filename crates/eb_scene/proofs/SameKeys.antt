-- The test of equal keys tells whether they are equal.
use Rattle.std.proofs.Common.{◌≡◌, ℕ, Bool, true, false, ◌&&◌, nat_eq, Decides, refl, sym, ap, subst, ◌∙◌, true≢false}
use Rattle.eb_scene.specs.declared.keys.Key.{Key}
use Rattle.eb_scene.specs.declared.keys.Key.TheVariants.{Comp, Parent, Children, Exists, Asset}
use Rattle.eb_scene.specs.Answers.{same_key}
use Rattle.eb_scene.proofs.LookUps.{equal, itself}

both_true : (a b : Bool) → (a && b) ≡ true → (a ≡ true) × (b ≡ true)
both_true true b h = (refl, h)
both_true false b h = absurd (true≢false (sym h))

all_true : (a b : Bool) → a ≡ true → b ≡ true → (a && b) ≡ true
all_true true b h k = k
all_true false b h k = h

two_equal : {X : Type 0} (f : ℕ → ℕ → X) (s n t m : ℕ) → (nat_eq s t && nat_eq n m) ≡ true → f s n ≡ f t m
two_equal f s n t m h =
    let b = both_true (nat_eq s t) (nat_eq n m) h in
    ap (λ x. f x n) (equal s t b.0) ∙ ap (f t) (equal n m b.1)

three_equal : (s n kind t m other : ℕ) → (nat_eq s t && nat_eq n m && nat_eq kind other) ≡ true → Comp s n kind ≡ Comp t m other
three_equal s n kind t m other h =
    let b = both_true (nat_eq s t && nat_eq n m) (nat_eq kind other) h in
    two_equal (λ x y. Comp x y kind) s n t m b.0 ∙ ap (Comp t m) (equal kind other b.1)

same_equal : (j k : Key) → same_key j k ≡ true → j ≡ k
same_equal (Comp s n kind) (Comp t m other) h = three_equal s n kind t m other h
same_equal (Parent s n) (Parent t m) h = two_equal Parent s n t m h
same_equal (Children s n) (Children t m) h = two_equal Children s n t m h
same_equal (Exists s n) (Exists t m) h = two_equal Exists s n t m h
same_equal (Asset n) (Asset m) h = ap Asset (equal n m h)
same_equal _ _ h = absurd (true≢false (sym h))

same_itself : (k : Key) → same_key k k ≡ true
same_itself (Comp s n kind) = all_true (nat_eq s s && nat_eq n n) (nat_eq kind kind) (all_true (nat_eq s s) (nat_eq n n) (itself s) (itself n)) (itself kind)
same_itself (Parent s n) = all_true (nat_eq s s) (nat_eq n n) (itself s) (itself n)
same_itself (Children s n) = all_true (nat_eq s s) (nat_eq n n) (itself s) (itself n)
same_itself (Exists s n) = all_true (nat_eq s s) (nat_eq n n) (itself s) (itself n)
same_itself (Asset n) = itself n

pub told_apart : (j k : Key) → Decides (same_key j k) (j ≡ k)
told_apart j k = (λ h. same_equal j k h, λ h. subst (λ x. same_key j x ≡ true) h (same_itself j))
