-- An object that is taken out with all below it.
use Rattle.std.proofs.Common.{◌≡◌, ℕ, zero, suc, List, [], ◌∷◌, ◌++◌, map, flat_map, Bool, true, false, ◌&&◌, ◌||◌, cond, nat_eq, Option, Some, None, option_map, option_and_then, is_some, find, refl, sym, ap, subst, ◌∙◌, true≢false, nat_cmp, arith}
use Rattle.std.specs.List.{AllByRecursion}
use Rattle.std.specs.Map.{keys_of}
use Rattle.std.specs.BTreeMap.{is_at}
use Rattle.std.specs.List.Sorted.{IsStrictlySortedBy}
use Rattle.std.proofs.lemmas.Bool.Decides.{nat_tests}
use Rattle.eb_schema.proofs.TypeOrderFacts.{IsBelow}
use Rattle.eb_scene.specs.declared.objects.Object.{Object}
use Rattle.eb_scene.specs.declared.objects.Part.{Part}
use Rattle.eb_scene.specs.declared.keys.Key.{Key}
use Rattle.eb_scene.specs.declared.keys.Key.TheVariants.{Comp, Parent, Children, Exists, Asset}
use Rattle.eb_scene.specs.Numbers.{has_number, without_number}
use Rattle.eb_scene.specs.Projects.{Objects, numbered, part_of, is_parent, parent_at, children_of, most_depth}
use Rattle.eb_scene.specs.Trees.{next_level, subtree, without_all}
use Rattle.eb_scene.specs.Tables.{without_numbered}
use Rattle.eb_scene.specs.Touched.{children_key, part_keys, object_keys}
use Rattle.eb_scene.specs.Answers.{Values, Above, Below, There, same_key, has_key}
use Rattle.eb_scene.proofs.Removing.{sorted_gone}
use Rattle.eb_scene.proofs.Children.{either, children_gone, below_children}
use Rattle.eb_scene.proofs.KeyFacts.{Spares, any_both, has_both, second_false, others_false}
use Rattle.eb_scene.proofs.LookUps.{turned, equal, itself, passed, met, found_gone, found_gone_apart}
use Rattle.eb_scene.proofs.TouchedParts.{part_values}
use Rattle.eb_scene.proofs.TouchedPlaces.{not_parent}

-- ---- what is left

found_apart : (m : ℕ) (ns : List ℕ) (es : Objects) → has_number ns m ≡ false → numbered (without_all es ns) m ≡ numbered es m
found_apart m [] es apart = refl
found_apart m (n ∷ ns) es apart =
    let h = either (nat_eq n m) (has_number ns m) apart in
    found_apart m ns (without_numbered es n) h.1 ∙ found_gone_apart n m es (turned m n ∙ h.0)

none_where : (b : Bool) (n m : ℕ) (es : Objects) → nat_eq m n ≡ b → IsStrictlySortedBy nat_cmp (keys_of es) → numbered es m ≡ None → numbered (without_numbered es n) m ≡ None
none_where true n m es same sorted absent = ap (numbered (without_numbered es n)) (equal m n same) ∙ found_gone n es sorted
none_where false n m es apart sorted absent = found_gone_apart n m es apart ∙ absent

none_stays : (m : ℕ) (ns : List ℕ) (es : Objects) → IsStrictlySortedBy nat_cmp (keys_of es) → numbered es m ≡ None → numbered (without_all es ns) m ≡ None
none_stays m [] es sorted absent = absent
none_stays m (n ∷ ns) es sorted absent = none_stays m ns (without_numbered es n) (sorted_gone n es sorted) (none_where (nat_eq m n) n m es refl sorted absent)

gone_where : (b : Bool) (n m : ℕ) (ns : List ℕ) (es : Objects) → nat_eq n m ≡ b → IsStrictlySortedBy nat_cmp (keys_of es) → (b || has_number ns m) ≡ true
    → (has_number ns m ≡ true → numbered (without_all (without_numbered es n) ns) m ≡ None) → numbered (without_all (without_numbered es n) ns) m ≡ None
gone_where true n m ns es same sorted among later =
    none_stays m ns (without_numbered es n) (sorted_gone n es sorted) (ap (numbered (without_numbered es n)) (sym (equal n m same)) ∙ found_gone n es sorted)
gone_where false n m ns es apart sorted among later = later among

found_none : (m : ℕ) (ns : List ℕ) (es : Objects) → IsStrictlySortedBy nat_cmp (keys_of es) → has_number ns m ≡ true → numbered (without_all es ns) m ≡ None
found_none m [] es sorted among = absurd (true≢false (sym among))
found_none m (n ∷ ns) es sorted among =
    gone_where (nat_eq n m) n m ns es refl sorted among (λ h. found_none m ns (without_numbered es n) (sorted_gone n es sorted) h)

-- ---- keys of those that go

-- a key that names each object of the list isn't among their keys, so its own object isn't in the list
not_among : (s m : ℕ) (es : Objects) (k : Key) → ((n : ℕ) → has_key (object_keys s es n) k ≡ false → nat_eq n m ≡ false) → (ns : List ℕ) → has_key (flat_map (object_keys s es) ns) k ≡ false → has_number ns m ≡ false
not_among s m es k each [] apart = refl
not_among s m es k each (n ∷ ns) apart =
    let h = has_both (object_keys s es n) (flat_map (object_keys s es) ns) k apart in
    ap (λ b. b || has_number ns m) (each n h.0) ∙ not_among s m es k each ns h.1

exists_named : (s t m : ℕ) (es : Objects) → nat_eq t s ≡ true → (n : ℕ) → has_key (object_keys s es n) (Exists t m) ≡ false → nat_eq n m ≡ false
exists_named s t m es here n apart =
    let h = either (nat_eq t s && nat_eq m n) (has_key (part_keys s n (numbered es n)) (Exists t m)) apart in
    turned n m ∙ second_false (nat_eq t s) (nat_eq m n) here h.0

parent_named : (s t m : ℕ) (es : Objects) → nat_eq t s ≡ true → (n : ℕ) → has_key (object_keys s es n) (Parent t m) ≡ false → nat_eq n m ≡ false
parent_named s t m es here n apart =
    let h = either (nat_eq t s && nat_eq m n) (has_key (part_keys s n (numbered es n)) (Parent t m)) apart in
    turned n m ∙ second_false (nat_eq t s) (nat_eq m n) here h.0

children_named : (s t m : ℕ) (es : Objects) → nat_eq t s ≡ true → (n : ℕ) → has_key (object_keys s es n) (Children t m) ≡ false → nat_eq n m ≡ false
children_named s t m es here n apart =
    let h = either (nat_eq t s && nat_eq m n) (has_key (part_keys s n (numbered es n)) (Children t m)) apart in
    turned n m ∙ second_false (nat_eq t s) (nat_eq m n) here h.0

-- ---- components of those that go

no_part : (s t m kind : ℕ) (ps : List Part) → nat_eq t s ≡ true → has_key (map (λ p. Comp s m p.kind) ps) (Comp t m kind) ≡ false → part_of ps kind ≡ None
no_part s t m kind [] here apart = refl
no_part s t m kind (p ∷ ps) here apart =
    let h = either (nat_eq t s && nat_eq m m && nat_eq kind p.kind) (has_key (map (λ q. Comp s m q.kind) ps) (Comp t m kind)) apart in
    let both = others_false (nat_eq t s) (nat_eq m m) (nat_eq kind p.kind) here h.0 in
    let other : nat_eq p.kind kind ≡ false = turned p.kind kind ∙ second_false (nat_eq m m) (nat_eq kind p.kind) (itself m) both in
    ap (λ b. cond b (Some p) (part_of ps kind)) other ∙ no_part s t m kind ps here h.1

no_values : (s t m kind : ℕ) (r : Option Object) → nat_eq t s ≡ true → has_key (part_keys s m r) (Comp t m kind) ≡ false → part_values kind r ≡ None
no_values s t m kind None here apart = refl
no_values s t m kind (Some o) here apart = ap (option_map (λ p. p.values)) (no_part s t m kind o.components here apart)

named_where : (b : Bool) (s n m : ℕ) (ns : List ℕ) (es : Objects) (k : Key) → nat_eq n m ≡ b → (b || has_number ns m) ≡ true → has_key (part_keys s n (numbered es n)) k ≡ false
    → (has_number ns m ≡ true → has_key (part_keys s m (numbered es m)) k ≡ false) → has_key (part_keys s m (numbered es m)) k ≡ false
named_where true s n m ns es k same among apart later = subst (λ i. has_key (part_keys s i (numbered es i)) k ≡ false) (equal n m same) apart
named_where false s n m ns es k other among apart later = later among

comp_named : (s m kind t : ℕ) (es : Objects) (ns : List ℕ) → has_number ns m ≡ true → has_key (flat_map (object_keys s es) ns) (Comp t m kind) ≡ false → has_key (part_keys s m (numbered es m)) (Comp t m kind) ≡ false
comp_named s m kind t es [] among apart = absurd (true≢false (sym among))
comp_named s m kind t es (n ∷ ns) among apart =
    let h = has_both (object_keys s es n) (flat_map (object_keys s es) ns) (Comp t m kind) apart in
    named_where (nat_eq n m) s n m ns es (Comp t m kind) refl among h.0 (λ g. comp_named s m kind t es ns g h.1)

values_where : (b : Bool) (s t m kind : ℕ) (es : Objects) (ns : List ℕ) → has_number ns m ≡ b → nat_eq t s ≡ true → IsStrictlySortedBy nat_cmp (keys_of es)
    → has_key (flat_map (object_keys s es) ns) (Comp t m kind) ≡ false → part_values kind (numbered (without_all es ns) m) ≡ part_values kind (numbered es m)
values_where true s t m kind es ns among here sorted apart =
    ap (part_values kind) (found_none m ns es sorted among) ∙ sym (no_values s t m kind (numbered es m) here (comp_named s m kind t es ns among apart))
values_where false s t m kind es ns other here sorted apart = ap (part_values kind) (found_apart m ns es other)

-- ---- children

-- none of these stands right below p
abbrev pub NoneBelow : Objects → ℕ → List ℕ → Type 0
NoneBelow es p ns = AllByRecursion (λ n. is_parent (parent_at es n) p ≡ false) ns

skipped : {X : Type 0} (b : Bool) (n : ℕ) (e : ℕ × X) (es : List (ℕ × X)) → cond b (Some e.1) (numbered es n) ≡ None → (numbered es n ≡ None → without_numbered es n ≡ es) → cond b es (e ∷ without_numbered es n) ≡ e ∷ es
skipped true n e es absent later = absurd cc
skipped false n e es absent later = ap (λ os. e ∷ os) (later absent)

not_there : {X : Type 0} (n : ℕ) (es : List (ℕ × X)) → numbered es n ≡ None → without_numbered es n ≡ es
not_there n [] absent = refl
not_there n (e ∷ es) absent = skipped (is_at (nat_cmp n) e.0) n e es absent (λ h. not_there n es h)

one_gone : (n p : ℕ) (es : Objects) (r : Option Object) → numbered es n ≡ r → is_parent (option_and_then (λ o. o.parent) r) p ≡ false → children_of (without_numbered es n) p ≡ children_of es p
one_gone n p es (Some o) is apart = children_gone n o es p is ∙ ap (λ b. cond b (without_number (children_of es p) n) (children_of es p)) apart
one_gone n p es None is apart = ap (λ os. children_of os p) (not_there n es is)

left_apart : (b : Bool) (n m p : ℕ) (es : Objects) → nat_eq m n ≡ b → IsStrictlySortedBy nat_cmp (keys_of es) → is_parent (parent_at es m) p ≡ false → is_parent (parent_at (without_numbered es n) m) p ≡ false
left_apart true n m p es same sorted apart =
    ap (λ r. is_parent (option_and_then (λ o. o.parent) r) p) (ap (numbered (without_numbered es n)) (equal m n same) ∙ found_gone n es sorted)
left_apart false n m p es other sorted apart =
    ap (λ r. is_parent (option_and_then (λ o. o.parent) r) p) (found_gone_apart n m es other) ∙ apart

left_below : (n p : ℕ) (ms : List ℕ) (es : Objects) → IsStrictlySortedBy nat_cmp (keys_of es) → NoneBelow es p ms → NoneBelow (without_numbered es n) p ms
left_below n p [] es sorted h = tt
left_below n p (m ∷ ms) es sorted h = (left_apart (nat_eq m n) n m p es refl sorted h.0, left_below n p ms es sorted h.1)

children_left : (p : ℕ) (ns : List ℕ) (es : Objects) → IsStrictlySortedBy nat_cmp (keys_of es) → NoneBelow es p ns → children_of (without_all es ns) p ≡ children_of es p
children_left p [] es sorted h = refl
children_left p (n ∷ ns) es sorted h =
    children_left p ns (without_numbered es n) (sorted_gone n es sorted) (left_below n p ns es sorted h.1) ∙ one_gone n p es (numbered es n) refl h.0

-- ---- those in a subtree stand below its root, or below another one of it

-- these stand right below q
abbrev pub AllBelow : Objects → ℕ → List ℕ → Type 0
AllBelow es q ns = AllByRecursion (λ n. parent_at es n ≡ Some q) ns

is_the_parent : (r : Option ℕ) (q : ℕ) → is_parent r q ≡ true → r ≡ Some q
is_the_parent None q h = absurd (true≢false (sym h))
is_the_parent (Some p) q h = ap (λ k. Some k) (equal p q h)

pub later_below : (e : ℕ × Object) (es : Objects) (q : ℕ) (ns : List ℕ) → IsBelow e.0 ns → AllBelow es q ns → AllBelow (e ∷ es) q ns
later_below e es q [] below h = tt
later_below e es q (n ∷ ns) below h =
    let other : nat_eq e.0 n ≡ false = grind (arith, nat_tests, below.0) in
    (ap (option_and_then (λ o. o.parent)) (passed n e es other) ∙ h.0, later_below e es q ns below.1 h.1)

first_below : (b : Bool) (e : ℕ × Object) (es : Objects) (q : ℕ) (ns : List ℕ) → is_parent e.1.parent q ≡ b → AllBelow (e ∷ es) q ns → AllBelow (e ∷ es) q (cond b (e.0 ∷ ns) ns)
first_below true e es q ns is h = (ap (option_and_then (λ o. o.parent)) (met e.0 e.1 es) ∙ is_the_parent e.1.parent q is, h)
first_below false e es q ns is h = h

pub children_below : (es : Objects) (q : ℕ) → IsStrictlySortedBy nat_cmp (keys_of es) → AllBelow es q (children_of es q)
unfolding IsStrictlySortedBy
children_below [] q sorted = tt
children_below (e ∷ es) q sorted =
    first_below (is_parent e.1.parent q) e es q (children_of es q) refl
    (later_below e es q (children_of es q) (below_children e.0 es q sorted.0) (children_below es q sorted.1))

others_below : (es : Objects) (p q : ℕ) (ns : List ℕ) → nat_eq q p ≡ false → AllBelow es q ns → NoneBelow es p ns
others_below es p q [] apart h = tt
others_below es p q (n ∷ ns) apart h = (ap (λ r. is_parent r p) h.0 ∙ apart, others_below es p q ns apart h.1)

all_both : (P : ℕ → Type 0) (xs ys : List ℕ) → AllByRecursion P xs → AllByRecursion P ys → AllByRecursion P (xs ++ ys)
all_both P [] ys h k = k
all_both P (x ∷ xs) ys h k = (h.0, all_both P xs ys h.1 k)

next_apart : (es : Objects) (p : ℕ) (ns : List ℕ) → IsStrictlySortedBy nat_cmp (keys_of es) → has_number ns p ≡ false → NoneBelow es p (next_level es ns)
next_apart es p [] sorted apart = tt
next_apart es p (n ∷ ns) sorted apart =
    let h = either (nat_eq n p) (has_number ns p) apart in
    all_both (λ m. is_parent (parent_at es m) p ≡ false) (children_of es n) (next_level es ns) (others_below es p n (children_of es n) h.0 (children_below es n sorted)) (next_apart es p ns sorted h.1)

subtree_apart : (levels : ℕ) (es : Objects) (p : ℕ) (ns : List ℕ) → IsStrictlySortedBy nat_cmp (keys_of es) → NoneBelow es p ns → has_number (subtree levels es ns) p ≡ false → NoneBelow es p (subtree levels es ns)
unfolding subtree
subtree_apart zero es p ns sorted h apart = tt
subtree_apart (suc levels) es p ns sorted h apart =
    let both = any_both (λ k. nat_eq k p) ns (subtree levels es (next_level es ns)) apart in
    all_both (λ m. is_parent (parent_at es m) p ≡ false) ns (subtree levels es (next_level es ns)) h
    (subtree_apart levels es p (next_level es ns) sorted (next_apart es p ns sorted both.0) both.1)

-- ---- the edit

pub spares_removed : (s n levels : ℕ) (es : Objects) → IsStrictlySortedBy nat_cmp (keys_of es)
    → Spares s es (without_all es (subtree levels es (n ∷ []))) (flat_map (object_keys s es) (subtree levels es (n ∷ [])) ++ children_key s (parent_at es n))
spares_removed s n levels es sorted (Comp t m kind) here object apart =
    let ns = subtree levels es (n ∷ []) in
    let h = has_both (flat_map (object_keys s es) ns) (children_key s (parent_at es n)) (Comp t m kind) apart in
    ap Values (values_where (has_number ns m) s t m kind es ns refl here sorted h.0)
spares_removed s n levels es sorted (Parent t m) here object apart =
    let ns = subtree levels es (n ∷ []) in
    let h = has_both (flat_map (object_keys s es) ns) (children_key s (parent_at es n)) (Parent t m) apart in
    ap (λ r. Above (option_and_then (λ o. o.parent) r)) (found_apart m ns es (not_among s m es (Parent t m) (parent_named s t m es here) ns h.0))
spares_removed s n levels es sorted (Children t p) here object apart =
    let ns = subtree levels es (n ∷ []) in
    let h = has_both (flat_map (object_keys s es) ns) (children_key s (parent_at es n)) (Children t p) apart in
    let out = not_among s p es (Children t p) (children_named s t p es here) ns h.0 in
    ap Below (children_left p ns es sorted (subtree_apart levels es p (n ∷ []) sorted (not_parent s t p (parent_at es n) here h.1, tt) out))
spares_removed s n levels es sorted (Exists t m) here object apart =
    let ns = subtree levels es (n ∷ []) in
    let h = has_both (flat_map (object_keys s es) ns) (children_key s (parent_at es n)) (Exists t m) apart in
    ap (λ r. There (is_some r)) (found_apart m ns es (not_among s m es (Exists t m) (exists_named s t m es here) ns h.0))
spares_removed s n levels es sorted (Asset m) here object apart = refl
