-- The looks between the first one at a key and the first one behind that key are those at the key.
use Rattle.std.proofs.Common.{◌≡◌, ℕ, ◌+◌, Bool, true, ◌&&◌, not, cond, List, [], ◌∷◌, refl, ◌∙◌, ap, arith}
use Rattle.std.specs.BTreeMap.Range.{range_contains}
use Rattle.std.specs.List.{filter}
use Rattle.std.specs.Ordering.{nat_cmp, ordering_then, eq_by_cmp, is_eq, is_le}
use Rattle.std.specs.declared.cmp.Ordering.{Ordering}
use Rattle.std.specs.declared.cmp.Ordering.TheVariants.{Less, Equal, Greater}
use Rattle.std.specs.declared.ops.Bound.TheVariants.{Included, Excluded}
use Rattle.std.proofs.lemmas.Bool.Decides.{nat_tests}
use Rattle.eb_base.specs.Names.{name_cmp}
use Rattle.eb_base.specs.declared.names.Name.{Name}
use Rattle.eb_record.specs.Readers.{look_cmp}
use Rattle.eb_record.specs.declared.looks.Look.{Look}

abbrev pub first_name : Name
first_name = record { play = 0; scene = 0; object = 0; extra = 0 }

abbrev pub name_behind : Name → Name
name_behind n = record n { extra = n.extra + 1 }

-- ---- names

zero_first : (x : ℕ) → is_le (nat_cmp 0 x) ≡ true
zero_first x = grind (arith, nat_tests)

both_first : (r s : Ordering) → is_le r ≡ true → is_le s ≡ true → is_le (ordering_then r s) ≡ true
both_first Less s h k = refl
both_first Equal s h k = k
both_first Greater s h k = h

none_before : (n : Name) → is_le (name_cmp first_name n) ≡ true
none_before n =
    both_first (nat_cmp 0 n.play) _ (zero_first n.play)
    (both_first (nat_cmp 0 n.scene) _ (zero_first n.scene) (both_first (nat_cmp 0 n.object) _ (zero_first n.object) (zero_first n.extra)))

one_apart : (x y : ℕ) → (is_le (nat_cmp x y) && not (is_le (nat_cmp (x + 1) y))) ≡ is_eq (nat_cmp x y)
one_apart x y = grind (arith, nat_tests)

between : (r s t u : Ordering) → (is_le s && not (is_le t)) ≡ is_eq u → (is_le (ordering_then r s) && not (is_le (ordering_then r t))) ≡ is_eq (ordering_then r u)
between Less s t u h = refl
between Equal s t u h = h
between Greater s t u h = refl

none_between : (k n : Name) → (is_le (name_cmp k n) && not (is_le (name_cmp (name_behind k) n))) ≡ eq_by_cmp name_cmp k n
none_between k n =
    between (nat_cmp k.play n.play) _ _ _ (between (nat_cmp k.scene n.scene) _ _ _ (between (nat_cmp k.object n.object) _ _ _ (one_apart k.extra n.extra)))

-- ---- looks

first_then : (r s : Ordering) → is_le s ≡ true → is_le (ordering_then r s) ≡ is_le r
first_then Less s h = refl
first_then Equal s h = h
first_then Greater s h = refl

abbrev pub is_between : Name → Look → Bool
is_between k l = range_contains look_cmp (Included (record { key = k; run = first_name })) (Excluded (record { key = name_behind k; run = first_name })) l

at_key : (k : Name) (l : Look) → is_between k l ≡ eq_by_cmp name_cmp k l.key
at_key k l =
    ap (λ b. b && not (is_le (look_cmp (record { key = name_behind k; run = first_name }) l))) (first_then (name_cmp k l.key) (name_cmp first_name l.run) (none_before l.run))
    ∙ ap (λ b. is_le (name_cmp k l.key) && not b) (first_then (name_cmp (name_behind k) l.key) (name_cmp first_name l.run) (none_before l.run))
    ∙ none_between k l.key

same_filter : {X : Type 0} (p q : X → Bool) → ((x : X) → p x ≡ q x) → (xs : List X) → filter p xs ≡ filter q xs
same_filter p q same [] = refl
same_filter p q same (x ∷ xs) = ap (λ b. cond b (x ∷ filter p xs) (filter p xs)) (same x) ∙ ap (λ ys. cond (q x) (x ∷ ys) ys) (same_filter p q same xs)

pub all_under : {X : Type 0} (k : Name) (es : List (Look × X)) → filter (λ e. is_between k e.0) es ≡ filter (λ e. eq_by_cmp name_cmp k e.0.key) es
all_under {X} k es = same_filter (λ (e : Look × X). is_between k e.0) (λ (e : Look × X). eq_by_cmp name_cmp k e.0.key) (λ e. at_key k e.0) es
