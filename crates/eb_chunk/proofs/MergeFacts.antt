-- Where a field stands among ascending columns: what a walk from the front finds there, and that it never goes back.
use Rattle.std.proofs.Common.{◌≡◌, ◌≤◌, ◌<◌, ℕ, zero, suc, ◌+◌, List, [], ◌∷◌, length, Bool, true, false, cond, ◌&&◌, ◌==◌, Option, Some, None, Ordering, Less, Equal, Greater, refl, sym, ap, subst, ◌∙◌, T, arith}
use Rattle.std.specs.Cmp.{IsTotalOrder, nat_cmp_total}
use Rattle.std.specs.List.{AllByRecursion}
use Rattle.std.specs.List.Sorted.{IsStrictlySortedBy}
use Rattle.std.specs.Ordering.{ordering_reverse, is_lt, is_eq, is_ge}
use Rattle.std.proofs.lemmas.Cmp.{on_total, then_total}
use Rattle.std.proofs.lemmas.Map.Keys.{Less-from_sorted}
use Rattle.eb_base.proofs.NameOrder.{places_same}
use Rattle.eb_schema.specs.declared.kinds.Kind.TheVariants.{Asset}
use Rattle.eb_schema.specs.declared.layouts.Column.{Column}
use Rattle.eb_schema.specs.Layouts.{column_at, no_column, find_column, field_cmp, column_cmp}
use Rattle.eb_chunk.specs.Merging.{place_of}

columns_total : IsTotalOrder column_cmp
columns_total = then_total (on_total (λ (c : Column). c.kind) nat_cmp_total) (on_total (λ (c : Column). c.field) nat_cmp_total)

-- ---- a walk from the front

pub place_few : (kind field : ℕ) (cs : List Column) → place_of kind field cs ≤ length cs
place_few kind field [] = omega arith
place_few kind field (c ∷ cs) = few (is_lt (field_cmp c kind field)) (place_of kind field cs) (length cs) (place_few kind field cs)
  where
    few : (b : Bool) (n m : ℕ) → n ≤ m → cond b (suc n) 0 ≤ suc m
    few true n m le = omega (arith, le)
    few false n m le = omega arith

past_first : (o : Ordering) (n : ℕ) → is_ge o ≡ false → 1 ≤ cond (is_lt o) (suc n) 0
past_first Less n h = omega arith
past_first Equal n h = absurd (subst T h tt)
past_first Greater n h = absurd (subst T h tt)

past_more : (o : Ordering) (n at : ℕ) → suc at ≤ cond (is_lt o) (suc n) 0 → (at ≤ n → at + 1 ≤ n) → suc at + 1 ≤ cond (is_lt o) (suc n) 0
past_more Less n at le later = omega (arith, later (omega (arith, le)))
past_more Equal n at le later = absurd (omega (arith, le))
past_more Greater n at le later = absurd (omega (arith, le))

-- a column that comes before the field is passed
pub passed : (kind field : ℕ) (cs : List Column) (at : ℕ) → at ≤ place_of kind field cs → at < length cs → is_ge (field_cmp (column_at cs at) kind field) ≡ false
    → at + 1 ≤ place_of kind field cs
passed kind field [] at le lt h = absurd (omega (arith, lt))
passed kind field (c ∷ cs) zero le lt h = past_first (field_cmp c kind field) (place_of kind field cs) h
passed kind field (c ∷ cs) (suc at) le lt h =
    past_more (field_cmp c kind field) (place_of kind field cs) at le (λ l. passed kind field cs at l (omega (arith, lt)) h)

stop_first : (o : Ordering) (n : ℕ) → is_ge o ≡ true → 0 ≡ cond (is_lt o) (suc n) 0
stop_first Less n h = absurd (subst T (sym h) tt)
stop_first Equal n h = refl
stop_first Greater n h = refl

stop_more : (o : Ordering) (n at : ℕ) → suc at ≤ cond (is_lt o) (suc n) 0 → (at ≤ n → at ≡ n) → suc at ≡ cond (is_lt o) (suc n) 0
stop_more Less n at le later = ap suc (later (omega (arith, le)))
stop_more Equal n at le later = absurd (omega (arith, le))
stop_more Greater n at le later = absurd (omega (arith, le))

-- and at one that doesn't the walk ends
pub stopped : (kind field : ℕ) (cs : List Column) (at : ℕ) → at ≤ place_of kind field cs → at < length cs → is_ge (field_cmp (column_at cs at) kind field) ≡ true
    → at ≡ place_of kind field cs
stopped kind field [] at le lt h = absurd (omega (arith, lt))
stopped kind field (c ∷ cs) zero le lt h = stop_first (field_cmp c kind field) (place_of kind field cs) h
stopped kind field (c ∷ cs) (suc at) le lt h =
    stop_more (field_cmp c kind field) (place_of kind field cs) at le (λ l. stopped kind field cs at l (omega (arith, lt)) h)

rises : (o p : Ordering) (n m : ℕ) → (o ≡ Less → p ≡ Less) → n ≤ m → cond (is_lt o) (suc n) 0 ≤ cond (is_lt p) (suc m) 0
rises Less p n m step le = subst (λ q. suc n ≤ cond (is_lt q) (suc m) 0) (sym (step refl)) (omega (arith, le))
rises Equal p n m step le = omega arith
rises Greater p n m step le = omega arith

later_place : (x y : Column) (cs : List Column) → column_cmp x y ≡ Less → place_of x.kind x.field cs ≤ place_of y.kind y.field cs
later_place x y [] lt = omega arith
later_place x y (c ∷ cs) lt =
    rises (column_cmp c x) (column_cmp c y) (place_of x.kind x.field cs) (place_of y.kind y.field cs) (λ first. columns_total.trans c x y first lt) (later_place x y cs lt)

-- the field of the next column stands no earlier
pub next_place : (cs old : List Column) (c : ℕ) → IsStrictlySortedBy column_cmp cs → c + 1 < length cs
    → place_of (column_at cs c).kind (column_at cs c).field old ≤ place_of (column_at cs (c + 1)).kind (column_at cs (c + 1)).field old
next_place cs old c sorted lt =
    later_place (column_at cs c) (column_at cs (c + 1)) old (Less-from_sorted column_cmp cs c (c + 1) no_column sorted (omega arith) lt)

-- ---- what stands there

-- a pair of numbers is compared as a place is
field_same : (c : Column) (kind field : ℕ) → ((c.kind == kind) && (c.field == field)) ≡ is_eq (field_cmp c kind field)
field_same c kind field = places_same (record { scene = c.kind; section = c.field }) (record { scene = kind; section = field })

-- the columns from c on, by how c and the field stand to each other
abbrev found : Ordering → ℕ → Option ℕ → Option ℕ
found o i later = cond (is_eq o) (Some i) later

found_is : (kind field i : ℕ) (c : Column) (cs : List Column) → find_column kind field i (c ∷ cs) ≡ found (field_cmp c kind field) i (find_column kind field (i + 1) cs)
found_is kind field i c cs = ap (λ b. cond b (Some i) (find_column kind field (i + 1) cs)) (field_same c kind field)

here_first : (o : Ordering) (i : ℕ) (later : Option ℕ) → is_eq o ≡ true → found o i later ≡ Some (i + 0)
here_first o i later h = ap (λ b. cond b (Some i) later) h ∙ ap (λ k. Some k) (omega arith)

here_more : (o : Ordering) (i at n : ℕ) (later : Option ℕ) → suc at ≡ cond (is_lt o) (suc n) 0 → (at ≡ n → later ≡ Some (i + 1 + at)) → found o i later ≡ Some (i + suc at)
here_more Less i at n later e step = step (omega (arith, e)) ∙ ap (λ k. Some k) (omega arith)
here_more Equal i at n later e step = absurd (omega (arith, e))
here_more Greater i at n later e step = absurd (omega (arith, e))

found_from : (kind field i : ℕ) (cs : List Column) (at : ℕ) → at ≡ place_of kind field cs → at < length cs → is_eq (field_cmp (column_at cs at) kind field) ≡ true
    → find_column kind field i cs ≡ Some (i + at)
found_from kind field i [] at e lt h = absurd (omega (arith, lt))
found_from kind field i (c ∷ cs) zero e lt h = found_is kind field i c cs ∙ here_first (field_cmp c kind field) i (find_column kind field (i + 1) cs) h
found_from kind field i (c ∷ cs) (suc at) e lt h =
    found_is kind field i c cs
    ∙ here_more (field_cmp c kind field) i at (place_of kind field cs) (find_column kind field (i + 1) cs) e (λ same. found_from kind field (i + 1) cs at same (omega (arith, lt)) h)

-- a column of the field at its place is the one that is found
pub found_there : (kind field : ℕ) (cs : List Column) (at : ℕ) → at ≡ place_of kind field cs → at < length cs → is_eq (field_cmp (column_at cs at) kind field) ≡ true
    → find_column kind field 0 cs ≡ Some at
found_there kind field cs at e lt h = found_from kind field 0 cs at e lt h ∙ ap (λ k. Some k) (omega arith)

above : (o : Ordering) (i : ℕ) (later : Option ℕ) → o ≡ Greater → later ≡ None → found o i later ≡ None
above o i later o_is none = ap (λ q. found q i later) o_is ∙ none

none_above : (kind field i : ℕ) (c : Column) (cs : List Column) → field_cmp c kind field ≡ Greater → AllByRecursion (λ y. column_cmp c y ≡ Less) cs → find_column kind field i cs ≡ None
none_above kind field i c [] gt h = refl
none_above kind field i c (y ∷ ys) gt h =
    let x : Column = record { kind = kind; field = field; holds = Asset } in
    let less : column_cmp x y ≡ Less = columns_total.trans x c y (columns_total.antisymm x c ∙ ap ordering_reverse gt) h.0 in
    let greater : field_cmp y kind field ≡ Greater = columns_total.antisymm y x ∙ ap ordering_reverse less in
    found_is kind field i y ys ∙ above (field_cmp y kind field) i (find_column kind field (i + 1) ys) greater (none_above kind field (i + 1) c ys gt h.1)

none_where : (o : Ordering) (i n len : ℕ) (later : Option ℕ) (P : ℕ → Ordering) → (cond (is_lt o) (suc n) 0 < suc len → is_eq (P (cond (is_lt o) (suc n) 0)) ≡ false) → P 0 ≡ o
    → ((n < len → is_eq (P (suc n)) ≡ false) → later ≡ None) → (o ≡ Greater → later ≡ None) → found o i later ≡ None
none_where Less i n len later P h first step all = step (λ lt. h (omega (arith, lt)))
none_where Equal i n len later P h first step all = absurd (subst T (sym (ap is_eq first) ∙ h (omega arith)) tt)
none_where Greater i n len later P h first step all = all refl

none_from : (kind field i : ℕ) (cs : List Column) → IsStrictlySortedBy column_cmp cs
    → (place_of kind field cs < length cs → is_eq (field_cmp (column_at cs (place_of kind field cs)) kind field) ≡ false) → find_column kind field i cs ≡ None
unfolding IsStrictlySortedBy
none_from kind field i [] sorted h = refl
none_from kind field i (c ∷ cs) sorted h =
    found_is kind field i c cs
    ∙ none_where (field_cmp c kind field) i (place_of kind field cs) (length cs) (find_column kind field (i + 1) cs) (λ k. field_cmp (column_at (c ∷ cs) k) kind field) h refl
    (none_from kind field (i + 1) cs sorted.1) (λ gt. none_above kind field (i + 1) c cs gt sorted.0)

-- where no column of the field is at its place, there is none
pub none_there : (kind field : ℕ) (cs : List Column) (at : ℕ) → IsStrictlySortedBy column_cmp cs → at ≡ place_of kind field cs
    → (at < length cs → is_eq (field_cmp (column_at cs at) kind field) ≡ false) → find_column kind field 0 cs ≡ None
none_there kind field cs at sorted e h =
    none_from kind field 0 cs sorted (subst (λ k. k < length cs → is_eq (field_cmp (column_at cs k) kind field) ≡ false) e h)
