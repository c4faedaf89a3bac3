-- Edits that succeed one after another, and changes at the end or in the middle of an ascending list.
use Rattle.std.proofs.Common.{◌≡◌, ℕ, ◌+◌, List, [], ◌∷◌, ◌++◌, true, cond, Some, None, Ok, Less, Greater, is_eq, refl, sym, ap, subst, ◌∙◌, arith}
use Rattle.std.specs.Map.{keys_of, set_value}
use Rattle.std.specs.BTreeMap.{is_at}
use Rattle.std.specs.List.{AllByRecursion}
use Rattle.std.specs.List.Sorted.{IsStrictlySortedBy}
use Rattle.std.specs.Ordering.{nat_cmp, match_ordering}
use Rattle.std.proofs.lemmas.Bool.Decides.{nat_tests}
use Rattle.eb_scene.specs.declared.edits.Edit.{Edit}
use Rattle.eb_scene.specs.Projects.{Content, numbered}
use Rattle.eb_scene.specs.Tables.{with_numbered, set_found, changed}
use Rattle.eb_scene.specs.Edits.{edited}
use Rattle.eb_scene.specs.Rebuilding.{after_edit, all_edited}

-- ---- edits that succeed

-- each edit succeeds, and the last one gives h
abbrev pub Steps : Content → List Edit → Content → Type 0
Steps g [] h = g ≡ h
Steps g (e ∷ es) h = (k : Content) × (edited g e ≡ Ok k) × Steps k es h

pub steps_then : (g h k : Content) (es fs : List Edit) → Steps g es h → Steps h fs k → Steps g (es ++ fs) k
steps_then g h k [] fs here later = subst (λ x. Steps x fs k) (sym here) later
steps_then g h k (e ∷ es) fs here later = (here.0, here.1, steps_then here.0 h k es fs here.2 later)

pub steps_lead : (index : ℕ) (g h : Content) (es : List Edit) → Steps g es h → all_edited index g es ≡ Ok h
steps_lead index g h [] here = ap (λ x. Ok x) here
steps_lead index g h (e ∷ es) here = ap (λ r. after_edit index r (λ x. all_edited (index + 1) x es)) here.1 ∙ steps_lead (index + 1) here.0 h es here.2

pub steps_to : (g h k : Content) (es : List Edit) → h ≡ k → Steps g es h → Steps g es k
steps_to g h k es same here = subst (λ x. Steps g es x) same here

-- ---- things that come behind others

greater : (j k : ℕ) → nat_cmp j k ≡ Less → nat_cmp k j ≡ Greater
greater j k h = grind (arith, nat_tests)

module _ {X : Type 0} where
  -- n is above the numbers of all of these
  abbrev pub IsPast : ℕ → List (ℕ × X) → Type 0
  IsPast n es = AllByRecursion (λ e. nat_cmp n e.0 ≡ Greater) es

  below_last : (k : ℕ) (front : List (ℕ × X)) (n : ℕ) (x : X) (rest : List (ℕ × X)) → AllByRecursion (λ j. nat_cmp k j ≡ Less) (keys_of (front ++ (n, x) ∷ rest)) → nat_cmp k n ≡ Less
  below_last k [] n x rest all = all.0
  below_last k (e ∷ front) n x rest all = below_last k front n x rest all.1

  -- in an ascending list
  pub past_front : (front : List (ℕ × X)) (n : ℕ) (x : X) (rest : List (ℕ × X)) → IsStrictlySortedBy nat_cmp (keys_of (front ++ (n, x) ∷ rest)) → IsPast n front
  unfolding IsStrictlySortedBy
  past_front [] n x rest sorted = tt
  past_front (e ∷ front) n x rest sorted = (greater e.0 n (below_last e.0 front n x rest sorted.0), past_front front n x rest sorted.1)

  pub absent_past : (n : ℕ) (front : List (ℕ × X)) → IsPast n front → numbered front n ≡ None
  absent_past n [] past = refl
  absent_past n (e ∷ front) past = ap (λ c. cond (is_eq c) (Some e.1) (numbered front n)) past.0 ∙ absent_past n front past.1

  pub found_past : (n : ℕ) (front : List (ℕ × X)) (x : X) (rest : List (ℕ × X)) → IsPast n front → numbered (front ++ (n, x) ∷ rest) n ≡ Some x
  found_past n [] x rest past = let itself : is_at (nat_cmp n) n ≡ true = grind (arith, nat_tests) in ap (λ b. cond b (Some x) (numbered rest n)) itself
  found_past n (e ∷ front) x rest past = ap (λ c. cond (is_eq c) (Some e.1) (numbered (front ++ (n, x) ∷ rest) n)) past.0 ∙ found_past n front x rest past.1

  pub put_past : (n : ℕ) (front : List (ℕ × X)) (x : X) → IsPast n front → with_numbered front n x ≡ front ++ (n, x) ∷ []
  put_past n [] x past = refl
  put_past n (e ∷ front) x past =
      ap (λ c. match_ordering c ((n, x) ∷ e ∷ front) ((e.0, x) ∷ front) (e ∷ with_numbered front n x)) past.0 ∙ ap (λ es. e ∷ es) (put_past n front x past.1)

  pub set_past : (n : ℕ) (front : List (ℕ × X)) (x y : X) (rest : List (ℕ × X)) → IsPast n front → set_value (is_at (nat_cmp n)) (front ++ (n, x) ∷ rest) y ≡ front ++ (n, y) ∷ rest
  set_past n [] x y rest past = let itself : is_at (nat_cmp n) n ≡ true = grind (arith, nat_tests) in ap (λ b. cond b ((n, y) ∷ rest) ((n, x) ∷ set_value (is_at (nat_cmp n)) rest y)) itself
  set_past n (e ∷ front) x y rest past =
      ap (λ c. cond (is_eq c) ((e.0, y) ∷ (front ++ (n, x) ∷ rest)) (e ∷ set_value (is_at (nat_cmp n)) (front ++ (n, x) ∷ rest) y)) past.0 ∙ ap (λ es. e ∷ es) (set_past n front x y rest past.1)

  pub change_past : (f : X → X) (n : ℕ) (front : List (ℕ × X)) (x : X) (rest : List (ℕ × X)) → IsPast n front → changed f (front ++ (n, x) ∷ rest) n ≡ front ++ (n, f x) ∷ rest
  change_past f n front x rest past = ap (set_found f (front ++ (n, x) ∷ rest) n) (found_past n front x rest past) ∙ set_past n front x (f x) rest past
