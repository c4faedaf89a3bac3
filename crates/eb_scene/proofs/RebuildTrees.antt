-- An object gets its parent while each other one has its own parent or none: neither a cycle nor too deep.
use Rattle.std.proofs.Common.{◌≡◌, ℕ, zero, suc, ◌+◌, ◌≤◌, ◌⊎◌, inl, inr, List, [], ◌∷◌, length, true, false, nat_eq, Option, Some, None, refl, sym, ap, ◌∙◌, true≢false, arith}
use Rattle.std.specs.Map.{keys_of}
use Rattle.std.specs.List.Sorted.{IsStrictlySortedBy}
use Rattle.std.specs.Ordering.{nat_cmp}
use Rattle.std.proofs.lemmas.Bool.{or_cases, or_left, or_right, false_from_ne_true}
use Rattle.std.proofs.lemmas.Bool.Decides.{nat_tests}
use Rattle.eb_scene.specs.Numbers.{has_number}
use Rattle.eb_scene.specs.Projects.{Objects, parent_at, above}
use Rattle.eb_scene.specs.Trees.{next_level, height}
use Rattle.eb_scene.proofs.TreeFacts.{above_none}
use Rattle.eb_scene.proofs.ValidTrees.{above_shorter, next_parent}

-- ---- depths

-- how long the way up from an object is, at most one step more than so many
abbrev depth : ℕ → Objects → ℕ → ℕ
depth most es m = length (above (suc most) es (Some m))

above_more : (k : ℕ) (es : Objects) (q : Option ℕ) → length (above k es q) ≤ length (above (suc k) es q)
unfolding above
above_more zero es q = omega arith
above_more (suc k) es None = omega arith
above_more (suc k) es (Some p) = let later = above_more k es (parent_at es p) in omega (arith, later)

-- a way that has ended goes no further
above_ended : (k : ℕ) (es : Objects) (q : Option ℕ) → length (above (suc k) es q) ≤ k → length (above k es q) ≡ length (above (suc k) es q)
unfolding above
above_ended zero es None le = refl
above_ended zero es (Some p) le = absurd (omega arith)
above_ended (suc k) es None le = refl
above_ended (suc k) es (Some p) le =
    let lower : length (above (suc k) es (parent_at es p)) ≤ k = omega arith in
    ap suc (above_ended k es (parent_at es p) lower)

depth_up : (most : ℕ) (es : Objects) (m : ℕ) → depth most es m ≡ suc (length (above most es (parent_at es m)))
unfolding above
depth_up most es m = refl

-- an object stands one deeper than its parent
depth_step : (most : ℕ) (es : Objects) (m p : ℕ) → ((j : ℕ) → depth most es j ≤ most) → parent_at es m ≡ Some p → depth most es m ≡ suc (depth most es p)
depth_step most es m p low over =
    let was = low p in
    depth_up most es m ∙ ap (λ q. suc (length (above most es q))) over ∙ ap suc (above_ended most es (Some p) was)

-- an object on the way up stands no deeper
on_way : (most : ℕ) (es : Objects) → ((j : ℕ) → depth most es j ≤ most) → (k p x : ℕ) → has_number (above k es (Some p)) x ≡ true → depth most es x ≤ depth most es p
unfolding above
on_way most es low zero p x at = absurd (true≢false (sym at))
on_way most es low (suc k) p x at =
    elim (or_cases (nat_eq p x) (has_number (above k es (parent_at es p)) x) at) [
      | inl is ↦ let same : p ≡ x = grind (arith, nat_tests) in let e : depth most es p ≡ depth most es x = ap (depth most es) same in omega (arith, e)
      | inr h ↦ on_way_up (parent_at es p) k p x refl h (λ q g. on_way most es low k q x g)
    ]
  where
    on_way_up : (r : Option ℕ) (k p x : ℕ) → parent_at es p ≡ r → has_number (above k es (parent_at es p)) x ≡ true → ((q : ℕ) → has_number (above k es (Some q)) x ≡ true → depth most es x ≤ depth most es q)
        → depth most es x ≤ depth most es p
    on_way_up None k p x over h later = absurd (true≢false (sym h ∙ ap (λ r. has_number (above k es r) x) over ∙ ap (λ ns. has_number ns x) (above_none es k)))
    on_way_up (Some q) k p x over h later =
        let step = depth_step most es p q low over in
        let up = later q (ap (λ r. has_number (above k es r) x) (sym over) ∙ h) in
        omega (arith, step, up)

-- ---- where each object has its own parent or none

module _ (most : ℕ) (es fs : Objects) (low : (j : ℕ) → depth most es j ≤ most) (each : (m : ℕ) → (parent_at fs m ≡ None) ⊎ (parent_at fs m ≡ parent_at es m)) where
  way_where : (k p x : ℕ) → (parent_at fs p ≡ None) ⊎ (parent_at fs p ≡ parent_at es p) → has_number (above k fs (parent_at fs p)) x ≡ true
      → (has_number (above k fs (parent_at es p)) x ≡ true → has_number (above k es (parent_at es p)) x ≡ true) → has_number (above k es (parent_at es p)) x ≡ true
  way_where k p x (inl gone) h later = absurd (true≢false (sym h ∙ ap (λ r. has_number (above k fs r) x) gone ∙ ap (λ ns. has_number ns x) (above_none fs k)))
  way_where k p x (inr same) h later = later (ap (λ r. has_number (above k fs r) x) (sym same) ∙ h)

  -- what is on the way up is on the final way up
  on_final : (k : ℕ) (q : Option ℕ) (x : ℕ) → has_number (above k fs q) x ≡ true → has_number (above k es q) x ≡ true
  unfolding above
  on_final zero q x at = at
  on_final (suc k) None x at = at
  on_final (suc k) (Some p) x at =
      elim (or_cases (nat_eq p x) (has_number (above k fs (parent_at fs p)) x) at) [
        | inl is ↦ or_left (nat_eq p x) (has_number (above k es (parent_at es p)) x) is
        | inr h ↦ or_right (nat_eq p x) (has_number (above k es (parent_at es p)) x) (way_where k p x (each p) h (λ g. on_final k (parent_at es p) x g))
      ]

  pub no_cycle : (n p : ℕ) → parent_at es n ≡ Some p → has_number (above most fs (Some p)) n ≡ false
  no_cycle n p over =
      false_from_ne_true (has_number (above most fs (Some p)) n)
      (λ h.
      let up = on_way most es low most p n (on_final most (Some p) n h) in
      let step = depth_step most es n p low over in
      absurd (omega (arith, up, step)))

  up_of : (m q : ℕ) → (parent_at fs m ≡ None) ⊎ (parent_at fs m ≡ parent_at es m) → parent_at fs m ≡ Some q → parent_at es m ≡ Some q
  up_of m q (inl gone) over = let bad : None ≡ Some q = sym gone ∙ over in cc
  up_of m q (inr same) over = sym same ∙ over

  -- as many levels as there is room below
  height_low : IsStrictlySortedBy nat_cmp (keys_of fs) → (k d : ℕ) (ns : List ℕ) → d ≤ most → ((m : ℕ) → has_number ns m ≡ true → suc d ≤ depth most es m) → d + height k fs ns ≤ most
  unfolding height
  height_low sorted zero d ns le deep = omega arith
  height_low sorted (suc k) d [] le deep = omega arith
  height_low sorted (suc k) d (n ∷ ns) le deep =
      let itself : nat_eq n n ≡ true = grind (arith, nat_tests) in
      let here : suc d ≤ depth most es n = deep n (or_left (nat_eq n n) (has_number ns n) itself) in
      let bound = low n in
      let room : suc d ≤ most = omega (arith, here, bound) in
      let later : suc d + height k fs (next_level fs (n ∷ ns)) ≤ most = height_low sorted k (suc d) (next_level fs (n ∷ ns)) room (λ m at. deeper m (next_parent fs (n ∷ ns) m sorted at)) in
      omega (arith, later)
    where
      deeper : (m : ℕ) → (p : ℕ) × (has_number (n ∷ ns) p ≡ true) × (parent_at fs m ≡ Some p) → suc (suc d) ≤ depth most es m
      deeper m over =
          let up = deep over.0 over.1 in
          let step = depth_step most es m over.0 low (up_of m over.0 (each m) over.2) in
          omega (arith, up, step)

  pub no_depth : IsStrictlySortedBy nat_cmp (keys_of fs) → (n p : ℕ) → parent_at es n ≡ Some p → length (above most fs (Some p)) + height most fs (n ∷ []) ≤ most
  no_depth sorted n p over =
      let step = depth_step most es n p low over in
      let bound = low p in
      let shorter = above_shorter es fs each most (Some p) in
      let less = above_more most es (Some p) in
      let levels : depth most es p + height most fs (n ∷ []) ≤ most = height_low sorted most (depth most es p) (n ∷ []) bound (λ m at. only m at step) in
      omega (arith, shorter, less, levels)
    where
      only : (m : ℕ) → has_number (n ∷ []) m ≡ true → depth most es n ≡ suc (depth most es p) → suc (depth most es p) ≤ depth most es m
      only m at step =
          elim (or_cases (nat_eq n m) false at) [
            | inl is ↦ let same : n ≡ m = grind (arith, nat_tests) in let e : depth most es n ≡ depth most es m = ap (depth most es) same in omega (arith, e, step)
            | inr h ↦ absurd (true≢false (sym h))
          ]
