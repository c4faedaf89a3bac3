-- What moving an object and taking one out with all below it does to the ways up.
use Rattle.std.proofs.Common.{◌≡◌, ℕ, zero, suc, ◌+◌, ◌≤◌, ◌⊎◌, inl, inr, List, [], ◌∷◌, length, Bool, true, false, cond, nat_eq, Option, Some, None, refl, sym, ap, ◌∙◌, true≢false, arith}
use Rattle.std.specs.Prelude.{◌||◌}
use Rattle.std.specs.Map.{keys_of}
use Rattle.std.specs.List.{AllByRecursion}
use Rattle.std.specs.List.Sorted.{IsStrictlySortedBy}
use Rattle.std.specs.Ordering.{nat_cmp}
use Rattle.std.proofs.lemmas.Bool.{cases_Bool, or_left}
use Rattle.std.proofs.lemmas.Bool.Decides.{nat_tests}
use Rattle.eb_scene.specs.declared.objects.Object.{Object}
use Rattle.eb_scene.specs.Numbers.{has_number}
use Rattle.eb_scene.specs.Projects.{Objects, numbered, parent_at, above}
use Rattle.eb_scene.specs.Tables.{without_numbered}
use Rattle.eb_scene.specs.Trees.{next_level, height, subtree, without_all}
use Rattle.eb_scene.proofs.TreeFacts.{above_none}
use Rattle.eb_scene.proofs.LookUps.{turned}
use Rattle.eb_scene.proofs.Removing.{sorted_gone}
use Rattle.eb_scene.proofs.ValidTables.{all_gone, gone_at, count_gone}
use Rattle.eb_scene.proofs.ValidTrees.{above_without, level, child_listed, next_listed, has_front, has_back, has_either, level_height, level_depth}

-- ---- an object that stands below another one from now on

module _ (es fs : Objects) (n : ℕ) (parent : Option ℕ) (here : parent_at fs n ≡ parent) (others : (m : ℕ) → nat_eq m n ≡ false → parent_at fs m ≡ parent_at es m)
    (most : ℕ) (beside : has_number (above most es parent) n ≡ false) where
  -- an object i levels below n: how far its way up goes from now on
  record Below (k m : ℕ) : Type 0 where
    steps : ℕ
    at : has_number (level steps es (n ∷ [])) m ≡ true
    old : suc steps ≤ length (above k es (Some m))
    new : length (above k fs (Some m)) ≤ suc steps + length (above most es parent)

  abbrev Way : ℕ → ℕ → Type 0
  Way k m = (above k fs (Some m) ≡ above k es (Some m)) ⊎ Below k m

  moved_here : (k m : ℕ) → nat_eq m n ≡ true → k ≤ most → Below (suc k) m
  unfolding above
  moved_here k m is le =
      let same : m ≡ n = grind (arith, nat_tests) in
      let turned : nat_eq n m ≡ true = grind (arith, nat_tests) in
      let over : parent_at fs m ≡ parent = ap (parent_at fs) same ∙ here in
      let way : length (above k fs parent) ≤ length (above most es parent) = above_without es fs n others k most parent le beside in
      let moved : length (above k fs (parent_at fs m)) ≡ length (above k fs parent) = ap (λ q. length (above k fs q)) over in
      record { steps = 0; at = or_left (nat_eq n m) false turned; old = omega arith; new = omega (arith, way, moved) }

  moved_up : (k m p : ℕ) → nat_eq m n ≡ false → parent_at es m ≡ Some p → Way k p → Way (suc k) m
  unfolding above
  moved_up k m p apart over (inl same) =
      let new : above k fs (parent_at fs m) ≡ above k fs (Some p) = ap (above k fs) (others m apart ∙ over) in
      let old : above k es (Some p) ≡ above k es (parent_at es m) = ap (above k es) (sym over) in
      inl (ap (λ ns. m ∷ ns) (new ∙ same ∙ old))
  moved_up k m p apart over (inr b) =
      let new : length (above k fs (parent_at fs m)) ≡ length (above k fs (Some p)) = ap (λ q. length (above k fs q)) (others m apart ∙ over) in
      let old : length (above k es (parent_at es m)) ≡ length (above k es (Some p)) = ap (λ q. length (above k es q)) over in
      let least = b.old in
      let most_ = b.new in
      inr (record {
        steps = suc b.steps;
        at = next_listed es (level b.steps es (n ∷ [])) p m b.at (child_listed es m p over);
        old = omega (arith, least, old);
        new = omega (arith, most_, new);
      })

  moved_top : (k m : ℕ) → nat_eq m n ≡ false → parent_at es m ≡ None → Way (suc k) m
  unfolding above
  moved_top k m apart over =
      inl (ap (λ ns. m ∷ ns) (ap (above k fs) (others m apart ∙ over) ∙ above_none fs k ∙ sym (above_none es k) ∙ ap (above k es) (sym over)))

  moved_where : (q : Option ℕ) (k m : ℕ) → parent_at es m ≡ q → nat_eq m n ≡ false → ((p : ℕ) → Way k p) → Way (suc k) m
  moved_where None k m over apart later = moved_top k m apart over
  moved_where (Some p) k m over apart later = moved_up k m p apart over (later p)

  ways : (k m : ℕ) → k ≤ suc most → Way k m
  unfolding above
  ways zero m le = inl refl
  ways (suc k) m le =
      let lower : k ≤ suc most = omega arith in
      elim (cases_Bool (nat_eq m n)) [
        | inl is ↦ inr (moved_here k m is (omega arith))
        | inr apart ↦ moved_where (parent_at es m) k m refl apart (λ p. ways k p lower)
      ]

  -- no way is longer than the limit, where the parent's way and the levels below n together aren't
  pub moved_depth : ((m : ℕ) → length (above (suc most) es (Some m)) ≤ most) → length (above most es parent) + height most es (n ∷ []) ≤ most
      → (m : ℕ) → length (above (suc most) fs (Some m)) ≤ most
  moved_depth old fits m =
      elim (ways (suc most) m (omega arith)) [
        | inl same ↦ let was = old m in let e : length (above (suc most) fs (Some m)) ≡ length (above (suc most) es (Some m)) = ap length same in omega (arith, was, e)
        | inr b ↦
            let was = old m in
            let least = b.old in
            let new = b.new in
            let levels : suc b.steps ≤ height most es (n ∷ []) = level_height b.steps most es (n ∷ []) m b.at (omega (arith, was, least)) in
            omega (arith, new, levels, fits)
      ]

-- ---- an object and all below it

subtree_closed : (k : ℕ) (es : Objects) (ns : List ℕ) (p m : ℕ) → has_number (subtree k es ns) p ≡ true → parent_at es m ≡ Some p → has_number (subtree (suc k) es ns) m ≡ true
unfolding subtree
subtree_closed zero es ns p m at over = absurd (true≢false (sym at))
subtree_closed (suc k) es ns p m at over =
    elim (has_either ns (subtree k es (next_level es ns)) p at) [
      | inl h ↦ has_back ns _ m (has_front (next_level es ns) (subtree k es (next_level es (next_level es ns))) m (next_listed es ns p m h (child_listed es m p over)))
      | inr h ↦ has_back ns _ m (subtree_closed k es (next_level es ns) p m h over)
    ]

level_of_next : (k : ℕ) (es : Objects) (ns : List ℕ) → level k es (next_level es ns) ≡ level (suc k) es ns
level_of_next zero es ns = refl
level_of_next (suc k) es ns = ap (next_level es) (level_of_next k es ns)

subtree_last : (k : ℕ) (es : Objects) (ns : List ℕ) (m : ℕ) → has_number (subtree (suc k) es ns) m ≡ true → (has_number (subtree k es ns) m ≡ true) ⊎ (has_number (level k es ns) m ≡ true)
unfolding subtree
subtree_last zero es ns m at = elim (has_either ns [] m at) [ inl h ↦ inr h | inr h ↦ absurd (true≢false (sym h)) ]
subtree_last (suc k) es ns m at =
    elim (has_either ns (subtree (suc k) es (next_level es ns)) m at) [
      | inl h ↦ inl (has_front ns (subtree k es (next_level es ns)) m h)
      | inr h ↦ elim (subtree_last k es (next_level es ns) m h) [
        | inl g ↦ inl (has_back ns (subtree k es (next_level es ns)) m g)
        | inr g ↦ inr (ap (λ l. has_number l m) (sym (level_of_next k es ns)) ∙ g)
      ]
    ]

-- what stands below one of them is one of them
pub subtree_whole : (k : ℕ) (es : Objects) (ns : List ℕ) → IsStrictlySortedBy nat_cmp (keys_of es) → ((m : ℕ) → length (above (suc k) es (Some m)) ≤ k)
    → (p m : ℕ) → has_number (subtree k es ns) p ≡ true → parent_at es m ≡ Some p → has_number (subtree k es ns) m ≡ true
subtree_whole k es ns sorted depth p m at over =
    elim (subtree_last k es ns m (subtree_closed k es ns p m at over)) [
      | inl h ↦ h
      | inr h ↦ let deep = level_depth k es ns m sorted h in let flat = depth m in absurd (omega (arith, deep, flat))
    ]

-- ---- several objects taken out

out_where : (a b : Bool) (r : Option Object) → cond b None (cond a None r) ≡ cond (a || b) None r
out_where true true r = refl
out_where true false r = refl
out_where false b r = refl

pub out_at : (ns : List ℕ) (es : Objects) (m : ℕ) → IsStrictlySortedBy nat_cmp (keys_of es) → numbered (without_all es ns) m ≡ cond (has_number ns m) None (numbered es m)
out_at [] es m sorted = refl
out_at (n ∷ ns) es m sorted =
    out_at ns (without_numbered es n) m (sorted_gone n es sorted)
    ∙ ap (cond (has_number ns m) None) (gone_at n m es sorted ∙ ap (λ b. cond b None (numbered es m)) (turned m n))
    ∙ out_where (nat_eq n m) (has_number ns m) (numbered es m)

pub out_count : (ns : List ℕ) (es : Objects) → length (without_all es ns) ≤ length es
out_count [] es = omega arith
out_count (n ∷ ns) es = let later = out_count ns (without_numbered es n) in let one = count_gone n es in omega (arith, later, one)

pub out_all : (P : ℕ × Object → Type 0) (ns : List ℕ) (es : Objects) → AllByRecursion P es → AllByRecursion P (without_all es ns)
out_all P [] es all = all
out_all P (n ∷ ns) es all = out_all P ns (without_numbered es n) (all_gone P n es all)
