-- One step of each walk through a scene.
use Rattle.std.proofs.Common.{◌≡◌, ℕ, zero, suc, ◌+◌, ◌-◌, ◌<◌, ◌≤◌, List, [], ◌∷◌, ◌++◌, length, Option, Some, None, refl, ap, arith}
use Rattle.eb_scene.specs.Trees.{next_level, height, subtree}
use Rattle.eb_scene.specs.Projects.{Objects, parent_at, above}

pub above_some : (es : Objects) (p levels i : ℕ) → i < levels → above (levels - i) es (Some p) ≡ p ∷ above (levels - (i + 1)) es (parent_at es p)
unfolding above
above_some es p levels i lt =
    let e : levels - i ≡ suc (levels - (i + 1)) = omega arith in
    ap (λ k. above k es (Some p)) e

pub above_none : (es : Objects) (k : ℕ) → above k es None ≡ []
unfolding above
above_none es zero = refl
above_none es (suc k) = refl

pub above_end : (es : Objects) (at : Option ℕ) (levels i : ℕ) → levels ≤ i → above (levels - i) es at ≡ []
unfolding above
above_end es at levels i le =
    let e : levels - i ≡ 0 = omega arith in
    ap (λ k. above k es at) e

pub height_some : (es : Objects) (n : ℕ) (ns : List ℕ) (levels i : ℕ) → i < levels → height (levels - i) es (n ∷ ns) ≡ suc (height (levels - (i + 1)) es (next_level es (n ∷ ns)))
unfolding height
height_some es n ns levels i lt =
    let e : levels - i ≡ suc (levels - (i + 1)) = omega arith in
    ap (λ k. height k es (n ∷ ns)) e

pub height_none : (es : Objects) (k : ℕ) → height k es [] ≡ 0
unfolding height
height_none es zero = refl
height_none es (suc k) = refl

pub height_end : (es : Objects) (ns : List ℕ) (levels i : ℕ) → levels ≤ i → height (levels - i) es ns ≡ 0
unfolding height
height_end es ns levels i le =
    let e : levels - i ≡ 0 = omega arith in
    ap (λ k. height k es ns) e

pub subtree_some : (es : Objects) (ns : List ℕ) (levels i : ℕ) → i < levels → subtree (levels - i) es ns ≡ ns ++ subtree (levels - (i + 1)) es (next_level es ns)
unfolding subtree
subtree_some es ns levels i lt =
    let e : levels - i ≡ suc (levels - (i + 1)) = omega arith in
    ap (λ k. subtree k es ns) e

pub subtree_end : (es : Objects) (ns : List ℕ) (levels i : ℕ) → levels ≤ i → subtree (levels - i) es ns ≡ []
unfolding subtree
subtree_end es ns levels i le =
    let e : levels - i ≡ 0 = omega arith in
    ap (λ k. subtree k es ns) e

pub height_empty : (es : Objects) (ns : List ℕ) (k : ℕ) → length ns ≡ 0 → height k es ns ≡ 0
height_empty es [] k h = height_none es k
height_empty es (n ∷ ns) k h = absurd (omega arith)

pub height_step : (es : Objects) (ns : List ℕ) (levels i : ℕ) → i < levels → 0 < length ns → height (levels - i) es ns ≡ suc (height (levels - (i + 1)) es (next_level es ns))
height_step es [] levels i lt some_ = absurd (omega arith)
height_step es (n ∷ ns) levels i lt some_ = height_some es n ns levels i lt
