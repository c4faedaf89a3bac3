-- What happens at the place of a component.
use Rattle.std.proofs.Common.{◌≡◌, ℕ, suc, ◌+◌, ◌<◌, ◌≤◌, List, [], ◌∷◌, length, Bool, true, false, cond, nat_eq, Option, Some, None, Result, Ok, Err, Ordering, Less, Equal, Greater, refl, sym, ap, subst, ◌∙◌, arith}
use Rattle.std.specs.Prelude.{option_map, slice_set, slice_index_or}
use Rattle.std.specs.List.{remove, insert}
use Rattle.std.specs.List.Sorted.{IsSearchInRange}
use Rattle.std.specs.Ordering.{nat_cmp, match_ordering}
use Rattle.eb_schema.specs.TypeOrder.{next, place_of}
use Rattle.eb_schema.specs.Rows.{with_item}
use Rattle.eb_schema.proofs.TypeOrderFacts.{put_at, put_at_place}
use Rattle.eb_scene.specs.declared.objects.Part.{Part}
use Rattle.eb_scene.specs.declared.objects.Given.{Given}
use Rattle.eb_scene.specs.Numbers.{without_item}
use Rattle.eb_scene.specs.Parts.{position, further}
use Rattle.eb_scene.specs.Edits.{set_part}

-- a component with another value
abbrev pub revalued : ℕ → Given → Part → Part
revalued place value p = record p { values = slice_set p.values place value }

in_range_where : (b : Bool) (r : Option ℕ) (at n : ℕ) → cond b (Some 0) (option_map suc r) ≡ Some at → ((j : ℕ) → r ≡ Some j → j < n) → at < suc n
in_range_where true r at n is later = let same : 0 ≡ at = cc in omega (arith, same)
in_range_where false None at n is later = cc
in_range_where false (Some j) at n is later = let same : suc j ≡ at = cc in omega (arith, same, later j refl)

pub in_range : (ps : List Part) (kind at : ℕ) → position ps kind ≡ Some at → at < length ps
in_range [] kind at is = cc
in_range (p ∷ ps) kind at is = in_range_where (nat_eq p.kind kind) (position ps kind) at (length ps) is (λ j found. in_range ps kind j found)

removed_where : (b : Bool) (r : Option ℕ) (at : ℕ) (p : Part) (ps rest : List Part) → cond b (Some 0) (option_map suc r) ≡ Some at → ((j : ℕ) → r ≡ Some j → remove ps j ≡ rest)
    → remove (p ∷ ps) at ≡ cond b ps (p ∷ rest)
removed_where true r at p ps rest is later = let same : at ≡ 0 = cc in ap (remove (p ∷ ps)) same
removed_where false None at p ps rest is later = cc
removed_where false (Some j) at p ps rest is later = let same : at ≡ suc j = cc in ap (remove (p ∷ ps)) same ∙ ap (λ qs. p ∷ qs) (later j refl)

pub removed : (ps : List Part) (kind at : ℕ) → position ps kind ≡ Some at → remove ps at ≡ without_item (λ p. p.kind) ps kind
removed [] kind at is = cc
removed (p ∷ ps) kind at is = removed_where (nat_eq p.kind kind) (position ps kind) at p ps (without_item (λ q. q.kind) ps kind) is (λ j found. removed ps kind j found)

set_where : (b : Bool) (r : Option ℕ) (at place : ℕ) (value : Given) (d p : Part) (ps rest : List Part) → cond b (Some 0) (option_map suc r) ≡ Some at
    → ((j : ℕ) → r ≡ Some j → slice_set ps j (revalued place value (slice_index_or ps j d)) ≡ rest)
    → slice_set (p ∷ ps) at (revalued place value (slice_index_or (p ∷ ps) at d)) ≡ cond b (revalued place value p ∷ ps) (p ∷ rest)
set_where true r at place value d p ps rest is later = let same : at ≡ 0 = cc in ap (λ i. slice_set (p ∷ ps) i (revalued place value (slice_index_or (p ∷ ps) i d))) same
set_where false None at place value d p ps rest is later = cc
set_where false (Some j) at place value d p ps rest is later =
    let same : at ≡ suc j = cc in
    ap (λ i. slice_set (p ∷ ps) i (revalued place value (slice_index_or (p ∷ ps) i d))) same ∙ ap (λ qs. p ∷ qs) (later j refl)

pub set_at : (ps : List Part) (kind at place : ℕ) (value : Given) (d : Part) → position ps kind ≡ Some at → slice_set ps at (revalued place value (slice_index_or ps at d)) ≡ set_part kind place value ps
set_at [] kind at place value d is = cc
set_at (p ∷ ps) kind at place value d is = set_where (nat_eq p.kind kind) (position ps kind) at place value d p ps (set_part kind place value ps) is (λ j found. set_at ps kind j place value d found)

absent_where : (b : Bool) (r : Option ℕ) (p : Part) (ps changed new : List Part) → cond b (Some 0) (option_map suc r) ≡ None → (r ≡ None → changed ≡ ps) → cond b new (p ∷ changed) ≡ p ∷ ps
absent_where true r p ps changed new is later = cc
absent_where false None p ps changed new is later = ap (λ qs. p ∷ qs) (later refl)
absent_where false (Some j) p ps changed new is later = cc

pub not_removed : (ps : List Part) (kind : ℕ) → position ps kind ≡ None → without_item (λ p. p.kind) ps kind ≡ ps
not_removed [] kind is = refl
not_removed (p ∷ ps) kind is = absent_where (nat_eq p.kind kind) (position ps kind) p ps (without_item (λ q. q.kind) ps kind) ps is (λ found. not_removed ps kind found)

pub not_set : (ps : List Part) (kind place : ℕ) (value : Given) → position ps kind ≡ None → set_part kind place value ps ≡ ps
not_set [] kind place value is = refl
not_set (p ∷ ps) kind place value is = absent_where (nat_eq p.kind kind) (position ps kind) p ps (set_part kind place value ps) (revalued place value p ∷ ps) is (λ found. not_set ps kind place value found)

-- ---- the place to put a component at

pub further_next : (i : ℕ) (r : Result ℕ ℕ) → further i (next r) ≡ further (i + 1) r
further_next i (Ok at) = let e : suc at + i ≡ at + (i + 1) = omega arith in ap (λ n. Ok n) e
further_next i (Err at) = let e : suc at + i ≡ at + (i + 1) = omega arith in ap (λ n. Err n) e

pub further_none : (r : Result ℕ ℕ) → further 0 r ≡ r
further_none (Ok at) = let e : at + 0 ≡ at = omega arith in ap (λ n. Ok n) e
further_none (Err at) = let e : at + 0 ≡ at = omega arith in ap (λ n. Err n) e

bound_where : (o : Ordering) (r : Result ℕ ℕ) (n : ℕ) → IsSearchInRange r n → IsSearchInRange (match_ordering o (Err 0) (Ok 0) (next r)) (suc n)
bound_where Less r n h = omega arith
bound_where Equal r n h = omega arith
bound_where Greater (Ok at) n h = omega arith
bound_where Greater (Err at) n h = omega arith

pub place_bound : (ps : List Part) (kind : ℕ) → IsSearchInRange (place_of (λ p. p.kind) kind ps) (length ps)
place_bound [] kind = omega arith
place_bound (p ∷ ps) kind = bound_where (nat_cmp kind p.kind) (place_of (λ q. q.kind) kind ps) (length ps) (place_bound ps kind)

pub place_in : (ps : List Part) (kind at : ℕ) → Ok at ≡ place_of (λ p. p.kind) kind ps → at < length ps
place_in ps kind at is = subst (λ r. IsSearchInRange r (length ps)) (sym is) (place_bound ps kind)

pub gap_in : (ps : List Part) (kind at : ℕ) → Err at ≡ place_of (λ p. p.kind) kind ps → at ≤ length ps
gap_in ps kind at is = subst (λ r. IsSearchInRange r (length ps)) (sym is) (place_bound ps kind)

pub put_found : (ps : List Part) (part : Part) (at : ℕ) → Ok at ≡ place_of (λ p. p.kind) part.kind ps → slice_set ps at part ≡ with_item (λ p. p.kind) part ps
put_found ps part at is = ap (λ r. put_at (λ p. p.kind) r ps part) is ∙ put_at_place (λ p. p.kind) part ps

pub put_gap : (ps : List Part) (part : Part) (at : ℕ) → Err at ≡ place_of (λ p. p.kind) part.kind ps → insert ps at part ≡ with_item (λ p. p.kind) part ps
put_gap ps part at is = ap (λ r. put_at (λ p. p.kind) r ps part) is ∙ put_at_place (λ p. p.kind) part ps
