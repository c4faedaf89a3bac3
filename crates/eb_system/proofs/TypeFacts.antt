-- Types in an ascending list.
use Rattle.std.proofs.Common.{◌≡◌, ℕ, List, [], map, true, Ok, Err, sym, ap, ◌∙◌, subst}
use Rattle.std.specs.Prelude.{is_ok}
use Rattle.std.specs.List.{insert}
use Rattle.std.specs.List.Sorted.{IsStrictlySortedBy}
use Rattle.std.specs.Ordering.{nat_cmp}
use Rattle.eb_schema.specs.TypeOrder.{place_of}
use Rattle.eb_schema.proofs.TypeOrderFacts.{put_at, put_at_place, same_with, sorted_with}
use Rattle.eb_scene.specs.Numbers.{with_number}

abbrev same : ℕ → ℕ
same k = k

pub there_already : (kind : ℕ) (ks ss : List ℕ) (at : ℕ) → ss ≡ ks → Ok at ≡ place_of same kind ss → ks ≡ with_number ks kind
there_already kind ks ss at is here =
    let found : is_ok (place_of same kind ks) ≡ true = sym (ap is_ok (here ∙ ap (place_of same kind) is)) in
    sym (same_with kind ks found)

pub new_there : (kind : ℕ) (ks ss js : List ℕ) (at : ℕ) → ss ≡ ks → Err at ≡ place_of same kind ss → js ≡ insert ks at kind → js ≡ with_number ks kind
new_there kind ks ss js at is here put =
    put ∙ ap (λ r. put_at same r ks kind) (here ∙ ap (place_of same kind) is) ∙ put_at_place same kind ks

pub sorted_along : (kind : ℕ) (ks js : List ℕ) → IsStrictlySortedBy nat_cmp (map same ks) → js ≡ with_number ks kind → IsStrictlySortedBy nat_cmp (map same js)
sorted_along kind ks js sorted is = subst (λ ls. IsStrictlySortedBy nat_cmp (map same ls)) (sym is) (sorted_with same kind ks sorted)

pub none_sorted : IsStrictlySortedBy nat_cmp (map same [])
unfolding IsStrictlySortedBy
none_sorted = tt
