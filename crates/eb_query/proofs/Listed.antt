-- The name of the entity at a place of the world's list.
use Rattle.std.proofs.Common.{◌≡◌, ℕ, zero, suc, ◌+◌, ◌≤◌, List, [], ◌∷◌, ◌++◌, length, drop, refl, sym, ◌∙◌, ap, append_assoc, append-nil, arith}
use Rattle.std.specs.Prelude.{Option, Some, None, option_and_then, slice_get}
use Rattle.std.specs.FinMap.{get, entries, keys, len, len-entries}
use Rattle.std.proofs.lemmas.List.{length-map}
use Rattle.std.proofs.lemmas.List.Sorted.{length_permutation}
use Rattle.eb_base.specs.declared.names.Name.{Name}
use Rattle.eb_base.specs.declared.names.Entity.{Entity}
use Rattle.eb_world.specs.Worlds.{IsWorld, World, named}
use Rattle.eb_world.proofs.Naming.{named_some, not_none, same_some}

pub named_at : (w : World) → IsWorld w → (o : Option Name) (entity : Entity) → option_and_then (get w.handles) o ≡ Some entity → named w.handles entity ≡ o
named_at w whole None entity h = absurd (not_none entity h)
named_at w whole (Some name) entity h = named_some w.handles entity name h (λ a b. whole.apart a b entity)

pub no_name : (w : World) → IsWorld w → (o : Option Name) (entity : Entity) → option_and_then (get w.handles) o ≡ Some entity → named w.handles entity ≡ None → ⊥
no_name w whole None entity h none = not_none entity h
no_name w whole (Some name) entity h none = not_none name (sym none ∙ named_at w whole (Some name) entity h)

-- ---- a list that is gone through by places

next_at : (xs : List Name) (n : ℕ) (x : Name) → slice_get xs n ≡ Some x → drop n xs ≡ x ∷ drop (suc n) xs
next_at [] n x h = absurd (not_none x h)
next_at (y ∷ ys) zero x h = ap (λ z. z ∷ ys) (same_some y x h)
next_at (y ∷ ys) (suc n) x h = next_at ys n x h

pub next_taken : (done xs : List Name) (n : ℕ) (x : Name) → slice_get xs n ≡ Some x → done ++ drop n xs ≡ xs → (done ++ x ∷ []) ++ drop (n + 1) xs ≡ xs
next_taken done xs n x h k =
    let after : n + 1 ≡ suc n = omega arith in
    append_assoc done (x ∷ []) (drop (n + 1) xs) ∙ ap (λ m. done ++ x ∷ drop m xs) after ∙ ap (λ ys. done ++ ys) (sym (next_at xs n x h)) ∙ k

none_left : (xs : List Name) (n : ℕ) → length xs ≤ n → drop n xs ≡ []
none_left [] zero h = refl
none_left [] (suc n) h = refl
none_left (y ∷ ys) zero h = absurd (omega (arith, h))
none_left (y ∷ ys) (suc n) h = none_left ys n (omega (arith, h))

pub all_taken : (done xs : List Name) (n : ℕ) → length xs ≤ n → done ++ drop n xs ≡ xs → done ≡ xs
all_taken done xs n h k = sym (append-nil done) ∙ ap (λ ys. done ++ ys) (sym (none_left xs n h)) ∙ k

-- as many names are listed as there are
pub listed_count : (w : World) → IsWorld w → length w.order ≡ len w.live
listed_count w whole = length_permutation (keys w.live) w.order whole.order ∙ length-map (entries w.live) (λ e. e.0) ∙ sym (len-entries w.live)
