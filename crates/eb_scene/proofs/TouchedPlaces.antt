-- A new object, and an object that gets another parent.
use Rattle.std.proofs.Common.{◌≡◌, ℕ, List, [], ◌∷◌, ◌++◌, Bool, true, false, ◌&&◌, ◌||◌, cond, nat_eq, Option, Some, None, option_map, option_and_then, is_some, refl, sym, ap, ◌∙◌, true≢false, nat_cmp}
use Rattle.std.specs.Map.{keys_of, set_value}
use Rattle.std.specs.BTreeMap.{is_at}
use Rattle.std.specs.List.Sorted.{IsStrictlySortedBy}
use Rattle.eb_scene.specs.declared.objects.Object.{Object}
use Rattle.eb_scene.specs.declared.keys.Key.{Key}
use Rattle.eb_scene.specs.declared.keys.Key.TheVariants.{Comp, Parent, Children, Exists, Asset}
use Rattle.eb_scene.specs.Numbers.{with_number}
use Rattle.eb_scene.specs.Projects.{Objects, numbered, part_of, is_parent, parent_at, children_of}
use Rattle.eb_scene.specs.Tables.{with_numbered, set_found, changed, changed_list}
use Rattle.eb_scene.specs.Edits.{fresh, parented}
use Rattle.eb_scene.specs.Touched.{children_key}
use Rattle.eb_scene.specs.Answers.{Values, Above, Below, There, has_key}
use Rattle.eb_scene.proofs.Children.{either, children_put, children_moved}
use Rattle.eb_scene.proofs.KeyFacts.{Spares, has_both, second_false}
use Rattle.eb_scene.proofs.LookUps.{turned, equal, found_put, found_put_apart, found_changed_apart}
use Rattle.eb_scene.proofs.TouchedParts.{part_values, comp_alike, exists_alike}

-- the children of p aren't touched, so p isn't the parent
pub not_parent : (s t p : ℕ) (parent : Option ℕ) → nat_eq t s ≡ true → has_key (children_key s parent) (Children t p) ≡ false → is_parent parent p ≡ false
not_parent s t p None here apart = refl
not_parent s t p (Some q) here apart =
    let h = either (nat_eq t s && nat_eq p q) false apart in
    turned q p ∙ second_false (nat_eq t s) (nat_eq p q) here h.0

-- ---- a new object

fresh_values : (b : Bool) (es : Objects) (n m kind : ℕ) (parent mark : Option ℕ) → nat_eq m n ≡ b → numbered es n ≡ None
    → part_values kind (numbered (with_numbered es n (fresh n parent mark)) m) ≡ part_values kind (numbered es m)
fresh_values true es n m kind parent mark same absent =
    ap (λ k. part_values kind (numbered (with_numbered es n (fresh n parent mark)) k)) (equal m n same)
    ∙ ap (part_values kind) (found_put n (fresh n parent mark) es)
    ∙ sym (ap (part_values kind) (ap (numbered es) (equal m n same) ∙ absent))
fresh_values false es n m kind parent mark apart absent = ap (part_values kind) (found_put_apart n m (fresh n parent mark) es apart)

-- what is there isn't the new one
is_other : (b : Bool) (es : Objects) (n m : ℕ) → nat_eq m n ≡ b → numbered es n ≡ None → is_some (numbered es m) ≡ true → b ≡ false
is_other true es n m same absent there = sym there ∙ ap is_some (ap (numbered es) (equal m n same) ∙ absent)
is_other false es n m same absent there = refl

pub spares_added : (s n : ℕ) (parent mark : Option ℕ) (es : Objects) → IsStrictlySortedBy nat_cmp (keys_of es) → numbered es n ≡ None
    → Spares s es (with_numbered es n (fresh n parent mark)) (Exists s n ∷ children_key s parent)
spares_added s n parent mark es sorted absent (Comp t m kind) here object apart = ap Values (fresh_values (nat_eq m n) es n m kind parent mark refl absent)
spares_added s n parent mark es sorted absent (Parent t m) here object apart =
    ap (λ r. Above (option_and_then (λ o. o.parent) r)) (found_put_apart n m (fresh n parent mark) es (is_other (nat_eq m n) es n m refl absent object))
spares_added s n parent mark es sorted absent (Children t p) here object apart =
    let other : is_parent parent p ≡ false = not_parent s t p parent here apart in
    ap Below (children_put n (fresh n parent mark) es p sorted absent ∙ ap (λ b. cond b (with_number (children_of es p) n) (children_of es p)) other)
spares_added s n parent mark es sorted absent (Exists t m) here object apart =
    let h = either (nat_eq t s && nat_eq m n) (has_key (children_key s parent) (Exists t m)) apart in
    ap (λ r. There (is_some r)) (found_put_apart n m (fresh n parent mark) es (second_false (nat_eq t s) (nat_eq m n) here h.0))
spares_added s n parent mark es sorted absent (Asset m) here object apart = refl

-- ---- another parent

moved_apart : (n p : ℕ) (parent : Option ℕ) (es : Objects) (r : Option Object) → numbered es n ≡ r → IsStrictlySortedBy nat_cmp (keys_of es)
    → is_parent (option_and_then (λ o. o.parent) r) p ≡ false → is_parent parent p ≡ false → children_of (set_found (parented parent) es n r) p ≡ children_of es p
moved_apart n p parent es None is sorted old new = refl
moved_apart n p parent es (Some o) is sorted old new =
    children_moved n o (parented parent o) es p sorted is
    ∙ ap (λ b. changed_list n b (is_parent parent p) (children_of es p)) old ∙ ap (λ b. changed_list n false b (children_of es p)) new

pub spares_moved : (s n : ℕ) (parent : Option ℕ) (es : Objects) → IsStrictlySortedBy nat_cmp (keys_of es)
    → Spares s es (changed (parented parent) es n) ((Parent s n ∷ children_key s (parent_at es n)) ++ children_key s parent)
spares_moved s n parent es sorted (Comp t m kind) here object apart = ap Values (comp_alike kind (parented parent) (λ o. refl) es n m)
spares_moved s n parent es sorted (Parent t m) here object apart =
    let h = has_both (Parent s n ∷ children_key s (parent_at es n)) (children_key s parent) (Parent t m) apart in
    let first = either (nat_eq t s && nat_eq m n) (has_key (children_key s (parent_at es n)) (Parent t m)) h.0 in
    ap (λ r. Above (option_and_then (λ o. o.parent) r)) (found_changed_apart (parented parent) es n m (second_false (nat_eq t s) (nat_eq m n) here first.0))
spares_moved s n parent es sorted (Children t p) here object apart =
    let h = has_both (Parent s n ∷ children_key s (parent_at es n)) (children_key s parent) (Children t p) apart in
    ap Below (moved_apart n p parent es (numbered es n) refl sorted (not_parent s t p (parent_at es n) here h.0) (not_parent s t p parent here h.1))
spares_moved s n parent es sorted (Exists t m) here object apart = ap There (exists_alike (parented parent) es n m)
spares_moved s n parent es sorted (Asset m) here object apart = refl
