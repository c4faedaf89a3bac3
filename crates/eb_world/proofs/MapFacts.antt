-- Finite maps whose values are computed from another map's.
use Rattle.std.proofs.Common.{◌≡◌, true, List, [], ◌∷◌, map, length, refl, sym, ◌∙◌, ap, T, subst}
use Rattle.std.specs.Prelude.{Option, Some, None, is_some, option_map}
use Rattle.std.specs.Cmp.{IsTotalOrder}
use Rattle.std.specs.Ordering.{eq_by_cmp, is_eq}
use Rattle.std.specs.declared.cmp.Ordering.{Ordering}
use Rattle.std.specs.declared.cmp.Ordering.TheVariants.{Less, Equal, Greater}
use Rattle.std.specs.Map.{keys_of}
use Rattle.std.specs.FinMap.{FinMap, empty, get, entries, keys, len, len-entries, get-empty, same_map}
use Rattle.std.proofs.lemmas.List.{length-map}
use Rattle.std.proofs.lemmas.Map.Lookups.{CmpEqualImpliesEq}
use Rattle.eb_base.specs.Maps.{map_values}
use Rattle.eb_base.proofs.MapLaws.{get-map_values, entries-map_values}

equal : (r : Ordering) → is_eq r ≡ true → r ≡ Equal
equal Less h = absurd (subst T (sym h) tt)
equal Equal h = refl
equal Greater h = absurd (subst T (sym h) tt)

pub same_key : {K : Type 0} {R : K → K → Ordering} → CmpEqualImpliesEq R → (a b : K) → eq_by_cmp R a b ≡ true → a ≡ b
same_key exact a b h = exact a b (equal _ h)

firsts : {K X Y : Type 0} (f : X → Y) (es : List (K × X)) → keys_of (map {B = K × Y} (λ (e : K × X). (e.0, f e.1)) es) ≡ keys_of es
firsts f [] = refl
firsts f (e ∷ es) = ap (λ ks. e.0 ∷ ks) (firsts f es)

module _ {K X Y : Type 0} {R : K → K → Ordering} (f : X → Y) (m : FinMap R X) where
  pub keys-map_values : keys (map_values f m) ≡ keys m
  keys-map_values = ap keys_of (entries-map_values f m) ∙ firsts f (entries m)

  pub len-map_values : len (map_values f m) ≡ len m
  len-map_values = len-entries (map_values f m) ∙ ap length (entries-map_values f m) ∙ length-map (entries m) (λ e. (e.0, f e.1)) ∙ sym (len-entries m)

  some_mapped : (o : Option X) → is_some (option_map f o) ≡ is_some o
  some_mapped None = refl
  some_mapped (Some x) = refl

  pub contains-map_values : (q : K) → is_some (get (map_values f m) q) ≡ is_some (get m q)
  contains-map_values q = ap is_some (get-map_values f m q) ∙ some_mapped (get m q)

pub map_values-empty : {K X Y : Type 0} {R : K → K → Ordering} → IsTotalOrder R → CmpEqualImpliesEq R → (f : X → Y) → map_values f (empty {X = X} {R = R}) ≡ empty
map_values-empty {R = R} o exact f = same_map o exact _ _ (λ q. get-map_values f empty q ∙ ap (option_map f) (get-empty R q) ∙ sym (get-empty R q))
