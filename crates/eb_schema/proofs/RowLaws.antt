-- What is found in a row after a cell was put into it, and which types a row and a set have.
use Rattle.std.proofs.Common.{◌≡◌, ℕ, List, [], ◌∷◌, map, Bool, true, false, cond, nat_eq, Option, Some, Ordering, Less, Equal, Greater, refl, sym, ap, ◌∙◌, nat_cmp, arith}
use Rattle.std.specs.Prelude.{◌||◌, is_some, find}
use Rattle.std.specs.List.{list_any}
use Rattle.std.specs.Ordering.{match_ordering}
use Rattle.std.proofs.lemmas.Bool.Decides.{nat_tests}
use Rattle.eb_schema.specs.Rows.{with_item, type_set}
use Rattle.eb_schema.proofs.TableFacts.{swap_tests, one_test}
use Rattle.eb_schema.proofs.TypeOrderFacts.{any_found}

module _ {X : Type 0} (kind : X → ℕ) (x : X) (k : ℕ) where
  abbrev found : List X → Option X
  found xs = find (λ y. nat_eq (kind y) k) xs

  found_where : (o : Ordering) (y : X) (ys : List X) → nat_cmp (kind x) (kind y) ≡ o → found (with_item kind x ys) ≡ cond (nat_eq (kind x) k) (Some x) (found ys)
      → found (match_ordering o (x ∷ y ∷ ys) (x ∷ ys) (y ∷ with_item kind x ys)) ≡ cond (nat_eq (kind x) k) (Some x) (found (y ∷ ys))
  found_where Less y ys is later = refl
  found_where Equal y ys is later =
      let same : kind x ≡ kind y = grind (arith, nat_tests) in
      ap (λ j. cond (nat_eq j k) (Some x) (found ys)) same ∙ one_test (nat_eq (kind x) k) (nat_eq (kind y) k) x y (found ys) (ap (λ j. nat_eq j k) same)
  found_where Greater y ys is later =
      ap (cond (nat_eq (kind y) k) (Some y)) later ∙ swap_tests (nat_eq (kind x) k) (nat_eq (kind y) k) x y (found ys) (λ a b. grind (arith, nat_tests))

  pub found_with : (xs : List X) → found (with_item kind x xs) ≡ cond (nat_eq (kind x) k) (Some x) (found xs)
  found_with [] = refl
  found_with (y ∷ ys) = found_where (nat_cmp (kind x) (kind y)) y ys refl (found_with ys)

some_cond : {X : Type 0} (b : Bool) (x : X) (o : Option X) → is_some (cond b (Some x) o) ≡ (b || is_some o)
some_cond true x o = refl
some_cond false x o = refl

-- the types of items, and the items of a type
pub any_type : {X : Type 0} (kind : X → ℕ) (xs : List X) (k : ℕ) → list_any (λ j. nat_eq j k) (map kind xs) ≡ is_some (find (λ x. nat_eq (kind x) k) xs)
any_type kind [] k = refl
any_type kind (x ∷ xs) k = ap (λ b. nat_eq (kind x) k || b) (any_type kind xs k) ∙ sym (some_cond (nat_eq (kind x) k) x (find (λ x. nat_eq (kind x) k) xs))

pub any_of_set : (ks : List ℕ) (k : ℕ) → list_any (λ j. nat_eq j k) (type_set ks) ≡ list_any (λ j. nat_eq j k) ks
any_of_set [] k = refl
any_of_set (j ∷ ks) k =
    any_found (λ i. i) (λ i. nat_eq i k) (type_set (j ∷ ks)) ∙ ap is_some (found_with (λ i. i) j k (type_set ks))
    ∙ some_cond (nat_eq j k) j (find (λ i. nat_eq i k) (type_set ks)) ∙ ap (λ b. nat_eq j k || b) (sym (any_found (λ i. i) (λ i. nat_eq i k) (type_set ks)) ∙ any_of_set ks k)
