-- Finite maps and lists after a fold over runs.
use Rattle.std.proofs.Common.{◌≡◌, Bool, true, false, cond, ◌&&◌, ◌||◌, List, [], ◌∷◌, Some, None, refl, sym, ap, ◌∙◌, fold, flat_map}
use Rattle.std.specs.FinMap.{FinMap, get, insert, remove, get-insert, get-remove}
use Rattle.std.specs.List.{filter, list_any}
use Rattle.std.specs.Ordering.{eq_by_cmp, is_eq}
use Rattle.std.specs.declared.cmp.Ordering.{Ordering}
use Rattle.std.specs.declared.cmp.Ordering.TheVariants.{Less, Equal, Greater}
use Rattle.std.proofs.lemmas.List.Sums.{fold-append}
use Rattle.eb_base.proofs.NameOrder.{exact_names, names_total}
use Rattle.eb_base.specs.Names.{name_cmp}
use Rattle.eb_base.specs.declared.names.Name.{Name}
use Rattle.eb_eval.specs.declared.ids.RunId.{RunId}
use Rattle.eb_record.specs.Records.{run_name, run_of}

-- one more list of a fold over lists in a row
pub next_list : {A X Y : Type 0} (f : A → Y → A) (g : X → List Y) (a : A) (x : X) (xs : List X) → fold f (fold f a (g x)) (flat_map g xs) ≡ fold f a (flat_map g (x ∷ xs))
next_list f g a x xs = sym (fold-append f a (g x) (flat_map g xs))

-- ---- a run and a name

-- whether a name is that of a run
abbrev pub is_at : Name → RunId → Bool
is_at q id = eq_by_cmp name_cmp q (run_name id)

untrue : false ≡ true → ⊥
untrue h = cc

equal_where : (r : Ordering) → is_eq r ≡ true → r ≡ Equal
equal_where Less h = absurd (untrue h)
equal_where Equal h = refl
equal_where Greater h = absurd (untrue h)

pub meant : (q : Name) (id : RunId) → is_at q id ≡ true → run_of q ≡ id
meant q id h = ap run_of (exact_names q (run_name id) (equal_where (name_cmp q (run_name id)) h))

-- ---- tests of one run in a list

at_head : (a f g any : Bool) → (a ≡ true → f ≡ g) → ((a && f) || (any && g)) ≡ ((a || any) && g)
at_head true true true any same = refl
at_head true false false any same = no_more any where
  no_more : (b : Bool) → (b && false) ≡ false
  no_more true = refl
  no_more false = refl
at_head true true false any same = absurd (untrue (sym (same refl)))
at_head true false true any same = absurd (untrue (same refl))
at_head false f g any same = refl

-- a test of the run of a name, among runs
pub one_tested : (q : Name) (f : RunId → Bool) (ids : List RunId) → list_any (λ id. is_at q id && f id) ids ≡ (list_any (is_at q) ids && f (run_of q))
one_tested q f [] = refl
one_tested q f (id ∷ ids) =
    ap (λ b. (is_at q id && f id) || b) (one_tested q f ids)
    ∙ at_head (is_at q id) (f id) (f (run_of q)) (list_any (is_at q) ids) (λ h. ap f (sym (meant q id h)))

-- among those of them that pass a test
pub picked : {X : Type 0} (p r : X → Bool) (xs : List X) → list_any p (filter r xs) ≡ list_any (λ x. p x && r x) xs
picked p r [] = refl
picked p r (x ∷ xs) = where_it (p x) (r x) x xs refl (picked p r xs) where
  where_it : (a b : Bool) (x : _) (xs : List _) → p x ≡ a → list_any p (filter r xs) ≡ list_any (λ x. p x && r x) xs → list_any p (cond b (x ∷ filter r xs) (filter r xs)) ≡ ((a && b) || list_any (λ x. p x && r x) xs)
  where_it true true x xs is later = ap (λ c. c || list_any p (filter r xs)) is
  where_it false true x xs is later = ap (λ c. c || list_any p (filter r xs)) is ∙ later
  where_it true false x xs is later = later
  where_it false false x xs is later = later

-- ---- maps

twice : {X : Type 0} (a b : Bool) (x y : X) → cond a x (cond b x y) ≡ cond (b || a) x y
twice true true x y = refl
twice true false x y = refl
twice false true x y = refl
twice false false x y = refl

module _ {V : Type 0} (p : RunId → Bool) (v : RunId → V) where
  abbrev put_if : Bool → FinMap name_cmp V → RunId → FinMap name_cmp V
  put_if b m id = cond b (insert m (run_name id) (v id)) m

  one_got : (b : Bool) (m : FinMap name_cmp V) (id : RunId) (q : Name) → get (put_if b m id) q ≡ cond (is_at q id && b) (Some (v (run_of q))) (get m q)
  one_got true m id q = get-insert names_total m (run_name id) (v id) q ∙ value (is_at q id) refl where
    value : (b : Bool) → is_at q id ≡ b → cond b (Some (v id)) (get m q) ≡ cond (b && true) (Some (v (run_of q))) (get m q)
    value true h = ap (λ i. Some (v i)) (sym (meant q id h))
    value false h = refl
  one_got false m id q = none (is_at q id) where
    none : (b : Bool) → get m q ≡ cond (b && false) (Some (v (run_of q))) (get m q)
    none true = refl
    none false = refl

  -- what is under a name once some of these runs are put
  pub put_got : (ids : List RunId) (m : FinMap name_cmp V) (q : Name)
      → get (fold (λ m id. put_if (p id) m id) m ids) q ≡ cond (list_any (λ id. is_at q id && p id) ids) (Some (v (run_of q))) (get m q)
  put_got [] m q = refl
  put_got (id ∷ ids) m q =
      put_got ids (put_if (p id) m id) q
      ∙ ap (cond (list_any (λ i. is_at q i && p i) ids) (Some (v (run_of q)))) (one_got (p id) m id q)
      ∙ twice (list_any (λ i. is_at q i && p i) ids) (is_at q id && p id) (Some (v (run_of q))) (get m q)

module _ {V : Type 0} (p : RunId → Bool) where
  abbrev take_if : Bool → FinMap name_cmp V → RunId → FinMap name_cmp V
  take_if b m id = cond b (remove m (run_name id)) m

  one_left : (b : Bool) (m : FinMap name_cmp V) (id : RunId) (q : Name) → get (take_if b m id) q ≡ cond (is_at q id && b) None (get m q)
  one_left true m id q = get-remove names_total m (run_name id) q ∙ same (is_at q id) where
    same : (b : Bool) → cond b None (get m q) ≡ cond (b && true) None (get m q)
    same true = refl
    same false = refl
  one_left false m id q = none (is_at q id) where
    none : (b : Bool) → get m q ≡ cond (b && false) None (get m q)
    none true = refl
    none false = refl

  -- what is under a name once some of these runs are taken away
  pub taken_left : (ids : List RunId) (m : FinMap name_cmp V) (q : Name)
      → get (fold (λ m id. take_if (p id) m id) m ids) q ≡ cond (list_any (λ id. is_at q id && p id) ids) None (get m q)
  taken_left [] m q = refl
  taken_left (id ∷ ids) m q =
      taken_left ids (take_if (p id) m id) q
      ∙ ap (cond (list_any (λ i. is_at q i && p i) ids) None) (one_left (p id) m id q)
      ∙ twice (list_any (λ i. is_at q i && p i) ids) (is_at q id && p id) None (get m q)
