-- What a change of the objects does to the children of each, and to the list of all numbers.
use Rattle.std.proofs.Common.{◌≡◌, ℕ, List, [], ◌∷◌, Bool, true, false, cond, nat_eq, Option, Some, None, Ordering, Less, Equal, Greater, refl, sym, ap, subst, ◌∙◌, true≢false, arith}
use Rattle.std.specs.Prelude.{◌||◌}
use Rattle.std.specs.Map.{keys_of, set_value}
use Rattle.std.specs.BTreeMap.{is_at}
use Rattle.std.specs.List.Sorted.{IsStrictlySortedBy}
use Rattle.std.specs.Ordering.{nat_cmp, is_eq, match_ordering}
use Rattle.std.proofs.lemmas.Bool.Decides.{nat_tests}
use Rattle.eb_schema.proofs.TypeOrderFacts.{IsBelow}
use Rattle.eb_scene.specs.declared.objects.Object.{Object}
use Rattle.eb_scene.specs.Numbers.{has_number, with_number, without_number}
use Rattle.eb_scene.specs.Projects.{Objects, numbered, is_parent, children_of}
use Rattle.eb_scene.specs.Tables.{with_numbered, without_numbered, set_found, changed, changed_list}
use Rattle.eb_scene.proofs.NumberFacts.{below_further}

-- ---- what is below a number

below_one : (j : ℕ) (b : Bool) (k : ℕ) (ks : List ℕ) → nat_cmp j k ≡ Less → IsBelow j ks → IsBelow j (cond b (k ∷ ks) ks)
below_one j true k ks here rest = (here, rest)
below_one j false k ks here rest = rest

pub below_children : (j : ℕ) (es : Objects) (p : ℕ) → IsBelow j (keys_of es) → IsBelow j (children_of es p)
below_children j [] p h = tt
below_children j (e ∷ es) p h = below_one j (is_parent e.1.parent p) e.0 (children_of es p) h.0 (below_children j es p h.1)

first_with : (n : ℕ) (ks : List ℕ) → IsBelow n ks → with_number ks n ≡ n ∷ ks
first_with n [] h = refl
first_with n (k ∷ ks) h = ap (λ c. match_ordering c (n ∷ k ∷ ks) (n ∷ ks) (k ∷ with_number ks n)) h.0

-- ---- a new object

put_later : (be b : Bool) (n k : ℕ) (cs : List ℕ) → nat_cmp n k ≡ Greater
    → cond be (k ∷ cond b (with_number cs n) cs) (cond b (with_number cs n) cs) ≡ cond b (with_number (cond be (k ∷ cs) cs) n) (cond be (k ∷ cs) cs)
put_later true true n k cs h = sym (ap (λ c. match_ordering c (n ∷ k ∷ cs) (n ∷ cs) (k ∷ with_number cs n)) h)
put_later true false n k cs h = refl
put_later false true n k cs h = refl
put_later false false n k cs h = refl

children_put_where : (c : Ordering) (n : ℕ) (o : Object) (e : ℕ × Object) (es : Objects) (p : ℕ) → nat_cmp n e.0 ≡ c → IsBelow e.0 (keys_of es)
    → cond (is_eq c) (Some e.1) (numbered es n) ≡ None
    → (numbered es n ≡ None → children_of (with_numbered es n o) p ≡ cond (is_parent o.parent p) (with_number (children_of es p) n) (children_of es p))
    → children_of (match_ordering c ((n, o) ∷ e ∷ es) ((e.0, o) ∷ es) (e ∷ with_numbered es n o)) p ≡ cond (is_parent o.parent p) (with_number (children_of (e ∷ es) p) n) (children_of (e ∷ es) p)
children_put_where Less n o e es p is above absent later =
    let all : IsBelow n (children_of (e ∷ es) p) = below_children n (e ∷ es) p (is, below_further n e.0 (keys_of es) is above) in
    sym (ap (λ ks. cond (is_parent o.parent p) ks (children_of (e ∷ es) p)) (first_with n (children_of (e ∷ es) p) all))
children_put_where Equal n o e es p is above absent later = cc
children_put_where Greater n o e es p is above absent later =
    ap (λ ks. cond (is_parent e.1.parent p) (e.0 ∷ ks) ks) (later absent) ∙ put_later (is_parent e.1.parent p) (is_parent o.parent p) n e.0 (children_of es p) is

pub children_put : (n : ℕ) (o : Object) (es : Objects) (p : ℕ) → IsStrictlySortedBy nat_cmp (keys_of es) → numbered es n ≡ None
    → children_of (with_numbered es n o) p ≡ cond (is_parent o.parent p) (with_number (children_of es p) n) (children_of es p)
unfolding IsStrictlySortedBy
children_put n o [] p sorted absent = refl
children_put n o (e ∷ es) p sorted absent = children_put_where (nat_cmp n e.0) n o e es p refl sorted.0 absent (λ h. children_put n o es p sorted.1 h)

module _ {X : Type 0} where
  keys_put_where : (c : Ordering) (n : ℕ) (x : X) (e : ℕ × X) (es : List (ℕ × X)) → nat_cmp n e.0 ≡ c → keys_of (with_numbered es n x) ≡ with_number (keys_of es) n
      → keys_of (match_ordering c ((n, x) ∷ e ∷ es) ((e.0, x) ∷ es) (e ∷ with_numbered es n x)) ≡ match_ordering c (n ∷ e.0 ∷ keys_of es) (n ∷ keys_of es) (e.0 ∷ with_number (keys_of es) n)
  keys_put_where Less n x e es is later = refl
  keys_put_where Equal n x e es is later = let same : e.0 ≡ n = grind (arith, nat_tests) in ap (λ k. k ∷ keys_of es) same
  keys_put_where Greater n x e es is later = ap (λ ks. e.0 ∷ ks) later

  pub keys_put : (n : ℕ) (x : X) (es : List (ℕ × X)) → keys_of (with_numbered es n x) ≡ with_number (keys_of es) n
  keys_put n x [] = refl
  keys_put n x (e ∷ es) = keys_put_where (nat_cmp n e.0) n x e es refl (keys_put n x es)

  -- ---- one that isn't there

  absent_where : (c : Ordering) (n : ℕ) (e : ℕ × X) (es : List (ℕ × X)) → nat_cmp n e.0 ≡ c → cond (is_eq c) (Some e.1) (numbered es n) ≡ None
      → (numbered es n ≡ None → has_number (keys_of es) n ≡ false) → has_number (e.0 ∷ keys_of es) n ≡ false
  absent_where Less n e es is absent later = let apart : nat_eq e.0 n ≡ false = grind (arith, nat_tests) in rw apart (later absent)
  absent_where Equal n e es is absent later = cc
  absent_where Greater n e es is absent later = let apart : nat_eq e.0 n ≡ false = grind (arith, nat_tests) in rw apart (later absent)

  pub absent_keys : (n : ℕ) (es : List (ℕ × X)) → numbered es n ≡ None → has_number (keys_of es) n ≡ false
  absent_keys n [] absent = refl
  absent_keys n (e ∷ es) absent = absent_where (nat_cmp n e.0) n e es refl absent (λ h. absent_keys n es h)

pub either : (a b : Bool) → (a || b) ≡ false → (a ≡ false) × (b ≡ false)
either true b h = absurd (true≢false h)
either false b h = (refl, h)

absent_one : (b : Bool) (n k : ℕ) (ks : List ℕ) → nat_eq k n ≡ false → has_number ks n ≡ false → has_number (cond b (k ∷ ks) ks) n ≡ false
absent_one true n k ks apart rest = rw apart rest
absent_one false n k ks apart rest = rest

absent_children_of : (n : ℕ) (es : Objects) (p : ℕ) → has_number (keys_of es) n ≡ false → has_number (children_of es p) n ≡ false
absent_children_of n [] p h = refl
absent_children_of n (e ∷ es) p h =
    let parts = either (nat_eq e.0 n) (has_number (keys_of es) n) h in
    absent_one (is_parent e.1.parent p) n e.0 (children_of es p) parts.0 (absent_children_of n es p parts.1)

pub absent_children : (n : ℕ) (es : Objects) (p : ℕ) → numbered es n ≡ None → has_number (children_of es p) n ≡ false
absent_children n es p absent = absent_children_of n es p (absent_keys n es absent)

-- ---- a number put in and taken out again

undone_where : (c : Ordering) (n k : ℕ) (ks : List ℕ) → nat_cmp n k ≡ c → nat_eq k n ≡ false → without_number (with_number ks n) n ≡ ks
    → without_number (match_ordering c (n ∷ k ∷ ks) (n ∷ ks) (k ∷ with_number ks n)) n ≡ k ∷ ks
undone_where Less n k ks is apart later = let same : nat_eq n n ≡ true = grind (arith, nat_tests) in ap (λ b. cond b (k ∷ ks) (n ∷ without_number (k ∷ ks) n)) same
undone_where Equal n k ks is apart later = let same : nat_eq k n ≡ true = grind (arith, nat_tests) in absurd (true≢false (sym same ∙ apart))
undone_where Greater n k ks is apart later = ap (λ b. cond b (with_number ks n) (k ∷ without_number (with_number ks n) n)) apart ∙ ap (λ js. k ∷ js) later

pub undone : (n : ℕ) (ks : List ℕ) → has_number ks n ≡ false → without_number (with_number ks n) n ≡ ks
undone n [] h = let same : nat_eq n n ≡ true = grind (arith, nat_tests) in ap (λ b. cond b [] (n ∷ [])) same
undone n (k ∷ ks) h =
    let parts = either (nat_eq k n) (has_number ks n) h in
    undone_where (nat_cmp n k) n k ks refl parts.0 (undone n ks parts.1)

-- ---- an object taken out

found_one : (c : Ordering) (n k : ℕ) → nat_cmp n k ≡ c → is_eq c ≡ nat_eq k n
found_one Less n k is = let apart : nat_eq k n ≡ false = grind (arith, nat_tests) in sym apart
found_one Equal n k is = let same : nat_eq k n ≡ true = grind (arith, nat_tests) in sym same
found_one Greater n k is = let apart : nat_eq k n ≡ false = grind (arith, nat_tests) in sym apart

-- the test of a look-up is that of equal numbers
pub at_is : (n k : ℕ) → is_at (nat_cmp n) k ≡ nat_eq k n
at_is n k = found_one (nat_cmp n k) n k refl

pub keys_gone : {X : Type 0} (n : ℕ) (es : List (ℕ × X)) → keys_of (without_numbered es n) ≡ without_number (keys_of es) n
keys_gone n [] = refl
keys_gone {X} n (e ∷ es) = keys_gone_where (is_at (nat_cmp n) e.0) n e es (keys_gone n es) ∙ ap (λ b. cond b (keys_of es) (e.0 ∷ without_number (keys_of es) n)) (at_is n e.0)
  where
    keys_gone_where : (b : Bool) (n : ℕ) (e : ℕ × X) (es : List (ℕ × X)) → keys_of (without_numbered es n) ≡ without_number (keys_of es) n
        → keys_of (cond b es (e ∷ without_numbered es n)) ≡ cond b (keys_of es) (e.0 ∷ without_number (keys_of es) n)
    keys_gone_where true n e es later = refl
    keys_gone_where false n e es later = ap (λ ks. e.0 ∷ ks) later

gone_here : (b : Bool) (n k : ℕ) (cs : List ℕ) → nat_eq k n ≡ true → cs ≡ cond b (without_number (cond b (k ∷ cs) cs) n) (cond b (k ∷ cs) cs)
gone_here true n k cs h = sym (ap (λ t. cond t cs (k ∷ without_number cs n)) h)
gone_here false n k cs h = refl

gone_later : (be b : Bool) (n k : ℕ) (cs : List ℕ) → nat_eq k n ≡ false
    → cond be (k ∷ cond b (without_number cs n) cs) (cond b (without_number cs n) cs) ≡ cond b (without_number (cond be (k ∷ cs) cs) n) (cond be (k ∷ cs) cs)
gone_later true true n k cs h = sym (ap (λ t. cond t cs (k ∷ without_number cs n)) h)
gone_later true false n k cs h = refl
gone_later false true n k cs h = refl
gone_later false false n k cs h = refl

pub some_same : {X : Type 0} (x y : X) → Some x ≡ Some y → x ≡ y
some_same x y h = cc

children_gone_where : (t : Bool) (n : ℕ) (o : Object) (e : ℕ × Object) (es : Objects) (p : ℕ) → nat_eq e.0 n ≡ t → cond t (Some e.1) (numbered es n) ≡ Some o
    → (numbered es n ≡ Some o → children_of (without_numbered es n) p ≡ cond (is_parent o.parent p) (without_number (children_of es p) n) (children_of es p))
    → children_of (cond t es (e ∷ without_numbered es n)) p ≡ cond (is_parent o.parent p) (without_number (children_of (e ∷ es) p) n) (children_of (e ∷ es) p)
children_gone_where true n o e es p is found later =
    let same : e.1 ≡ o = some_same e.1 o found in
    subst (λ w. children_of es p ≡ cond (is_parent w.parent p) (without_number (children_of (e ∷ es) p) n) (children_of (e ∷ es) p)) same
    (gone_here (is_parent e.1.parent p) n e.0 (children_of es p) is)
children_gone_where false n o e es p is found later =
    ap (λ ks. cond (is_parent e.1.parent p) (e.0 ∷ ks) ks) (later found) ∙ gone_later (is_parent e.1.parent p) (is_parent o.parent p) n e.0 (children_of es p) is

pub children_gone : (n : ℕ) (o : Object) (es : Objects) (p : ℕ) → numbered es n ≡ Some o
    → children_of (without_numbered es n) p ≡ cond (is_parent o.parent p) (without_number (children_of es p) n) (children_of es p)
children_gone n o [] p found = cc
children_gone n o (e ∷ es) p found = children_gone_where (is_at (nat_cmp n) e.0) n o e es p (sym (at_is n e.0)) found (λ h. children_gone n o es p h)

-- ---- an object changed in its place

-- the parent stays
children_same_where : (t : Bool) (n : ℕ) (o w : Object) (e : ℕ × Object) (es : Objects) (p : ℕ) → w.parent ≡ o.parent → cond t (Some e.1) (numbered es n) ≡ Some o
    → (numbered es n ≡ Some o → children_of (set_value (is_at (nat_cmp n)) es w) p ≡ children_of es p)
    → children_of (cond t ((e.0, w) ∷ es) (e ∷ set_value (is_at (nat_cmp n)) es w)) p ≡ children_of (e ∷ es) p
children_same_where true n o w e es p kept found later =
    let same : w.parent ≡ e.1.parent = kept ∙ sym (ap (λ x. x.parent) (some_same e.1 o found)) in
    ap (λ q. cond (is_parent q p) (e.0 ∷ children_of es p) (children_of es p)) same
children_same_where false n o w e es p kept found later = ap (λ ks. cond (is_parent e.1.parent p) (e.0 ∷ ks) ks) (later found)

pub children_same : (n : ℕ) (o w : Object) (es : Objects) (p : ℕ) → w.parent ≡ o.parent → numbered es n ≡ Some o → children_of (set_value (is_at (nat_cmp n)) es w) p ≡ children_of es p
children_same n o w [] p kept found = refl
children_same n o w (e ∷ es) p kept found = children_same_where (is_at (nat_cmp n) e.0) n o w e es p kept found (λ h. children_same n o w es p kept h)

pub keys_same : {X : Type 0} (n : ℕ) (es : List (ℕ × X)) (w : X) → keys_of (set_value (is_at (nat_cmp n)) es w) ≡ keys_of es
keys_same n [] w = refl
keys_same {X} n (e ∷ es) w = keys_same_where (is_at (nat_cmp n) e.0) n e es w (keys_same n es w)
  where
    keys_same_where : (t : Bool) (n : ℕ) (e : ℕ × X) (es : List (ℕ × X)) (w : X) → keys_of (set_value (is_at (nat_cmp n)) es w) ≡ keys_of es
        → keys_of (cond t ((e.0, w) ∷ es) (e ∷ set_value (is_at (nat_cmp n)) es w)) ≡ keys_of (e ∷ es)
    keys_same_where true n e es w later = refl
    keys_same_where false n e es w later = ap (λ ks. e.0 ∷ ks) later

-- the parent changes
found_above_where : (t : Bool) (k n : ℕ) (o : Object) (e : ℕ × Object) (es : Objects) → nat_eq e.0 n ≡ t → nat_cmp k e.0 ≡ Less → cond t (Some e.1) (numbered es n) ≡ Some o
    → (numbered es n ≡ Some o → nat_cmp n k ≡ Greater) → nat_cmp n k ≡ Greater
found_above_where true k n o e es is less found later = grind (arith, nat_tests)
found_above_where false k n o e es is less found later = later found

found_above : (k n : ℕ) (o : Object) (es : Objects) → IsBelow k (keys_of es) → numbered es n ≡ Some o → nat_cmp n k ≡ Greater
found_above k n o [] h found = cc
found_above k n o (e ∷ es) h found = found_above_where (is_at (nat_cmp n) e.0) k n o e es (sym (at_is n e.0)) h.0 found (λ f. found_above k n o es h.1 f)

moved_here : (bo bw : Bool) (n k : ℕ) (cs : List ℕ) → nat_eq k n ≡ true → IsBelow k cs → cond bw (k ∷ cs) cs ≡ changed_list n bo bw (cond bo (k ∷ cs) cs)
moved_here true true n k cs h below = refl
moved_here false false n k cs h below = refl
moved_here true false n k cs h below = sym (ap (λ t. cond t cs (k ∷ without_number cs n)) h)
moved_here false true n k cs h below =
    let same : k ≡ n = grind (arith, nat_tests) in
    ap (λ j. j ∷ cs) same ∙ sym (first_with n cs (subst (λ j. IsBelow j cs) same below))

moved_later : (be bo bw : Bool) (n k : ℕ) (cs : List ℕ) → nat_eq k n ≡ false → nat_cmp n k ≡ Greater
    → cond be (k ∷ changed_list n bo bw cs) (changed_list n bo bw cs) ≡ changed_list n bo bw (cond be (k ∷ cs) cs)
moved_later false true true n k cs apart more = refl
moved_later false true false n k cs apart more = refl
moved_later false false true n k cs apart more = refl
moved_later false false false n k cs apart more = refl
moved_later true true true n k cs apart more = refl
moved_later true true false n k cs apart more = sym (ap (λ t. cond t cs (k ∷ without_number cs n)) apart)
moved_later true false true n k cs apart more = sym (ap (λ c. match_ordering c (n ∷ k ∷ cs) (n ∷ cs) (k ∷ with_number cs n)) more)
moved_later true false false n k cs apart more = refl

moved_where : (t : Bool) (n : ℕ) (o w : Object) (e : ℕ × Object) (es : Objects) (p : ℕ) → nat_eq e.0 n ≡ t → IsBelow e.0 (keys_of es) → cond t (Some e.1) (numbered es n) ≡ Some o
    → (numbered es n ≡ Some o → children_of (set_value (is_at (nat_cmp n)) es w) p ≡ changed_list n (is_parent o.parent p) (is_parent w.parent p) (children_of es p))
    → children_of (cond t ((e.0, w) ∷ es) (e ∷ set_value (is_at (nat_cmp n)) es w)) p ≡ changed_list n (is_parent o.parent p) (is_parent w.parent p) (children_of (e ∷ es) p)
moved_where true n o w e es p is above found later =
    let same : e.1 ≡ o = some_same e.1 o found in
    subst (λ x. cond (is_parent w.parent p) (e.0 ∷ children_of es p) (children_of es p) ≡ changed_list n (is_parent x.parent p) (is_parent w.parent p) (children_of (e ∷ es) p)) same
    (moved_here (is_parent e.1.parent p) (is_parent w.parent p) n e.0 (children_of es p) is (below_children e.0 es p above))
moved_where false n o w e es p is above found later =
    ap (λ ks. cond (is_parent e.1.parent p) (e.0 ∷ ks) ks) (later found)
    ∙ moved_later (is_parent e.1.parent p) (is_parent o.parent p) (is_parent w.parent p) n e.0 (children_of es p) is (found_above e.0 n o es above found)

pub children_moved : (n : ℕ) (o w : Object) (es : Objects) (p : ℕ) → IsStrictlySortedBy nat_cmp (keys_of es) → numbered es n ≡ Some o
    → children_of (set_value (is_at (nat_cmp n)) es w) p ≡ changed_list n (is_parent o.parent p) (is_parent w.parent p) (children_of es p)
unfolding IsStrictlySortedBy
children_moved n o w [] p sorted found = cc
children_moved n o w (e ∷ es) p sorted found = moved_where (is_at (nat_cmp n) e.0) n o w e es p (sym (at_is n e.0)) sorted.0 found (λ h. children_moved n o w es p sorted.1 h)

-- ---- a change that keeps parents

children_set_found : (f : Object → Object) → ((o : Object) → (f o).parent ≡ o.parent) → (es : Objects) (n p : ℕ) (r : Option Object) → numbered es n ≡ r → children_of (set_found f es n r) p ≡ children_of es p
children_set_found f kept es n p None is = refl
children_set_found f kept es n p (Some o) is = children_same n o (f o) es p (kept o) is

pub children_changed_alike : (f : Object → Object) → ((o : Object) → (f o).parent ≡ o.parent) → (es : Objects) (n p : ℕ) → children_of (changed f es n) p ≡ children_of es p
children_changed_alike f kept es n p = children_set_found f kept es n p (numbered es n) refl

keys_set_found : {X : Type 0} (f : X → X) (es : List (ℕ × X)) (n : ℕ) (r : Option X) → keys_of (set_found f es n r) ≡ keys_of es
keys_set_found f es n None = refl
keys_set_found f es n (Some x) = keys_same n es (f x)

pub keys_changed : {X : Type 0} (f : X → X) (es : List (ℕ × X)) (n : ℕ) → keys_of (changed f es n) ≡ keys_of es
keys_changed f es n = keys_set_found f es n (numbered es n)
