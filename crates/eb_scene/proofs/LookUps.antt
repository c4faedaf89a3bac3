-- What is found at a number after a change of a list of things under numbers.
use Rattle.std.proofs.Common.{◌≡◌, ℕ, List, [], ◌∷◌, Bool, true, false, cond, nat_eq, Option, Some, None, Ordering, Less, Equal, Greater, refl, sym, ap, ◌∙◌, nat_cmp, arith}
use Rattle.std.specs.Prelude.{option_map}
use Rattle.std.specs.Map.{keys_of, set_value}
use Rattle.std.specs.BTreeMap.{is_at}
use Rattle.std.specs.List.Sorted.{IsStrictlySortedBy}
use Rattle.std.specs.Ordering.{match_ordering}
use Rattle.std.proofs.lemmas.Bool.Decides.{nat_tests}
use Rattle.eb_schema.proofs.TypeOrderFacts.{IsBelow}
use Rattle.eb_scene.specs.Projects.{Numbered, numbered}
use Rattle.eb_scene.specs.Tables.{with_numbered, without_numbered, set_found, changed}
use Rattle.eb_scene.proofs.Children.{at_is}

-- ---- numbers

pub turned : (a b : ℕ) → nat_eq a b ≡ nat_eq b a
turned a b = grind (arith, nat_tests)

pub equal : (a b : ℕ) → nat_eq a b ≡ true → a ≡ b
equal a b h = grind (arith, nat_tests)

pub itself : (a : ℕ) → nat_eq a a ≡ true
itself a = grind (arith, nat_tests)

at_itself : (n : ℕ) → is_at (nat_cmp n) n ≡ true
at_itself n = at_is n n ∙ itself n

not_at : (m k : ℕ) → nat_eq k m ≡ false → is_at (nat_cmp m) k ≡ false
not_at m k apart = at_is m k ∙ apart

module _ {X : Type 0} where
  -- another entry stands first
  pub passed : (m : ℕ) (e : ℕ × X) (es : Numbered X) → nat_eq e.0 m ≡ false → numbered (e ∷ es) m ≡ numbered es m
  passed m e es apart = ap (λ b. cond b (Some e.1) (numbered es m)) (not_at m e.0 apart)

  pub met : (n : ℕ) (x : X) (es : Numbered X) → numbered ((n, x) ∷ es) n ≡ Some x
  met n x es = ap (λ b. cond b (Some x) (numbered es n)) (at_itself n)

  -- ---- a thing set in its place

  set_apart_where : (t : Bool) (n m : ℕ) (w : X) (e : ℕ × X) (es : Numbered X) → nat_eq e.0 n ≡ t → nat_eq m n ≡ false → numbered (set_value (is_at (nat_cmp n)) es w) m ≡ numbered es m
      → numbered (cond t ((e.0, w) ∷ es) (e ∷ set_value (is_at (nat_cmp n)) es w)) m ≡ numbered (e ∷ es) m
  set_apart_where true n m w e es is apart later =
      let other : nat_eq e.0 m ≡ false = grind (arith, nat_tests) in
      passed m (e.0, w) es other ∙ sym (passed m e es other)
  set_apart_where false n m w e es is apart later = ap (cond (is_at (nat_cmp m) e.0) (Some e.1)) later

  pub found_set_apart : (n m : ℕ) (w : X) (es : Numbered X) → nat_eq m n ≡ false → numbered (set_value (is_at (nat_cmp n)) es w) m ≡ numbered es m
  found_set_apart n m w [] apart = refl
  found_set_apart n m w (e ∷ es) apart = set_apart_where (is_at (nat_cmp n) e.0) n m w e es (sym (at_is n e.0)) apart (found_set_apart n m w es apart)

  set_here_where : (t : Bool) (n : ℕ) (o w : X) (e : ℕ × X) (es : Numbered X) → is_at (nat_cmp n) e.0 ≡ t → cond t (Some e.1) (numbered es n) ≡ Some o
      → (numbered es n ≡ Some o → numbered (set_value (is_at (nat_cmp n)) es w) n ≡ Some w) → numbered (cond t ((e.0, w) ∷ es) (e ∷ set_value (is_at (nat_cmp n)) es w)) n ≡ Some w
  set_here_where true n o w e es is found later = ap (λ b. cond b (Some w) (numbered es n)) is
  set_here_where false n o w e es is found later = ap (λ b. cond b (Some e.1) (numbered (set_value (is_at (nat_cmp n)) es w) n)) is ∙ later found

  pub found_set : (n : ℕ) (o w : X) (es : Numbered X) → numbered es n ≡ Some o → numbered (set_value (is_at (nat_cmp n)) es w) n ≡ Some w
  found_set n o w [] found = cc
  found_set n o w (e ∷ es) found = set_here_where (is_at (nat_cmp n) e.0) n o w e es refl found (λ h. found_set n o w es h)

  -- ---- a thing put

  put_apart_where : (c : Ordering) (n m : ℕ) (x : X) (e : ℕ × X) (es : Numbered X) → nat_cmp n e.0 ≡ c → nat_eq m n ≡ false → numbered (with_numbered es n x) m ≡ numbered es m
      → numbered (match_ordering c ((n, x) ∷ e ∷ es) ((e.0, x) ∷ es) (e ∷ with_numbered es n x)) m ≡ numbered (e ∷ es) m
  put_apart_where Less n m x e es is apart later = passed m (n, x) (e ∷ es) (turned n m ∙ apart)
  put_apart_where Equal n m x e es is apart later =
      let other : nat_eq e.0 m ≡ false = grind (arith, nat_tests) in
      passed m (e.0, x) es other ∙ sym (passed m e es other)
  put_apart_where Greater n m x e es is apart later = ap (cond (is_at (nat_cmp m) e.0) (Some e.1)) later

  pub found_put_apart : (n m : ℕ) (x : X) (es : Numbered X) → nat_eq m n ≡ false → numbered (with_numbered es n x) m ≡ numbered es m
  found_put_apart n m x [] apart = passed m (n, x) [] (turned n m ∙ apart)
  found_put_apart n m x (e ∷ es) apart = put_apart_where (nat_cmp n e.0) n m x e es refl apart (found_put_apart n m x es apart)

  put_here_where : (c : Ordering) (n : ℕ) (x : X) (e : ℕ × X) (es : Numbered X) → nat_cmp n e.0 ≡ c → numbered (with_numbered es n x) n ≡ Some x
      → numbered (match_ordering c ((n, x) ∷ e ∷ es) ((e.0, x) ∷ es) (e ∷ with_numbered es n x)) n ≡ Some x
  put_here_where Less n x e es is later = met n x (e ∷ es)
  put_here_where Equal n x e es is later =
      let same : nat_eq e.0 n ≡ true = grind (arith, nat_tests) in
      ap (λ b. cond b (Some x) (numbered es n)) (at_is n e.0 ∙ same)
  put_here_where Greater n x e es is later =
      let other : nat_eq e.0 n ≡ false = grind (arith, nat_tests) in
      passed n e (with_numbered es n x) other ∙ later

  pub found_put : (n : ℕ) (x : X) (es : Numbered X) → numbered (with_numbered es n x) n ≡ Some x
  found_put n x [] = met n x []
  found_put n x (e ∷ es) = put_here_where (nat_cmp n e.0) n x e es refl (found_put n x es)

  -- ---- a thing taken out

  gone_apart_where : (t : Bool) (n m : ℕ) (e : ℕ × X) (es : Numbered X) → nat_eq e.0 n ≡ t → nat_eq m n ≡ false → numbered (without_numbered es n) m ≡ numbered es m
      → numbered (cond t es (e ∷ without_numbered es n)) m ≡ numbered (e ∷ es) m
  gone_apart_where true n m e es is apart later =
      let other : nat_eq e.0 m ≡ false = grind (arith, nat_tests) in
      sym (passed m e es other)
  gone_apart_where false n m e es is apart later = ap (cond (is_at (nat_cmp m) e.0) (Some e.1)) later

  pub found_gone_apart : (n m : ℕ) (es : Numbered X) → nat_eq m n ≡ false → numbered (without_numbered es n) m ≡ numbered es m
  found_gone_apart n m [] apart = refl
  found_gone_apart n m (e ∷ es) apart = gone_apart_where (is_at (nat_cmp n) e.0) n m e es (sym (at_is n e.0)) apart (found_gone_apart n m es apart)

  -- what is below all
  none_below : (n : ℕ) (es : Numbered X) → IsBelow n (keys_of es) → numbered es n ≡ None
  none_below n [] below = refl
  none_below n (e ∷ es) below =
      let other : nat_eq e.0 n ≡ false = grind (arith, nat_tests, below.0) in
      passed n e es other ∙ none_below n es below.1

  gone_here_where : (t : Bool) (n : ℕ) (e : ℕ × X) (es : Numbered X) → nat_eq e.0 n ≡ t → IsBelow e.0 (keys_of es) → numbered (without_numbered es n) n ≡ None
      → numbered (cond t es (e ∷ without_numbered es n)) n ≡ None
  gone_here_where true n e es is below later = ap (numbered es) (sym (equal e.0 n is)) ∙ none_below e.0 es below
  gone_here_where false n e es is below later = passed n e (without_numbered es n) is ∙ later

  pub found_gone : (n : ℕ) (es : Numbered X) → IsStrictlySortedBy nat_cmp (keys_of es) → numbered (without_numbered es n) n ≡ None
  unfolding IsStrictlySortedBy
  found_gone n [] sorted = refl
  found_gone n (e ∷ es) sorted = gone_here_where (is_at (nat_cmp n) e.0) n e es (sym (at_is n e.0)) sorted.0 (found_gone n es sorted.1)

  -- ---- a thing changed

  changed_where : (f : X → X) (es : Numbered X) (n m : ℕ) (r : Option X) (b : Bool) → numbered es n ≡ r → nat_eq m n ≡ b
      → numbered (set_found f es n r) m ≡ cond b (option_map f (numbered es m)) (numbered es m)
  changed_where f es n m None true is here =
      let none_there : numbered es m ≡ None = ap (numbered es) (equal m n here) ∙ is in
      none_there ∙ sym (ap (option_map f) none_there)
  changed_where f es n m (Some x) true is here =
      let there : numbered es m ≡ Some x = ap (numbered es) (equal m n here) ∙ is in
      ap (numbered (set_value (is_at (nat_cmp n)) es (f x))) (equal m n here) ∙ found_set n x (f x) es is ∙ sym (ap (option_map f) there)
  changed_where f es n m None false is here = refl
  changed_where f es n m (Some x) false is here = found_set_apart n m (f x) es here

  pub found_changed : (f : X → X) (es : Numbered X) (n m : ℕ) → numbered (changed f es n) m ≡ cond (nat_eq m n) (option_map f (numbered es m)) (numbered es m)
  found_changed f es n m = changed_where f es n m (numbered es n) (nat_eq m n) refl refl

  cond_alike : {Y : Type 0} (read : Option X → Y) (b : Bool) (old new : Option X) → read new ≡ read old → read (cond b new old) ≡ read old
  cond_alike read true old new same = same
  cond_alike read false old new same = refl

  -- what is read alike before and after a change
  pub read_changed : {Y : Type 0} (read : Option X → Y) (f : X → X) (es : Numbered X) (n m : ℕ) → read (option_map f (numbered es m)) ≡ read (numbered es m) → read (numbered (changed f es n) m) ≡ read (numbered es m)
  read_changed read f es n m same = ap read (found_changed f es n m) ∙ cond_alike read (nat_eq m n) (numbered es m) (option_map f (numbered es m)) same

  pub found_changed_apart : (f : X → X) (es : Numbered X) (n m : ℕ) → nat_eq m n ≡ false → numbered (changed f es n) m ≡ numbered es m
  found_changed_apart f es n m apart = found_changed f es n m ∙ ap (λ b. cond b (option_map f (numbered es m)) (numbered es m)) apart
