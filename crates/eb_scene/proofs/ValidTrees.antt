-- The ways up from the objects of a scene after a change, and the walk down that an edit goes beside them.
use Rattle.std.proofs.Common.{◌≡◌, ℕ, zero, suc, ◌<◌, ◌≤◌, ◌⊎◌, inl, inr, List, [], ◌∷◌, ◌++◌, length, Bool, true, false, cond, nat_eq, is_some, Option, Some, None, Less, refl, sym, ap, subst, ◌∙◌, true≢false, arith}
use Rattle.std.specs.Prelude.{◌||◌, option_and_then}
use Rattle.std.specs.Map.{keys_of}
use Rattle.std.specs.BTreeMap.{is_at}
use Rattle.std.specs.List.Sorted.{IsStrictlySortedBy}
use Rattle.std.specs.Ordering.{nat_cmp}
use Rattle.std.proofs.lemmas.Bool.{or_cases, or_left, or_right}
use Rattle.std.proofs.lemmas.Bool.Decides.{nat_tests}
use Rattle.eb_schema.proofs.SoundFacts.{neither}
use Rattle.eb_schema.proofs.TypeOrderFacts.{IsBelow}
use Rattle.eb_scene.specs.declared.objects.Object.{Object}
use Rattle.eb_scene.specs.Numbers.{has_number}
use Rattle.eb_scene.specs.Projects.{Objects, numbered, parent_at, is_parent, children_of, above}
use Rattle.eb_scene.specs.Trees.{next_level, height}
use Rattle.eb_scene.specs.Edits.{is_there}
use Rattle.eb_scene.proofs.Children.{at_is}
use Rattle.eb_scene.proofs.TreeFacts.{above_none}

-- ---- ways up, where parents change

pub above_alike : (es fs : Objects) → ((m : ℕ) → parent_at fs m ≡ parent_at es m) → (k : ℕ) (q : Option ℕ) → above k fs q ≡ above k es q
unfolding above
above_alike es fs same zero q = refl
above_alike es fs same (suc k) None = refl
above_alike es fs same (suc k) (Some p) = ap (λ r. p ∷ above k fs r) (same p) ∙ ap (λ ns. p ∷ ns) (above_alike es fs same k (parent_at es p))

apart_there_where : (b : Bool) (es : Objects) (p n : ℕ) → nat_eq p n ≡ b → is_some (numbered es p) ≡ true → numbered es n ≡ None → nat_eq p n ≡ false
apart_there_where true es p n is there none_ =
    let same : p ≡ n = grind (arith, nat_tests) in
    absurd (true≢false (sym there ∙ ap (λ k. is_some (numbered es k)) same ∙ ap is_some none_))
apart_there_where false es p n is there none_ = is

apart_there : (es : Objects) (p n : ℕ) → is_some (numbered es p) ≡ true → numbered es n ≡ None → nat_eq p n ≡ false
apart_there es p n = apart_there_where (nat_eq p n) es p n refl

-- a new object is on no way up
pub above_beside : (es fs : Objects) (n : ℕ) → ((m : ℕ) → nat_eq m n ≡ false → parent_at fs m ≡ parent_at es m) → numbered es n ≡ None → ((m : ℕ) → is_there es (parent_at es m) ≡ true)
    → (k : ℕ) (q : Option ℕ) → is_there es q ≡ true → above k fs q ≡ above k es q
unfolding above
above_beside es fs n same absent there zero q at = refl
above_beside es fs n same absent there (suc k) None at = refl
above_beside es fs n same absent there (suc k) (Some p) at =
    ap (λ r. p ∷ above k fs r) (same p (apart_there es p n at absent)) ∙ ap (λ ns. p ∷ ns) (above_beside es fs n same absent there k (parent_at es p) (there p))

shorter_where : (es fs : Objects) (k p : ℕ) → (parent_at fs p ≡ None) ⊎ (parent_at fs p ≡ parent_at es p) → length (above k fs (parent_at es p)) ≤ length (above k es (parent_at es p))
    → length (above k fs (parent_at fs p)) ≤ length (above k es (parent_at es p))
shorter_where es fs k p (inl gone) later = let none_ : length (above k fs (parent_at fs p)) ≡ 0 = ap (λ r. length (above k fs r)) gone ∙ ap length (above_none fs k) in omega arith
shorter_where es fs k p (inr same) later = subst (λ r. length (above k fs r) ≤ length (above k es (parent_at es p))) (sym same) later

-- ways get no longer where parents go
pub above_shorter : (es fs : Objects) → ((m : ℕ) → (parent_at fs m ≡ None) ⊎ (parent_at fs m ≡ parent_at es m)) → (k : ℕ) (q : Option ℕ) → length (above k fs q) ≤ length (above k es q)
unfolding above
above_shorter es fs each zero q = omega arith
above_shorter es fs each (suc k) None = omega arith
above_shorter es fs each (suc k) (Some p) =
    let later = shorter_where es fs k p (each p) (above_shorter es fs each k (parent_at es p)) in
    omega (arith, later)

-- a way that n isn't on, where the parent of n alone changes
pub above_without : (es fs : Objects) (n : ℕ) → ((m : ℕ) → nat_eq m n ≡ false → parent_at fs m ≡ parent_at es m)
    → (k l : ℕ) (q : Option ℕ) → k ≤ l → has_number (above l es q) n ≡ false → length (above k fs q) ≤ length (above l es q)
unfolding above
above_without es fs n same zero l q le apart = omega arith
above_without es fs n same (suc k) zero q le apart = absurd (omega arith)
above_without es fs n same (suc k) (suc l) None le apart = omega arith
above_without es fs n same (suc k) (suc l) (Some p) le apart =
    let parts = neither (nat_eq p n) (has_number (above l es (parent_at es p)) n) apart in
    let lower : k ≤ l = omega arith in
    let later : length (above k fs (parent_at es p)) ≤ length (above l es (parent_at es p)) = above_without es fs n same k l (parent_at es p) lower parts.1 in
    let moved : length (above k fs (parent_at fs p)) ≡ length (above k fs (parent_at es p)) = ap (λ r. length (above k fs r)) (same p parts.0) in
    omega (arith, later, moved)

-- ---- levels down

-- the objects so many levels below these
abbrev pub level : ℕ → Objects → List ℕ → List ℕ
level zero es ns = ns
level (suc i) es ns = next_level es (level i es ns)

level_next : (i : ℕ) (es : Objects) (ns : List ℕ) → level i es (next_level es ns) ≡ next_level es (level i es ns)
level_next zero es ns = refl
level_next (suc i) es ns = ap (next_level es) (level_next i es ns)

level_none : (i : ℕ) (es : Objects) → level i es [] ≡ []
level_none zero es = refl
level_none (suc i) es = ap (next_level es) (level_none i es)

pub has_front : (us bs : List ℕ) (m : ℕ) → has_number us m ≡ true → has_number (us ++ bs) m ≡ true
has_front [] bs m h = absurd (true≢false (sym h))
has_front (a ∷ us) bs m h = has_front_where (nat_eq a m) us bs m h (λ g. has_front us bs m g)
  where
    has_front_where : (b : Bool) (us bs : List ℕ) (m : ℕ) → (b || has_number us m) ≡ true → (has_number us m ≡ true → has_number (us ++ bs) m ≡ true) → (b || has_number (us ++ bs) m) ≡ true
    has_front_where true us bs m h later = refl
    has_front_where false us bs m h later = later h

pub has_back : (us bs : List ℕ) (m : ℕ) → has_number bs m ≡ true → has_number (us ++ bs) m ≡ true
has_back [] bs m h = h
has_back (a ∷ us) bs m h = or_right (nat_eq a m) (has_number (us ++ bs) m) (has_back us bs m h)

pub has_either : (us bs : List ℕ) (m : ℕ) → has_number (us ++ bs) m ≡ true → (has_number us m ≡ true) ⊎ (has_number bs m ≡ true)
has_either [] bs m h = inr h
has_either (a ∷ us) bs m h = has_either_where (nat_eq a m) us bs m h (λ g. has_either us bs m g)
  where
    has_either_where : (b : Bool) (us bs : List ℕ) (m : ℕ) → (b || has_number (us ++ bs) m) ≡ true → (has_number (us ++ bs) m ≡ true → (has_number us m ≡ true) ⊎ (has_number bs m ≡ true))
        → ((b || has_number us m) ≡ true) ⊎ (has_number bs m ≡ true)
    has_either_where true us bs m h later = inl refl
    has_either_where false us bs m h later = later h

-- ---- children and parents

listed_where : (t : Bool) (e : ℕ × Object) (es : Objects) (m p : ℕ) → nat_eq e.0 m ≡ t → option_and_then (λ o. o.parent) (cond t (Some e.1) (numbered es m)) ≡ Some p
    → (parent_at es m ≡ Some p → has_number (children_of es p) m ≡ true) → has_number (cond (is_parent e.1.parent p) (e.0 ∷ children_of es p) (children_of es p)) m ≡ true
listed_where true e es m p is found later =
    let here : is_parent e.1.parent p ≡ true = ap (λ q. is_parent q p) found ∙ grind (arith, nat_tests) in
    ap (λ b. has_number (cond b (e.0 ∷ children_of es p) (children_of es p)) m) here ∙ or_left (nat_eq e.0 m) (has_number (children_of es p) m) is
listed_where false e es m p is found later = listed_rest (is_parent e.1.parent p) e.0 (children_of es p) m (later found)
  where
    listed_rest : (b : Bool) (k : ℕ) (ks : List ℕ) (m : ℕ) → has_number ks m ≡ true → has_number (cond b (k ∷ ks) ks) m ≡ true
    listed_rest true k ks m h = or_right (nat_eq k m) (has_number ks m) h
    listed_rest false k ks m h = h

pub child_listed : (es : Objects) (m p : ℕ) → parent_at es m ≡ Some p → has_number (children_of es p) m ≡ true
child_listed [] m p found = cc
child_listed (e ∷ es) m p found = listed_where (is_at (nat_cmp m) e.0) e es m p (sym (at_is m e.0)) found (λ h. child_listed es m p h)

pub next_listed : (es : Objects) (ns : List ℕ) (p m : ℕ) → has_number ns p ≡ true → has_number (children_of es p) m ≡ true → has_number (next_level es ns) m ≡ true
next_listed es [] p m at child = absurd (true≢false (sym at))
next_listed es (n ∷ ns) p m at child = next_listed_where (nat_eq n p) es n ns p m refl at child (λ h. next_listed es ns p m h child)
  where
    next_listed_where : (b : Bool) (es : Objects) (n : ℕ) (ns : List ℕ) (p m : ℕ) → nat_eq n p ≡ b → (b || has_number ns p) ≡ true → has_number (children_of es p) m ≡ true
        → (has_number ns p ≡ true → has_number (next_level es ns) m ≡ true) → has_number (children_of es n ++ next_level es ns) m ≡ true
    next_listed_where true es n ns p m is at child later =
        let same : p ≡ n = grind (arith, nat_tests) in
        has_front (children_of es n) (next_level es ns) m (subst (λ k. has_number (children_of es k) m ≡ true) same child)
    next_listed_where false es n ns p m is at child later = has_back (children_of es n) (next_level es ns) m (later at)

above_one : (j m : ℕ) (ks : List ℕ) → IsBelow j ks → has_number ks m ≡ true → nat_eq j m ≡ false
above_one j m [] below at = absurd (true≢false (sym at))
above_one j m (k ∷ ks) below at = above_one_where (nat_eq k m) j m k ks refl below.0 at (λ h. above_one j m ks below.1 h)
  where
    above_one_where : (b : Bool) (j m k : ℕ) (ks : List ℕ) → nat_eq k m ≡ b → nat_cmp j k ≡ Less → (b || has_number ks m) ≡ true → (has_number ks m ≡ true → nat_eq j m ≡ false) → nat_eq j m ≡ false
    above_one_where true j m k ks is less at later = grind (arith, nat_tests)
    above_one_where false j m k ks is less at later = later at

child_key : (es : Objects) (p m : ℕ) → has_number (children_of es p) m ≡ true → has_number (keys_of es) m ≡ true
child_key [] p m at = at
child_key (e ∷ es) p m at = child_key_where (is_parent e.1.parent p) e.0 (children_of es p) (keys_of es) m at (λ h. child_key es p m h)
  where
    child_key_where : (b : Bool) (k : ℕ) (cs ks : List ℕ) (m : ℕ) → has_number (cond b (k ∷ cs) cs) m ≡ true → (has_number cs m ≡ true → has_number ks m ≡ true) → has_number (k ∷ ks) m ≡ true
    child_key_where true k cs ks m at later = elim (or_cases (nat_eq k m) (has_number cs m) at) [ inl h ↦ or_left (nat_eq k m) (has_number ks m) h | inr h ↦ or_right (nat_eq k m) (has_number ks m) (later h) ]
    child_key_where false k cs ks m at later = or_right (nat_eq k m) (has_number ks m) (later at)

parent_is : (q : Option ℕ) (p : ℕ) → is_parent q p ≡ true → q ≡ Some p
parent_is None p h = absurd (true≢false (sym h))
parent_is (Some k) p h = let same : k ≡ p = grind (arith, nat_tests) in ap (λ j. Some j) same

-- a child has its parent
pub child_parent : (es : Objects) (p m : ℕ) → IsStrictlySortedBy nat_cmp (keys_of es) → has_number (children_of es p) m ≡ true → parent_at es m ≡ Some p
unfolding IsStrictlySortedBy
child_parent [] p m sorted at = absurd (true≢false (sym at))
child_parent (e ∷ es) p m sorted at = child_parent_where (is_parent e.1.parent p) (nat_eq e.0 m) e es p m refl refl sorted.0 at (λ h. child_parent es p m sorted.1 h)
  where
    child_parent_where : (b t : Bool) (e : ℕ × Object) (es : Objects) (p m : ℕ) → is_parent e.1.parent p ≡ b → nat_eq e.0 m ≡ t → IsBelow e.0 (keys_of es)
        → has_number (cond b (e.0 ∷ children_of es p) (children_of es p)) m ≡ true → (has_number (children_of es p) m ≡ true → parent_at es m ≡ Some p) → parent_at (e ∷ es) m ≡ Some p
    child_parent_where true true e es p m over is below at later =
        ap (λ b. option_and_then (λ o. o.parent) (cond b (Some e.1) (numbered es m))) (at_is m e.0 ∙ is) ∙ parent_is e.1.parent p over
    child_parent_where true false e es p m over is below at later =
        ap (λ b. option_and_then (λ o. o.parent) (cond b (Some e.1) (numbered es m))) (at_is m e.0 ∙ is) ∙ later (ap (λ b. b || has_number (children_of es p) m) (sym is) ∙ at)
    child_parent_where false t e es p m over is below at later =
        let apart : nat_eq e.0 m ≡ false = above_one e.0 m (keys_of es) below (child_key es p m at) in
        ap (λ b. option_and_then (λ o. o.parent) (cond b (Some e.1) (numbered es m))) (at_is m e.0 ∙ apart) ∙ later at

pub next_parent : (es : Objects) (ns : List ℕ) (m : ℕ) → IsStrictlySortedBy nat_cmp (keys_of es) → has_number (next_level es ns) m ≡ true → (p : ℕ) × (has_number ns p ≡ true) × (parent_at es m ≡ Some p)
next_parent es [] m sorted at = absurd (true≢false (sym at))
next_parent es (n ∷ ns) m sorted at =
    elim (has_either (children_of es n) (next_level es ns) m at) [
      | inl h ↦ let same : nat_eq n n ≡ true = grind (arith, nat_tests) in (n, or_left (nat_eq n n) (has_number ns n) same, child_parent es n m sorted h)
      | inr h ↦ let later = next_parent es ns m sorted h in (later.0, or_right (nat_eq n later.0) (has_number ns later.0) later.1, later.2)
    ]

-- ---- levels against heights and ways up

pub level_height : (i k : ℕ) (es : Objects) (ns : List ℕ) (m : ℕ) → has_number (level i es ns) m ≡ true → i < k → suc i ≤ height k es ns
unfolding height
level_height i zero es ns m at lt = absurd (omega arith)
level_height zero (suc k) es [] m at lt = absurd (true≢false (sym at))
level_height zero (suc k) es (n ∷ ns) m at lt = omega arith
level_height (suc i) (suc k) es [] m at lt = absurd (true≢false (sym at ∙ ap (λ l. has_number (next_level es l) m) (level_none i es)))
level_height (suc i) (suc k) es (n ∷ ns) m at lt =
    let later : suc i ≤ height k es (next_level es (n ∷ ns)) = level_height i k es (next_level es (n ∷ ns)) m (ap (λ l. has_number l m) (level_next i es (n ∷ ns)) ∙ at) (omega arith) in
    omega (arith, later)

pub level_depth : (i : ℕ) (es : Objects) (ns : List ℕ) (m : ℕ) → IsStrictlySortedBy nat_cmp (keys_of es) → has_number (level i es ns) m ≡ true → suc i ≤ length (above (suc i) es (Some m))
unfolding above
level_depth zero es ns m sorted at = omega arith
level_depth (suc i) es ns m sorted at =
    let over = next_parent es (level i es ns) m sorted at in
    let later : suc i ≤ length (above (suc i) es (Some over.0)) = level_depth i es ns over.0 sorted over.1 in
    let way : length (above (suc i) es (parent_at es m)) ≡ length (above (suc i) es (Some over.0)) = ap (λ q. length (above (suc i) es q)) over.2 in
    omega (arith, later, way)
