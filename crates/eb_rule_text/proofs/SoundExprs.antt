-- Expressions are in the grammar, where they are read.
use Rattle.std.proofs.Common.{◌≡◌, ℕ, zero, suc, ◌-◌, ◌≤◌, ◌<◌, List, [], ◌∷◌, ◌++◌, length, Option, Some, None, Ok, refl, sym, ◌∙◌, append_assoc, append-nil, arith, rules}
use Rattle.eb_rule_text.specs.declared.lexemes.Lexeme.TheVariants as l
use Rattle.eb_rule_text.specs.declared.marks.Mark.{Mark}
use Rattle.eb_rule_text.specs.declared.marks.Mark.TheVariants as m
use Rattle.eb_rule_text.specs.declared.trees.Context.{Context}
use Rattle.eb_rule_text.specs.declared.trees.Op.{Op}
use Rattle.eb_rule_text.specs.declared.trees.Link.{Link}
use Rattle.eb_rule_text.specs.declared.trees.Expr.{Expr}
use Rattle.eb_rule_text.specs.declared.trees.Expr.TheVariants as e
use Rattle.eb_rule_text.specs.Input.{Input, Parser, go_on, ◌into◌, pure, refuse, mark}
use Rattle.eb_rule_text.specs.Reading.{op_at, when, link_of, chain, found_of, turns_of, links, links_from, level, enclosed, marked, marked_by, atom, prim, under, signed, signed_by, unary, expression, read}
use Rattle.eb_rule_text.specs.Grammar.{IsLevel, AreLinks, IsUnary, IsAtom, IsExpr, tightest, chained, no_link, a_link, negated, inverted, plain, an_int, a_fix, a_name, a_true, a_false, a_null, in_parens, to_fix, to_int, a_read}
use Rattle.eb_rule_text.proofs.Steps.{went, ok_value, ok_rest, expected, opened}
use Rattle.eb_rule_text.proofs.SoundFinds.{finds_sound}
use Rattle.eb_rule_text.proofs.SoundReads.{read_sound}

-- what is read is in the grammar, where so many levels are left
pub Unary : Context → ℕ → Parser Expr → Type 0
Unary context d p = (i j : Input) (x : Expr) → p i ≡ Ok (x, j) → IsUnary context d i x j

unfoldable pub Level : Context → ℕ → ℕ → Parser Expr → Type 0
Level context n d p = (i j : Input) (x : Expr) → p i ≡ Ok (x, j) → IsLevel context n d i x j

-- the same one level deeper
Below : Context → ℕ → Parser Expr → Type 0
Below context d p = (k : ℕ) → d ≡ suc k → Unary context k p

-- ---- operators

record Linked (context : Context) (n d turns : ℕ) (i : Input) (done x : List (Link Expr)) (j : Input) : Type 0 where
  more : List (Link Expr)
  whole : x ≡ done ++ more
  are : AreLinks context n d i more j
  none : turns ≡ 0 → more ≡ []

LinkedAll : Context → ℕ → ℕ → ℕ → Parser Expr → Type 0
LinkedAll context n d turns operand =
    (i j : Input) (done x : List (Link Expr)) → (n ≡ 2 → turns ≤ 1) → links_from operand n turns done i ≡ Ok (x, j) → Linked context n d turns i done x j

stopped : (context : Context) (n d turns : ℕ) (i j : Input) (done x : List (Link Expr)) → pure done i ≡ Ok (x, j) → Linked context n d turns i done x j
stopped context n d turns i j done x h =
    record { more = []; whole = sym (ok_value h) ∙ sym (append-nil done); are = rw (← ok_rest h) no_link; none = λ _. refl }

few_left : (turns : ℕ) → suc turns ≤ 1 → turns ≡ 0
few_left turns h = omega arith

no_turn : (turns : ℕ) → suc turns ≡ 0 → ⊥
no_turn turns h = omega arith

unfolding_few : (n turns : ℕ) → (n ≡ 2 → suc turns ≤ 1) → n ≡ 2 → turns ≤ 1
unfolding_few n turns few is = let e = few is in omega arith

links_where : (context : Context) (n d turns : ℕ) (operand : Parser Expr) → Level context n d operand → LinkedAll context n d turns operand
    → (k : Mark) (i j : Input) (done x : List (Link Expr)) → (n ≡ 2 → suc turns ≤ 1) → (o : Option Op) → op_at n (Some k) ≡ o
    → when o (λ p. go_on (operand i) (λ y. links_from operand n turns (done ++ link_of p y ∷ []))) (Ok (done, l.Mark k ∷ i)) ≡ Ok (x, j)
    → Linked context n d (suc turns) (l.Mark k ∷ i) done x j
unfolding Level LinkedAll
links_where context n d turns operand is onward k i j done x few None e h = stopped context n d (suc turns) (l.Mark k ∷ i) j done x h
links_where context n d turns operand is onward k i j done x few (Some o) e h =
    let a = went _ _ x j h in
    let rest = onward a.rest j (done ++ link_of o a.value ∷ []) x (unfolding_few n turns few) a.onward in
    record {
      more = link_of o a.value ∷ rest.more;
      whole = rest.whole ∙ append_assoc done (link_of o a.value ∷ []) rest.more;
      are = a_link e (is i a.rest a.value a.first) rest.are (λ two. rest.none (few_left turns (few two)));
      none = λ z. absurd (no_turn turns z);
    }

links_at : (context : Context) (n d turns : ℕ) (operand : Parser Expr) → Level context n d operand → LinkedAll context n d turns operand → LinkedAll context n d (suc turns) operand
unfolding LinkedAll
links_at context n d turns operand is onward [] j done x few h = stopped context n d (suc turns) [] j done x h
links_at context n d turns operand is onward (l.Mark k ∷ i) j done x few h = links_where context n d turns operand is onward k i j done x few (op_at n (Some k)) refl h
links_at context n d turns operand is onward (l.Name y ∷ i) j done x few h = stopped context n d (suc turns) (l.Name y ∷ i) j done x h
links_at context n d turns operand is onward (l.Underscored ∷ i) j done x few h = stopped context n d (suc turns) (l.Underscored ∷ i) j done x h
links_at context n d turns operand is onward (l.Int y ∷ i) j done x few h = stopped context n d (suc turns) (l.Int y ∷ i) j done x h
links_at context n d turns operand is onward (l.Fix y ∷ i) j done x few h = stopped context n d (suc turns) (l.Fix y ∷ i) j done x h

links_from_sound : (context : Context) (n d turns : ℕ) (operand : Parser Expr) → Level context n d operand → LinkedAll context n d turns operand
unfolding LinkedAll
links_from_sound context n d zero operand is i j done x few h = stopped context n d zero i j done x h
links_from_sound context n d (suc turns) operand is i j done x few h = links_at context n d turns operand is (links_from_sound context n d turns operand is) i j done x few h

few_turns : (n left : ℕ) → n ≡ 2 → turns_of n left ≤ 1
few_turns n left e = rw e (omega arith)

links_sound : (context : Context) (n d : ℕ) (operand : Parser Expr) → Level context n d operand → (i j : Input) (x : List (Link Expr)) → links operand n i ≡ Ok (x, j) → AreLinks context n d i x j
unfolding links LinkedAll
links_sound context n d operand is i j x h =
    let a = links_from_sound context n d (turns_of n (length i)) operand is i j [] x (few_turns n (length i)) h in rw a.whole a.are

level_moved : (context : Context) (n d : ℕ) (i j k : Input) (x y : Expr) → IsLevel context n d i y k → pure y k ≡ Ok (x, j) → IsLevel context n d i x j
level_moved context n d i j k x y is h = rw (← ok_value h, ← ok_rest h) is

pub level_sound : (context : Context) (d : ℕ) (p : Parser Expr) → Unary context d p → (n : ℕ) → Level context n d (level p n)
unfolding Unary Level
level_sound context d p is zero i j x h = tightest (is i j x h)
level_sound context d p is (suc n) i j x h =
    let a = went _ _ x j h in
    let b = went _ _ x j a.onward in
    let first = level_sound context d p is n i a.rest a.value a.first in
    let more = links_sound context n d (level p n) (level_sound context d p is n) a.rest b.rest b.value b.first in
    level_moved context (suc n) d i j b.rest x (chain a.value b.value) (chained first more) b.onward

-- ---- atoms

record Enclosed (context : Context) (d : ℕ) (i : Input) (x : Expr) (j : Input) : Type 0 where
  fewer : ℕ
  deep : d ≡ suc fewer
  rest : Input
  tokens : i ≡ l.Mark m.LParen ∷ rest
  is : IsLevel context 5 fewer rest x (l.Mark m.RParen ∷ j)

one_less : (d : ℕ) → 0 < d → d ≡ suc (d - 1)
one_less d h = omega arith

closed : (context : Context) (d : ℕ) (i j k n : Input) (x y : Expr) → IsLevel context 5 d i y k → k ≡ l.Mark m.RParen ∷ n → pure y n ≡ Ok (x, j) → IsLevel context 5 d i x (l.Mark m.RParen ∷ j)
closed context d i j k n x y is e h = rw (← ok_value h, ← ok_rest h, ← e) is

enclosed_sound : (context : Context) (d : ℕ) (p : Parser Expr) → Below context d p → (i j : Input) (x : Expr) → enclosed context d p i ≡ Ok (x, j) → Enclosed context d i x j
unfolding enclosed Below Level
enclosed_sound context d p below i j x h =
    let a = went _ _ x j h in
    let b = went _ _ x j a.onward in
    let o = went _ _ x j b.onward in
    let open_ = opened _ _ _ _ _ a.first in
    let is = level_sound context (d - 1) p (below (d - 1) (one_less d open_.room)) 5 a.rest b.rest b.value b.first in
    record {
      fewer = d - 1;
      deep = one_less d open_.room;
      rest = a.rest;
      tokens = open_.tokens;
      is = closed context (d - 1) a.rest j b.rest o.rest x b.value is (expected _ _ _ _ o.first) o.onward;
    }

paren_moved : (context : Context) (d : ℕ) (i j k : Input) (x y : Expr) → Enclosed context d i y k → pure (e.Paren y) k ≡ Ok (x, j) → IsAtom context d i x j
paren_moved context d i j k x y is h = rw (is.deep, is.tokens, ← ok_value h, ← ok_rest h) (in_parens is.is)

to_fix_moved : (context : Context) (d : ℕ) (i j k n : Input) (x y : Expr) → i ≡ l.Mark m.Fix ∷ n → Enclosed context d n y k → pure (e.ToFix y) k ≡ Ok (x, j) → IsAtom context d i x j
to_fix_moved context d i j k n x y first is h = rw (first, is.tokens, is.deep, ← ok_value h, ← ok_rest h) (to_fix is.is)

to_int_moved : (context : Context) (d : ℕ) (i j k n : Input) (x y : Expr) → i ≡ l.Mark m.Int ∷ n → Enclosed context d n y k → pure (e.ToInt y) k ≡ Ok (x, j) → IsAtom context d i x j
to_int_moved context d i j k n x y first is h = rw (first, is.tokens, is.deep, ← ok_value h, ← ok_rest h) (to_int is.is)

-- a word that is an atom by itself
word_moved : (context : Context) (d : ℕ) (k : Mark) (i j n : Input) (x y : Expr) → ((t : Input) → IsAtom context d (l.Mark k ∷ t) y t) → i ≡ l.Mark k ∷ n → pure y n ≡ Ok (x, j) → IsAtom context d i x j
word_moved context d k i j n x y is first h = rw (first, ← ok_value h, ← ok_rest h) (is n)

atom_moved : (context : Context) (d : ℕ) (i j k : Input) (x y : Expr) → IsAtom context d i y k → pure y k ≡ Ok (x, j) → IsAtom context d i x j
atom_moved context d i j k x y is h = rw (← ok_value h, ← ok_rest h) is

read_moved : (context : Context) (d : ℕ) (i j : Input) (x : Expr) → (read context d into e.Read) i ≡ Ok (x, j) → IsAtom context d i x j
read_moved context d i j x h =
    let a = went _ _ x j h in
    atom_moved context d i j a.rest x (e.Read a.value) (a_read (read_sound context d i a.rest a.value a.first)) a.onward

marked_sound : (context : Context) (d : ℕ) (p : Parser Expr) → Below context d p → (k : Mark) (i j : Input) (x : Expr) → marked_by context d p k i ≡ Ok (x, j) → IsAtom context d i x j
marked_sound context d p below m.LParen i j x h =
    let a = went _ _ x j h in paren_moved context d i j a.rest x a.value (enclosed_sound context d p below i a.rest a.value a.first) a.onward
marked_sound context d p below m.Fix i j x h =
    let a = went _ _ x j h in
    let b = went _ _ x j a.onward in
    to_fix_moved context d i j b.rest a.rest x b.value (expected _ _ _ _ a.first) (enclosed_sound context d p below a.rest b.rest b.value b.first) b.onward
marked_sound context d p below m.Int i j x h =
    let a = went _ _ x j h in
    let b = went _ _ x j a.onward in
    to_int_moved context d i j b.rest a.rest x b.value (expected _ _ _ _ a.first) (enclosed_sound context d p below a.rest b.rest b.value b.first) b.onward
marked_sound context d p below m.True i j x h =
    let a = went _ _ x j h in word_moved context d m.True i j a.rest x e.True (λ _. a_true) (expected _ _ _ _ a.first) a.onward
marked_sound context d p below m.False i j x h =
    let a = went _ _ x j h in word_moved context d m.False i j a.rest x e.False (λ _. a_false) (expected _ _ _ _ a.first) a.onward
marked_sound context d p below m.Null i j x h =
    let a = went _ _ x j h in word_moved context d m.Null i j a.rest x e.Null (λ _. a_null) (expected _ _ _ _ a.first) a.onward
marked_sound context d p below _ i j x h = read_moved context d i j x h

atom_sound : (context : Context) (d : ℕ) (p : Parser Expr) → Below context d p → (i j : Input) (x : Expr) → atom context d p i ≡ Ok (x, j) → IsAtom context d i x j
unfolding atom marked
atom_sound context d p below [] j x h = absurd (search rules)
atom_sound context d p below (l.Mark k ∷ i) j x h = marked_sound context d p below k (l.Mark k ∷ i) j x h
atom_sound context d p below (l.Name y ∷ i) j x h = atom_moved context d _ j i x (e.Name y) a_name h
atom_sound context d p below (l.Underscored ∷ i) j x h = absurd (search rules)
atom_sound context d p below (l.Int y ∷ i) j x h = atom_moved context d _ j i x (e.Int y) an_int h
atom_sound context d p below (l.Fix y ∷ i) j x h = atom_moved context d _ j i x (e.Fix y) a_fix h

-- ---- signs

unary_moved : (context : Context) (d k : ℕ) (i j n t : Input) (x y : Expr) → d ≡ suc k → i ≡ n → IsUnary context (suc k) n y t → pure y t ≡ Ok (x, j) → IsUnary context d i x j
unary_moved context d k i j n t x y deep first is h = rw (deep, first, ← ok_value h, ← ok_rest h) is

plain_moved : (context : Context) (d : ℕ) (i j t : Input) (x y : Expr) → IsUnary context d i y t → pure y t ≡ Ok (x, j) → IsUnary context d i x j
plain_moved context d i j t x y is h = rw (← ok_value h, ← ok_rest h) is

prim_sound : (context : Context) (d : ℕ) (p : Parser Expr) → Below context d p → (i j : Input) (x : Expr) → prim context d p i ≡ Ok (x, j) → IsUnary context d i x j
unfolding prim
prim_sound context d p below i j x h =
    let a = went _ _ x j h in
    let b = went _ _ x j a.onward in
    plain_moved context d i j b.rest x (found_of a.value b.value) (plain (finds_sound context d i a.rest a.value a.first) (atom_sound context d p below a.rest b.rest b.value b.first)) b.onward

signed_sound : (context : Context) (d : ℕ) (p : Parser Expr) → Below context d p → (next : Option Mark) (i j : Input) (x : Expr) → signed_by context d p next i ≡ Ok (x, j) → IsUnary context d i x j
unfolding under Below Unary
signed_sound context d p below (Some m.Minus) i j x h =
    let a = went _ _ x j h in
    let b = went _ _ a.value a.rest a.first in
    let open_ = opened _ _ _ _ _ b.first in
    let is = below (d - 1) (one_less d open_.room) b.rest a.rest a.value b.onward in
    unary_moved context d (d - 1) i j _ a.rest x (e.Negate a.value) (one_less d open_.room) open_.tokens (negated is) a.onward
signed_sound context d p below (Some m.Not) i j x h =
    let a = went _ _ x j h in
    let b = went _ _ a.value a.rest a.first in
    let open_ = opened _ _ _ _ _ b.first in
    let is = below (d - 1) (one_less d open_.room) b.rest a.rest a.value b.onward in
    unary_moved context d (d - 1) i j _ a.rest x (e.Not a.value) (one_less d open_.room) open_.tokens (inverted is) a.onward
signed_sound context d p below _ i j x h = prim_sound context d p below i j x h

none_below : (context : Context) → Below context zero refuse
unfolding Below
none_below context k e = absurd (search rules)

one_below : (context : Context) (d : ℕ) (p : Parser Expr) → Unary context d p → Below context (suc d) p
unfolding Below
one_below context d p is k e = let same : d ≡ k = search rules in rw (← same) is

pub unary_sound : (context : Context) (d : ℕ) → Unary context d (unary context d)
unfolding Unary signed
unary_sound context zero i j x h = signed_sound context zero refuse (none_below context) (mark i) i j x h
unary_sound context (suc d) i j x h = signed_sound context (suc d) (unary context d) (one_below context d (unary context d) (unary_sound context d)) (mark i) i j x h

pub expression_sound : (context : Context) (d : ℕ) (i j : Input) (x : Expr) → expression context d i ≡ Ok (x, j) → IsExpr context d i x j
unfolding expression Level
expression_sound context d i j x h = level_sound context d (unary context d) (unary_sound context d) 5 i j x h
