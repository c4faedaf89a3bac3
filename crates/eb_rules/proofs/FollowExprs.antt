-- Walks over expressions follow their tokens.
use Rattle.std.proofs.Common.{◌≡◌, ℕ, ℤ, List, [], ◌∷◌, ◌++◌, map, drop, Option, Some, None, Ok, Err, refl, ap, rules, append-nil}
use Rattle.eb_rule_text.specs.declared.lexemes.Lexeme.{Lexeme}
use Rattle.eb_rule_text.specs.declared.lexemes.Lexeme.TheVariants as l
use Rattle.eb_rule_text.specs.declared.marks.Mark.{Mark}
use Rattle.eb_rule_text.specs.declared.marks.Mark.TheVariants as m
use Rattle.eb_rule_text.specs.declared.trees.Context.{Context}
use Rattle.eb_rule_text.specs.declared.trees.Find.{Find}
use Rattle.eb_rule_text.specs.declared.trees.Read.{Read}
use Rattle.eb_rule_text.specs.declared.trees.Op.{Op}
use Rattle.eb_rule_text.specs.declared.trees.Link.{Link}
use Rattle.eb_rule_text.specs.declared.trees.Expr.{Expr, the_lemmas}
use Rattle.eb_rule_text.specs.declared.trees.Expr.TheVariants as e
use Rattle.eb_rule_text.specs.Input.{Input}
use Rattle.eb_rule_text.specs.Spelled.{has_read, read_then}
use Rattle.eb_rule_text.specs.Reading.{chain, found_of}
use Rattle.eb_rule_text.specs.Reading.{link_of as linked}
use Rattle.eb_rule_text.specs.Grammar.{IsLevel, AreLinks, IsUnary, IsAtom, IsRead, AreFinds, no_find, tightest, chained, no_link, a_link, negated, inverted, plain, an_int, a_fix, a_name, a_true, a_false, a_null, in_parens, to_fix, to_int, a_read}
use Rattle.eb_rules.specs.declared.faults.RuleKind.TheVariants.{TypeFault}
use Rattle.eb_rules.specs.declared.finds.Named.{Named}
use Rattle.eb_rules.specs.declared.plans.FindTerm.{FindTerm}
use Rattle.eb_rules.specs.declared.plans.Term.{Term}
use Rattle.eb_rules.specs.declared.plans.Term.TheVariants as t
use Rattle.eb_rules.specs.declared.shapes.Shape.{Shape}
use Rattle.eb_rules.specs.declared.shapes.Shape.TheVariants as shape
use Rattle.eb_rules.specs.declared.typing.Resolved.{Resolved}
use Rattle.eb_rules.specs.Shapes.{of_op, of_minus, of_not, of_fix, of_int}
use Rattle.eb_rules.specs.Scopes.{Text, Where, as_value}
use Rattle.eb_rule_text.specs.Counts.{read_tokens}
use Rattle.eb_rules.specs.Typing.{Places, Walked, and_found, made, ends, name_typed, read_walk, link_of, links_typed, innermost, agreed, terms, finds_named, finds_typed, typed_as, typed, typed_link, required}
use Rattle.eb_rules.specs.Meanings.{and_some, only, name_meant, read_meant, finds_meant, made_of, links_meant, all_find, expr_meant, link_meant}
use Rattle.eb_rules.specs.Following.{Passed, Means, unknown_name, wrong_name, wrong_chain, wrong_operand, wrong_part, Follows, Tests}
use Rattle.eb_rules.proofs.Chains.{typed_chain}
use Rattle.eb_rules.proofs.Follow.{passed_then, shifted, onward, test_then, ended, onto_with, onto_none, onto_cons, at_meaning, then_onto, test_onto, required_tests}
use Rattle.eb_rules.proofs.FollowReads.{front_passed, read_tests, read_passed, name_tests, FindsFollow, finds_follow, finds_agree}

-- ---- the walk and the meaning at each variant

typed_int : (w : Where) (n : ℤ) (p : Places) → typed w (e.Int n) p ≡ Ok (typed_as (t.Int n) shape.Int, drop 1 p)
unfolding typed
typed_int w n p = search (rules, the_lemmas)

typed_fix : (w : Where) (n : ℤ) (p : Places) → typed w (e.Fix n) p ≡ Ok (typed_as (t.Fix n) shape.Fix, drop 1 p)
unfolding typed
typed_fix w n p = search (rules, the_lemmas)

typed_true : (w : Where) (p : Places) → typed w e.True p ≡ Ok (typed_as t.True shape.Bool, drop 1 p)
unfolding typed
typed_true w p = search (rules, the_lemmas)

typed_false : (w : Where) (p : Places) → typed w e.False p ≡ Ok (typed_as t.False shape.Bool, drop 1 p)
unfolding typed
typed_false w p = search (rules, the_lemmas)

typed_null : (w : Where) (p : Places) → typed w e.Null p ≡ Ok (typed_as t.Null shape.Ref, drop 1 p)
unfolding typed
typed_null w p = search (rules, the_lemmas)

typed_name : (w : Where) (x : Text) (p : Places) → typed w (e.Name x) p ≡ ends 1 (name_typed as_value w x p) p
unfolding typed
typed_name w x p = search (rules, the_lemmas)

typed_paren : (w : Where) (x : Expr) (p : Places) → typed w (e.Paren x) p ≡ and_found (typed w x (drop 1 p)) (λ y. Ok (y.0, drop 1 y.1))
unfolding typed
typed_paren w x p = search (rules, the_lemmas)

typed_to_fix : (w : Where) (x : Expr) (p : Places) → typed w (e.ToFix x) p ≡ and_found (typed w x (drop 2 p)) (λ y. made (of_fix y.0.shape) (t.ToFix y.0.term) p (drop 1 y.1))
unfolding typed
typed_to_fix w x p = search (rules, the_lemmas)

typed_to_int : (w : Where) (x : Expr) (p : Places) → typed w (e.ToInt x) p ≡ and_found (typed w x (drop 2 p)) (λ y. made (of_int y.0.shape) (t.ToInt y.0.term) p (drop 1 y.1))
unfolding typed
typed_to_int w x p = search (rules, the_lemmas)

typed_read : (w : Where) (x : Read) (p : Places) → typed w (e.Read x) p ≡ ends (read_tokens x) (read_walk w x p) p
unfolding typed
typed_read w x p = search (rules, the_lemmas)

typed_find : (w : Where) (found : List Find) (x : Expr) (p : Places) → typed w (e.Find found x) p ≡ finds_typed w found (typed w x) p
unfolding typed
typed_find w found x p = search (rules, the_lemmas)

typed_negate : (w : Where) (x : Expr) (p : Places) → typed w (e.Negate x) p ≡ and_found (typed w x (drop 1 p)) (λ y. made (of_minus y.0.shape) (t.Negate y.0.term) p y.1)
unfolding typed
typed_negate w x p = search (rules, the_lemmas)

typed_not : (w : Where) (x : Expr) (p : Places) → typed w (e.Not x) p ≡ and_found (typed w x (drop 1 p)) (λ y. made (of_not y.0.shape) (t.Not y.0.term) p y.1)
unfolding typed
typed_not w x p = search (rules, the_lemmas)

pub meant_int : (w : Where) (n : ℤ) → expr_meant w (e.Int n) ≡ Some (typed_as (t.Int n) shape.Int)
unfolding expr_meant
meant_int w n = search (rules, the_lemmas)

pub meant_fix : (w : Where) (n : ℤ) → expr_meant w (e.Fix n) ≡ Some (typed_as (t.Fix n) shape.Fix)
unfolding expr_meant
meant_fix w n = search (rules, the_lemmas)

pub meant_true : (w : Where) → expr_meant w e.True ≡ Some (typed_as t.True shape.Bool)
unfolding expr_meant
meant_true w = search (rules, the_lemmas)

pub meant_false : (w : Where) → expr_meant w e.False ≡ Some (typed_as t.False shape.Bool)
unfolding expr_meant
meant_false w = search (rules, the_lemmas)

pub meant_null : (w : Where) → expr_meant w e.Null ≡ Some (typed_as t.Null shape.Ref)
unfolding expr_meant
meant_null w = search (rules, the_lemmas)

pub meant_name : (w : Where) (x : Text) → expr_meant w (e.Name x) ≡ name_meant as_value w x
unfolding expr_meant
meant_name w x = search (rules, the_lemmas)

pub meant_paren : (w : Where) (x : Expr) → expr_meant w (e.Paren x) ≡ expr_meant w x
unfolding expr_meant
meant_paren w x = search (rules, the_lemmas)

pub meant_to_fix : (w : Where) (x : Expr) → expr_meant w (e.ToFix x) ≡ and_some (expr_meant w x) (λ y. made_of (of_fix y.shape) (t.ToFix y.term))
unfolding expr_meant
meant_to_fix w x = search (rules, the_lemmas)

pub meant_to_int : (w : Where) (x : Expr) → expr_meant w (e.ToInt x) ≡ and_some (expr_meant w x) (λ y. made_of (of_int y.shape) (t.ToInt y.term))
unfolding expr_meant
meant_to_int w x = search (rules, the_lemmas)

pub meant_read : (w : Where) (x : Read) → expr_meant w (e.Read x) ≡ and_some (only (has_read w.context x)) (λ u. read_meant w x)
unfolding expr_meant
meant_read w x = search (rules, the_lemmas)

pub meant_find : (w : Where) (finds : List Find) (x : Expr)
    → expr_meant w (e.Find finds x) ≡ and_some (finds_meant w finds) (λ ys. and_some (expr_meant w x) (λ y. and_some (only (all_find y.shape ys)) (λ u. Some (typed_as (t.Find ys y.term) y.shape))))
unfolding expr_meant
meant_find w finds x = search (rules, the_lemmas)

pub meant_negate : (w : Where) (x : Expr) → expr_meant w (e.Negate x) ≡ and_some (expr_meant w x) (λ y. made_of (of_minus y.shape) (t.Negate y.term))
unfolding expr_meant
meant_negate w x = search (rules, the_lemmas)

pub meant_not : (w : Where) (x : Expr) → expr_meant w (e.Not x) ≡ and_some (expr_meant w x) (λ y. made_of (of_not y.shape) (t.Not y.term))
unfolding expr_meant
meant_not w x = search (rules, the_lemmas)

pub meant_chain : (w : Where) (first : Expr) (more : List (Link Expr))
    → expr_meant w (e.Chain first more) ≡ and_some (expr_meant w first) (λ y. and_some (links_meant (map (link_meant w) more) y.shape) (λ z. Some (typed_as (t.Chain y.term z.0) z.1)))
unfolding expr_meant
meant_chain w first more = search (rules, the_lemmas)

-- ---- one construct

-- the walk over x at each places follows the tokens from i to j
Follow : Where → Expr → Input → Input → Type 0
Follow w x i j = (p : Places) → Follows (typed w x p) (expr_meant w x) i j p

made_follows : (m : Option Shape) (y : Term) (i j : Input) (p q : Places) → Passed i j p q → Means TypeFault i → Follows (made m y p q) (made_of m y) i j p
made_follows m y i j p q pass means = test_then (required TypeFault m p) _ m _ i j p (required_tests TypeFault m 0 i p means) (λ k. (refl, pass))

int_follows : (w : Where) (n : ℤ) (j : Input) → Follow w (e.Int n) (l.Int n ∷ j) j
unfolding Follow
int_follows w n j p = rw (typed_int w n p, meant_int w n) (refl, front_passed (l.Int n ∷ []) j p)

fix_follows : (w : Where) (n : ℤ) (j : Input) → Follow w (e.Fix n) (l.Fix n ∷ j) j
unfolding Follow
fix_follows w n j p = rw (typed_fix w n p, meant_fix w n) (refl, front_passed (l.Fix n ∷ []) j p)

true_follows : (w : Where) (j : Input) → Follow w e.True (l.Mark m.True ∷ j) j
unfolding Follow
true_follows w j p = rw (typed_true w p, meant_true w) (refl, front_passed (l.Mark m.True ∷ []) j p)

false_follows : (w : Where) (j : Input) → Follow w e.False (l.Mark m.False ∷ j) j
unfolding Follow
false_follows w j p = rw (typed_false w p, meant_false w) (refl, front_passed (l.Mark m.False ∷ []) j p)

null_follows : (w : Where) (j : Input) → Follow w e.Null (l.Mark m.Null ∷ j) j
unfolding Follow
null_follows w j p = rw (typed_null w p, meant_null w) (refl, front_passed (l.Mark m.Null ∷ []) j p)

name_follows : (w : Where) (x : Text) (j : Input) → Follow w (e.Name x) (l.Name x ∷ j) j
unfolding Follow
name_follows w x j p =
    rw (typed_name w x p, meant_name w x) (ended (name_typed as_value w x p) (name_meant as_value w x) (l.Name x ∷ j) j p (drop 1 p) (front_passed (l.Name x ∷ []) j p)
    (name_tests as_value w x 0 (l.Name x ∷ j) p unknown_name wrong_name))

-- one token, and then what follows
inner : (w : Where) (x : Expr) (s : Lexeme) (i k : Input) (p : Places) → Follow w x i k → Follows (typed w x (drop 1 p)) (expr_meant w x) (s ∷ i) k p
unfolding Follow
inner w x s i k p is = shifted (typed w x (drop 1 p)) (expr_meant w x) _ (front_passed (s ∷ []) i p) (is (drop 1 p))

inner_two : (w : Where) (x : Expr) (s u : Lexeme) (i k : Input) (p : Places) → Follow w x i k → Follows (typed w x (drop 2 p)) (expr_meant w x) (s ∷ u ∷ i) k p
unfolding Follow
inner_two w x s u i k p is = shifted (typed w x (drop 2 p)) (expr_meant w x) _ (front_passed (s ∷ u ∷ []) i p) (is (drop 2 p))

closes : {s : Lexeme} {i j : Input} {p q : Places} → Passed i (s ∷ j) p q → Passed i j p (drop 1 q)
closes {s = s} {j = j} {q = q} pass = passed_then pass (front_passed (s ∷ []) j q)

some_self : {A : Type 0} (m : Option A) → and_some m (λ y. Some y) ≡ m
some_self None = refl
some_self (Some y) = refl

paren_follows : (w : Where) (x : Expr) (i j : Input) → Follow w x i (l.Mark m.RParen ∷ j) → Follow w (e.Paren x) (l.Mark m.LParen ∷ i) j
unfolding Follow
paren_follows w x i j is p =
    rw (typed_paren w x p, meant_paren w x, ← some_self (expr_meant w x))
    (onward (typed w x (drop 1 p)) (λ y. Ok (y.0, drop 1 y.1)) (expr_meant w x) (λ y. Some y) (l.Mark m.LParen ∷ i) (l.Mark m.RParen ∷ j) j p (inner w x (l.Mark m.LParen) i (l.Mark m.RParen ∷ j) p is) (λ y q pass. (refl, closes pass)))

to_fix_follows : (w : Where) (x : Expr) (i j : Input) → Follow w x i (l.Mark m.RParen ∷ j) → Means TypeFault (l.Mark m.Fix ∷ l.Mark m.LParen ∷ i) → Follow w (e.ToFix x) (l.Mark m.Fix ∷ l.Mark m.LParen ∷ i) j
unfolding Follow
to_fix_follows w x i j is means p =
    rw (typed_to_fix w x p, meant_to_fix w x)
    (onward (typed w x (drop 2 p)) _ (expr_meant w x) _ (l.Mark m.Fix ∷ l.Mark m.LParen ∷ i) (l.Mark m.RParen ∷ j) j p (inner_two w x (l.Mark m.Fix) (l.Mark m.LParen) i (l.Mark m.RParen ∷ j) p is)
    (λ y q pass. made_follows (of_fix y.shape) (t.ToFix y.term) (l.Mark m.Fix ∷ l.Mark m.LParen ∷ i) j p (drop 1 q) (closes pass) means))

to_int_follows : (w : Where) (x : Expr) (i j : Input) → Follow w x i (l.Mark m.RParen ∷ j) → Means TypeFault (l.Mark m.Int ∷ l.Mark m.LParen ∷ i) → Follow w (e.ToInt x) (l.Mark m.Int ∷ l.Mark m.LParen ∷ i) j
unfolding Follow
to_int_follows w x i j is means p =
    rw (typed_to_int w x p, meant_to_int w x)
    (onward (typed w x (drop 2 p)) _ (expr_meant w x) _ (l.Mark m.Int ∷ l.Mark m.LParen ∷ i) (l.Mark m.RParen ∷ j) j p (inner_two w x (l.Mark m.Int) (l.Mark m.LParen) i (l.Mark m.RParen ∷ j) p is)
    (λ y q pass. made_follows (of_int y.shape) (t.ToInt y.term) (l.Mark m.Int ∷ l.Mark m.LParen ∷ i) j p (drop 1 q) (closes pass) means))

negate_follows : (w : Where) (x : Expr) (i j : Input) → Follow w x i j → Means TypeFault (l.Mark m.Minus ∷ i) → Follow w (e.Negate x) (l.Mark m.Minus ∷ i) j
unfolding Follow
negate_follows w x i j is means p =
    rw (typed_negate w x p, meant_negate w x)
    (onward (typed w x (drop 1 p)) _ (expr_meant w x) _ (l.Mark m.Minus ∷ i) j j p (inner w x (l.Mark m.Minus) i j p is) (λ y q pass. made_follows (of_minus y.shape) (t.Negate y.term) (l.Mark m.Minus ∷ i) j p q pass means))

not_follows : (w : Where) (x : Expr) (i j : Input) → Follow w x i j → Means TypeFault (l.Mark m.Not ∷ i) → Follow w (e.Not x) (l.Mark m.Not ∷ i) j
unfolding Follow
not_follows w x i j is means p =
    rw (typed_not w x p, meant_not w x)
    (onward (typed w x (drop 1 p)) _ (expr_meant w x) _ (l.Mark m.Not ∷ i) j j p (inner w x (l.Mark m.Not) i j p is) (λ y q pass. made_follows (of_not y.shape) (t.Not y.term) (l.Mark m.Not ∷ i) j p q pass means))

read_at : (w : Where) (x : Read) (i j : Input) (p : Places) → i ≡ read_then x j → Means TypeFault i → Follows (ends (read_tokens x) (read_walk w x p) p) (read_meant w x) i j p
read_at w x i j p e means = rw e (ended (read_walk w x p) (read_meant w x) (read_then x j) j p (drop (read_tokens x) p) (read_passed x j p) (read_tests w x j p (rw (← e) means)))

read_follows : (w : Where) {d : ℕ} (x : Read) (i j : Input) → IsRead w.context d i x j → Means TypeFault i → Follow w (e.Read x) i j
unfolding Follow
read_follows w x i j is means p = rw (typed_read w x p, meant_read w x, is.stands) (read_at w x i j p is.tokens means)

-- ---- reads and what stands behind the last `or`

last_follows : (w : Where) (named : List Named) (ys : List FindTerm) (y : Resolved) (i j : Input) (p q : Places) → ys ≡ terms named → Passed i j p q → Tests (agreed (innermost y.shape named None)) (only (all_find y.shape (terms named))) i p
    → Follows (and_found (agreed (innermost y.shape named None)) (λ u. Ok (typed_as (t.Find (terms named) y.term) y.shape, q))) (and_some (only (all_find y.shape ys)) (λ u. Some (typed_as (t.Find ys y.term) y.shape))) i j p
last_follows w named ys y i j p q e pass agree =
    rw e (test_then (agreed (innermost y.shape named None)) _ (only (all_find y.shape (terms named))) _ i j p agree (λ u. (refl, pass)))

found_follows : (w : Where) (xs : List Find) (x : Expr) (named : Walked (List Named)) (i k j : Input) (p : Places) → FindsFollow named [] (finds_meant w xs) i k p → Follow w x k j
    → Follows (and_found named (λ n. and_found (typed w x n.1) (λ y. and_found (agreed (innermost y.0.shape n.0 None)) (λ u. Ok (typed_as (t.Find (terms n.0) y.0.term) y.0.shape, y.1)))))
    (and_some (finds_meant w xs) (λ ys. and_some (expr_meant w x) (λ y. and_some (only (all_find y.shape ys)) (λ u. Some (typed_as (t.Find ys y.term) y.shape))))) i j p
unfolding Follow
found_follows w xs x (Ok n) i k j p t is =
    rw (t.means, t.is)
    (onward (typed w x n.1) _ (expr_meant w x) _ i j j p (shifted (typed w x n.1) (expr_meant w x) _ t.pass (is n.1))
    (λ y q pass. last_follows w t.more (terms t.more) y i j p q refl pass (finds_agree y.shape t.more i p t.begin)))
found_follows w xs x (Err e) i k j p t is = rw t.0 (refl, t.1)

no_finds : {context : Context} {d : ℕ} {i k : Input} → AreFinds context d i [] k → i ≡ k
no_finds no_find = refl

find_follows : (w : Where) {d : ℕ} (xs : List Find) (x : Expr) (i k j : Input) → AreFinds w.context d i xs k → Follow w x k j → Follow w (found_of xs x) i j
unfolding Follow
find_follows w [] x i k j are is p = rw (no_finds are) (is p)
find_follows w (y ∷ ys) x i k j are is p = rw (typed_find w (y ∷ ys) x p, meant_find w (y ∷ ys) x) (found_follows w (y ∷ ys) x (finds_named w (y ∷ ys) [] p) i k j p (finds_follow w are [] p) is)

-- ---- chains

LinksFollow : Where → List (Link Expr) → Input → Input → Type 0
LinksFollow w more k j = (s : Shape) (done : List (Link Term)) (i : Input) (p q : Places) → Means TypeFault i → Passed i k p q
    → Follows (links_typed (map (typed_link w) more) s done p q) (onto_with done (links_meant (map (link_meant w) more) s)) i j p

no_link_follows : (w : Where) (j : Input) → LinksFollow w [] j j
unfolding LinksFollow
no_link_follows w j s done i p q means pass = (ap (λ ys. Some (ys, s)) (append-nil done), pass)

link_follows : (w : Where) (mark : Mark) (o : Op) (x : Expr) (more : List (Link Expr)) (i k j : Input) → Follow w x i k → LinksFollow w more k j → LinksFollow w (linked o x ∷ more) (l.Mark mark ∷ i) j
unfolding Follow LinksFollow
link_follows w mark o x more i k j is are s done start p q means pass =
    then_onto done (typed w x (drop 1 q)) _ (expr_meant w x) _ start k j p (shifted (typed w x (drop 1 q)) (expr_meant w x) _ (passed_then pass (front_passed (l.Mark mark ∷ []) i q)) (is (drop 1 q)))
    (λ y r passed. test_onto done (required TypeFault (of_op o s y.shape) p) _ (of_op o s y.shape) _ start j p (required_tests TypeFault (of_op o s y.shape) 0 start p means)
    (λ makes. at_meaning _ _ _ _ _ _ (onto_cons done (link_of o y.term) (links_meant (map (link_meant w) more) makes)) (are makes (done ++ link_of o y.term ∷ []) start p r means passed)))

no_links : {context : Context} {n d : ℕ} {k j : Input} → AreLinks context n d k [] j → k ≡ j
no_links no_link = refl

chain_follows : (w : Where) {n d : ℕ} (first : Expr) (more : List (Link Expr)) (i k j : Input) → AreLinks w.context n d k more j → Means TypeFault i → Follow w first i k → LinksFollow w more k j → Follow w (chain first more) i j
unfolding Follow LinksFollow
chain_follows w first [] i k j links means is are p = rw (← no_links links) (is p)
chain_follows w first (x ∷ xs) i k j links means is are p =
    rw (typed_chain w first (x ∷ xs) p, meant_chain w first (x ∷ xs))
    (onward (typed w first p) _ (expr_meant w first) _ i k j p (is p)
    (λ y q pass. onward (links_typed (map (typed_link w) (x ∷ xs)) y.shape [] p q) _ (links_meant (map (link_meant w) (x ∷ xs)) y.shape) _ i j j p
    (at_meaning _ _ _ _ _ _ (onto_none (links_meant (map (link_meant w) (x ∷ xs)) y.shape)) (are y.shape [] i p q means pass)) (λ z r passed. (refl, passed))))

mutual
  level_follows : (w : Where) {n d : ℕ} {i j : Input} {x : Expr} → IsLevel w.context n d i x j → Follow w x i j
  level_follows w (tightest u) = unary_follows w u
  level_follows w (chained {i = i} {k = k} {j = j} {first = first} {more = more} is are) = chain_follows w first more i k j are (wrong_chain (chained is are)) (level_follows w is) (links_follow w are)

  links_follow : (w : Where) {n d : ℕ} {i j : Input} {more : List (Link Expr)} → AreLinks w.context n d i more j → LinksFollow w more i j
  links_follow w (no_link {i = i}) = no_link_follows w i
  links_follow w (a_link {i = i} {k = k} {j = j} {mark = mark} {o = o} {x = x} {more = more} op is are one) = link_follows w mark o x more i k j (level_follows w is) (links_follow w are)

  unary_follows : (w : Where) {d : ℕ} {i j : Input} {x : Expr} → IsUnary w.context d i x j → Follow w x i j
  unary_follows w (negated {i = i} {j = j} {x = x} u) = negate_follows w x i j (unary_follows w u) (wrong_operand (negated u))
  unary_follows w (inverted {i = i} {j = j} {x = x} u) = not_follows w x i j (unary_follows w u) (wrong_operand (inverted u))
  unary_follows w (plain {i = i} {k = k} {j = j} {found = found} {x = x} are is) = find_follows w found x i k j are (atom_follows w is)

  atom_follows : (w : Where) {d : ℕ} {i j : Input} {x : Expr} → IsAtom w.context d i x j → Follow w x i j
  atom_follows w (an_int {n = n} {j = j}) = int_follows w n j
  atom_follows w (a_fix {n = n} {j = j}) = fix_follows w n j
  atom_follows w (a_name {x = x} {j = j}) = name_follows w x j
  atom_follows w (a_true {j = j}) = true_follows w j
  atom_follows w (a_false {j = j}) = false_follows w j
  atom_follows w (a_null {j = j}) = null_follows w j
  atom_follows w (in_parens {i = i} {j = j} {x = x} is) = paren_follows w x i j (level_follows w is)
  atom_follows w (to_fix {i = i} {j = j} {x = x} is) = to_fix_follows w x i j (level_follows w is) (wrong_part (to_fix is))
  atom_follows w (to_int {i = i} {j = j} {x = x} is) = to_int_follows w x i j (level_follows w is) (wrong_part (to_int is))
  atom_follows w (a_read {i = i} {j = j} {x = x} is) = read_follows w x i j is (wrong_part (a_read is))

pub expr_follows : (w : Where) {n d : ℕ} {i j : Input} {x : Expr} → IsLevel w.context n d i x j → (p : Places) → Follows (typed w x p) (expr_meant w x) i j p
unfolding Follow
expr_follows w is p = level_follows w is p
