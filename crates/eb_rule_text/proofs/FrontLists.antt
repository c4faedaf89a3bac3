-- Lists of the language are read by the tokens of a front alone, however many turns the tokens behind allow.
use Rattle.std.proofs.Common.{◌≡◌, ℕ, zero, suc, ◌+◌, ◌≤◌, ◌<◌, Bool, true, false, if◌then◌else◌, ◌==◌, List, [], ◌∷◌, ◌++◌, length, drop, Option, Some, None, Ok, refl, arith}
use Rattle.eb_rule_text.specs.declared.lexemes.Lexeme.{Lexeme}
use Rattle.eb_rule_text.specs.declared.lexemes.Lexeme.TheVariants as l
use Rattle.eb_rule_text.specs.declared.marks.Mark.TheVariants as m
use Rattle.eb_rule_text.specs.declared.trees.Context.{Context}
use Rattle.eb_rule_text.specs.declared.trees.Find.{Find}
use Rattle.eb_rule_text.specs.declared.trees.Op.{Op}
use Rattle.eb_rule_text.specs.declared.trees.Link.{Link}
use Rattle.eb_rule_text.specs.declared.trees.Expr.{Expr}
use Rattle.eb_rule_text.specs.declared.trees.Init.{Init}
use Rattle.eb_rule_text.specs.declared.trees.Rule.{Rule}
use Rattle.eb_rule_text.specs.Tokens.{Text}
use Rattle.eb_rule_text.specs.Input.{Input, Outcome, Parser, go_on, pure, mark, expect, eat, until_brace}
use Rattle.eb_rule_text.specs.Reading.{begins_find, find, finds_from, finds, op_at, when, link_of, links_from, links, turns_of}
use Rattle.eb_rule_text.specs.Blocks.{init, inits_from, some_inits, names_from, rule, rules_from, rule_list}
use Rattle.eb_rule_text.proofs.Fronts.{Beyond, Fares, beyond, stops, Local, from, short_on, fares_on, pure_local, then_local, rest_fares, either_fares, either_short, if_short, wider, marked, expect_local, eat_short, eat_fares}

-- what is read takes a token at least
abbrev pub Takes : {A : Type 0} → Parser A → Type 0
Takes {A} p = (i j : Input) (x : A) → p i ≡ Ok (x, j) → length j < length i

pub joined : (f a : Input) → length (f ++ a) ≡ length f + length a
joined [] a = omega arith
joined (t ∷ f) a = let e = joined f a in omega arith

-- the front gets shorter
less : (f g a : Input) → length (g ++ a) < length (f ++ a) → length g < length f
less f g a h = let e = joined f a in let n = joined g a in omega arith

-- so many turns are enough for the tokens of a front and those behind it
abbrev pub Enough : ℕ → Input → Input → Type 0
Enough n f a = length f + length a ≤ n

enough : (t : Lexeme) (f g a : Input) (n : ℕ) → length g < length (t ∷ f) → Enough (suc n) (t ∷ f) a → Enough n g a
enough t f g a n less h = omega arith

none_left : {X : Type 0} (t : Lexeme) (f a : Input) → Enough 0 (t ∷ f) a → X
none_left t f a h = absurd (omega arith)

behind : (u : Lexeme) (g a : Input) (n : ℕ) → Enough n (u ∷ g) a → Enough n g a
behind u g a n h = omega arith

pub all_enough : (t : Lexeme) (f a : Input) → Enough (length (t ∷ (f ++ a))) (t ∷ f) a
all_enough t f a = let e = joined f a in omega arith

-- ---- lists in braces

module _ {A : Type 0} (p : Parser A) (is : Local p) where
  until_short : (n : ℕ) (done : List A) (i : Input) → Beyond i (until_brace p n done i)
  until_short zero done i = omega arith
  until_short (suc n) done i = short_on i (eat m.RBrace i) _ (eat_short m.RBrace i)
      (λ ends j. if_short j ends (pure done) (λ k. go_on (p k) (λ x. until_brace p n (done ++ x ∷ []))) (omega arith) (short_on j (p j) _ (is.short j) (λ x k. until_short n (done ++ x ∷ []) k)))

  until_fares : Takes p → (n k : ℕ) (done : List A) (f a b : Input) → Enough n f a → Enough k f b → Fares a b (until_brace p n done (f ++ a)) (until_brace p k done (f ++ b))
  until_fares takes n k done [] a b hn hk = beyond (until_short n done a)
  until_fares takes zero k done (t ∷ f) a b hn hk = none_left t f a hn
  until_fares takes (suc n) zero done (t ∷ f) a b hn hk = none_left t f b hk
  until_fares takes (suc n) (suc k) done (t ∷ f) a b hn hk =
      eat_fares m.RBrace t f a b _ _ (rest_fares done f a b) (fares_on _ _ (is.fares t f a b) (λ x j. until_short n (done ++ x ∷ []) j)
      (λ x u g e. let shorter = less (t ∷ f) (u ∷ g) a (takes _ _ _ e) in until_fares takes n k (done ++ x ∷ []) (u ∷ g) a b (enough t f (u ∷ g) a n shorter hn) (enough t f (u ∷ g) b k shorter hk)))

  pub until_local : Takes p → Local (λ i. until_brace p (length i) [] i)
  until_local takes = record {
    short = λ i. until_short (length i) [] i;
    fares = λ t f a b. until_fares takes (length (t ∷ (f ++ a))) (length (t ∷ (f ++ b))) [] (t ∷ f) a b (all_enough t f a) (all_enough t f b);
  }

-- ---- values of fields

module _ (context : Context) (d : ℕ) (is : Local (init context d)) where
  inits_short : (n : ℕ) (done : List Init) (i : Input) → Beyond i (inits_from context d n done i)
  inits_short zero done i = omega arith
  inits_short (suc n) done i = short_on i (init context d i) _ (is.short i) (λ x j. short_on j (eat m.Comma j) _ (eat_short m.Comma j)
      (λ more k. if_short k more (inits_from context d n (done ++ x ∷ [])) (λ h. go_on (expect m.RBrace h) (λ read. pure (done ++ x ∷ []))) (inits_short n (done ++ x ∷ []) k) ((then_local (expect_local m.RBrace) (pure_local (done ++ x ∷ []))).short k)))

  inits_fares : Takes (init context d) → (n k : ℕ) (done : List Init) (f a b : Input) → Enough n f a → Enough k f b → Fares a b (inits_from context d n done (f ++ a)) (inits_from context d k done (f ++ b))
  inits_fares takes n k done [] a b hn hk = beyond (inits_short n done a)
  inits_fares takes zero k done (t ∷ f) a b hn hk = none_left t f a hn
  inits_fares takes (suc n) zero done (t ∷ f) a b hn hk = none_left t f b hk
  inits_fares takes (suc n) (suc k) done (t ∷ f) a b hn hk =
      fares_on _ _ (is.fares t f a b) (λ x j. short_on j (eat m.Comma j) _ (eat_short m.Comma j)
      (λ more i. if_short i more (inits_from context d n (done ++ x ∷ [])) (λ h. go_on (expect m.RBrace h) (λ read. pure (done ++ x ∷ []))) (inits_short n (done ++ x ∷ []) i) ((then_local (expect_local m.RBrace) (pure_local (done ++ x ∷ []))).short i)))
      (λ x u g e. let shorter = less (t ∷ f) (u ∷ g) a (takes _ _ _ e) in eat_fares m.Comma u g a b _ _
      (inits_fares takes n k (done ++ x ∷ []) g a b (behind u g a n (enough t f (u ∷ g) a n shorter hn)) (behind u g b k (enough t f (u ∷ g) b k shorter hk)))
      ((then_local (expect_local m.RBrace) (pure_local (done ++ x ∷ []))).fares u g a b))

  pub some_inits_local : Takes (init context d) → Local (some_inits context d)
  unfolding some_inits
  some_inits_local takes = record {
    short = λ i. inits_short (length i) [] i;
    fares = λ t f a b. inits_fares takes (length (t ∷ (f ++ a))) (length (t ∷ (f ++ b))) [] (t ∷ f) a b (all_enough t f a) (all_enough t f b);
  }

-- ---- reads with `or`

module _ (context : Context) (d : ℕ) (is : Local (find context d)) where
  finds_short : (n : ℕ) (done : List Find) (i : Input) → Beyond i (finds_from context d n done i)
  finds_short zero done i = omega arith
  finds_short (suc n) done i = either_short i _ _ (begins_find context (mark i)) (short_on i (find context d i) _ (is.short i) (λ x j. finds_short n (done ++ x ∷ []) j)) (omega arith)

  finds_fares : Takes (find context d) → (n k : ℕ) (done : List Find) (f a b : Input) → Enough n f a → Enough k f b → Fares a b (finds_from context d n done (f ++ a)) (finds_from context d k done (f ++ b))
  finds_fares takes n k done [] a b hn hk = beyond (finds_short n done a)
  finds_fares takes zero k done (t ∷ f) a b hn hk = none_left t f a hn
  finds_fares takes (suc n) zero done (t ∷ f) a b hn hk = none_left t f b hk
  finds_fares takes (suc n) (suc k) done (t ∷ f) a b hn hk =
      rw (marked t (f ++ a), marked t (f ++ b)) (either_fares (begins_find context (mark (t ∷ [])))
      (fares_on _ _ (is.fares t f a b) (λ x j. finds_short n (done ++ x ∷ []) j)
      (λ x u g e. let shorter = less (t ∷ f) (u ∷ g) a (takes _ _ _ e) in finds_fares takes n k (done ++ x ∷ []) (u ∷ g) a b (enough t f (u ∷ g) a n shorter hn) (enough t f (u ∷ g) b k shorter hk)))
      (stops done t f refl refl))

  pub finds_local : Takes (find context d) → Local (finds context d)
  unfolding finds
  finds_local takes = record {
    short = λ i. finds_short (length i) [] i;
    fares = λ t f a b. finds_fares takes (length (t ∷ (f ++ a))) (length (t ∷ (f ++ b))) [] (t ∷ f) a b (all_enough t f a) (all_enough t f b);
  }

-- ---- operands of one level

module _ (operand : Parser Expr) (is : Local operand) (n : ℕ) where
  when_short : (i : Input) (o : Option Op) (more : Op → Outcome (List (Link Expr))) (done : Outcome (List (Link Expr))) → ((x : Op) → Beyond i (more x)) → Beyond i done → Beyond i (when o more done)
  when_short i None more done go stop = stop
  when_short i (Some o) more done go stop = go o

  when_fares : {a b : Input} (o : Option Op) (p q : Op → Outcome (List (Link Expr))) (r s : Outcome (List (Link Expr))) → ((x : Op) → Fares a b (p x) (q x)) → Fares a b r s → Fares a b (when o p r) (when o q s)
  when_fares None p q r s go stop = stop
  when_fares (Some o) p q r s go stop = go o

  behind_op : {B : Type 0} (i : Input) (q : Expr → Parser B) → ((x : Expr) (j : Input) → Beyond j (q x j)) → Beyond i (go_on (operand (drop 1 i)) q)
  behind_op [] q next = short_on [] (operand []) q (is.short []) next
  behind_op (t ∷ i) q next = wider i (t ∷ i) (go_on (operand i) q) (omega arith) (short_on i (operand i) q (is.short i) next)

  links_short : (k : ℕ) (done : List (Link Expr)) (i : Input) → Beyond i (links_from operand n k done i)
  links_short zero done i = omega arith
  links_short (suc k) done i = when_short i (op_at n (mark i)) _ _ (λ o. behind_op i _ (λ x j. links_short k (done ++ link_of o x ∷ []) j)) (omega arith)

  links_fares : Takes operand → (k c : ℕ) (done : List (Link Expr)) (f a b : Input) → Enough k f a → Enough c f b → Fares a b (links_from operand n k done (f ++ a)) (links_from operand n c done (f ++ b))
  links_fares takes k c done [] a b hk hc = beyond (links_short k done a)
  links_fares takes zero c done (t ∷ f) a b hk hc = none_left t f a hk
  links_fares takes (suc k) zero done (t ∷ f) a b hk hc = none_left t f b hc
  links_fares takes (suc k) (suc c) done (t ∷ f) a b hk hc =
      rw (marked t (f ++ a), marked t (f ++ b)) (when_fares (op_at n (mark (t ∷ []))) _ _ _ _
      (λ o. fares_on _ _ (from is f a b) (λ x j. links_short k (done ++ link_of o x ∷ []) j)
      (λ x u g e. let shorter = less f (u ∷ g) a (takes _ _ _ e) in links_fares takes k c (done ++ link_of o x ∷ []) (u ∷ g) a b (enough t f (u ∷ g) a k (omega arith) hk) (enough t f (u ∷ g) b c (omega arith) hc)))
      (stops done t f refl refl))

  one_link_fares : (done : List (Link Expr)) (t : Lexeme) (f a b : Input) → Fares a b (links_from operand n 1 done (t ∷ (f ++ a))) (links_from operand n 1 done (t ∷ (f ++ b)))
  one_link_fares done t f a b =
      rw (marked t (f ++ a), marked t (f ++ b)) (when_fares (op_at n (mark (t ∷ []))) _ _ _ _
      (λ o. fares_on _ _ (from is f a b) (λ x j. links_short 0 (done ++ link_of o x ∷ []) j) (λ x u g e. stops (done ++ link_of o x ∷ []) u g refl refl))
      (stops done t f refl refl))

  turned : Takes operand → (c : Bool) (t : Lexeme) (f a b : Input)
      → Fares a b (links_from operand n (if c then 1 else length (t ∷ (f ++ a))) [] (t ∷ (f ++ a))) (links_from operand n (if c then 1 else length (t ∷ (f ++ b))) [] (t ∷ (f ++ b)))
  turned takes true t f a b = one_link_fares [] t f a b
  turned takes false t f a b = links_fares takes (length (t ∷ (f ++ a))) (length (t ∷ (f ++ b))) [] (t ∷ f) a b (all_enough t f a) (all_enough t f b)

  pub links_local : Takes operand → Local (links operand n)
  unfolding links
  links_local takes = record { short = λ i. links_short (turns_of n (length i)) [] i; fares = λ t f a b. turned takes (n == 2) t f a b }

-- ---- names

names_from_short : (done : List Text) (i : Input) → Beyond i (names_from done i)
names_from_short done [] = omega arith
names_from_short done (l.Mark k ∷ i) = omega arith
names_from_short done (l.Name x ∷ i) = wider i (l.Name x ∷ i) (names_from (done ++ x ∷ []) i) (omega arith) (names_from_short (done ++ x ∷ []) i)
names_from_short done (l.Underscored ∷ i) = omega arith
names_from_short done (l.Int n ∷ i) = omega arith
names_from_short done (l.Fix n ∷ i) = omega arith

names_from_fares : (done : List Text) (f a b : Input) → Fares a b (names_from done (f ++ a)) (names_from done (f ++ b))
names_from_fares done [] a b = beyond (names_from_short done a)
names_from_fares done (l.Mark k ∷ f) a b = stops done (l.Mark k) f refl refl
names_from_fares done (l.Name x ∷ f) a b = names_from_fares (done ++ x ∷ []) f a b
names_from_fares done (l.Underscored ∷ f) a b = stops done l.Underscored f refl refl
names_from_fares done (l.Int n ∷ f) a b = stops done (l.Int n) f refl refl
names_from_fares done (l.Fix n ∷ f) a b = stops done (l.Fix n) f refl refl

pub names_from_local : (done : List Text) → Local (names_from done)
names_from_local done = record { short = names_from_short done; fares = λ t f a b. names_from_fares done (t ∷ f) a b }

-- ---- rules

some_left : (t : Lexeme) (i : Input) → (length (t ∷ i) == 0) ≡ false
some_left t i = grind arith

module _ (is : Local rule) where
  rules_short : (n : ℕ) (done : List Rule) (i : Input) → Beyond i (rules_from n done i)
  rules_short zero done i = omega arith
  rules_short (suc n) done i = either_short i _ _ (length i == 0) (omega arith) (short_on i (rule i) _ (is.short i) (λ x j. rules_short n (done ++ x ∷ []) j))

  rules_fares : Takes rule → (n k : ℕ) (done : List Rule) (f a b : Input) → Enough n f a → Enough k f b → Fares a b (rules_from n done (f ++ a)) (rules_from k done (f ++ b))
  rules_fares takes n k done [] a b hn hk = beyond (rules_short n done a)
  rules_fares takes zero k done (t ∷ f) a b hn hk = none_left t f a hn
  rules_fares takes (suc n) zero done (t ∷ f) a b hn hk = none_left t f b hk
  rules_fares takes (suc n) (suc k) done (t ∷ f) a b hn hk =
      rw (some_left t (f ++ a), some_left t (f ++ b)) (fares_on _ _ (is.fares t f a b) (λ x j. rules_short n (done ++ x ∷ []) j)
      (λ x u g e. let shorter = less (t ∷ f) (u ∷ g) a (takes _ _ _ e) in rules_fares takes n k (done ++ x ∷ []) (u ∷ g) a b (enough t f (u ∷ g) a n shorter hn) (enough t f (u ∷ g) b k shorter hk)))

  pub rule_list_local : Takes rule → Local rule_list
  unfolding rule_list
  rule_list_local takes = record {
    short = λ i. rules_short (length i) [] i;
    fares = λ t f a b. rules_fares takes (length (t ∷ (f ++ a))) (length (t ∷ (f ++ b))) [] (t ∷ f) a b (all_enough t f a) (all_enough t f b);
  }
