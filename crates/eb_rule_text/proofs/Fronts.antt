-- A reader answers by the tokens up to the one that it refuses or stops before, and by none behind.
use Rattle.std.proofs.Common.{◌≡◌, ℕ, ◌≤◌, Bool, true, false, if◌then◌else◌, ◌==◌, [], ◌∷◌, ◌++◌, length, drop, Option, Ok, Err, refl, ap, arith}
use Rattle.eb_rule_text.specs.declared.errors.ReadError.TheVariants.{Memory, Syntax, Depth}
use Rattle.eb_rule_text.specs.declared.lexemes.Lexeme.{Lexeme}
use Rattle.eb_rule_text.specs.declared.lexemes.Lexeme.TheVariants as l
use Rattle.eb_rule_text.specs.declared.marks.Mark.{Mark}
use Rattle.eb_rule_text.specs.Input.{Input, Outcome, Parser, go_on, ◌>>=◌, ◌>>◌, ◌into◌, pure, refuse, mark, sees, expect, eat, opens, name, int, end}

-- it stopped or refused with no more tokens left than these
abbrev pub Beyond : {A : Type 0} → Input → Outcome A → Type 0
Beyond a (Ok read) = length read.1 ≤ length a
Beyond a (Err Memory) = Unit {0}
Beyond a (Err (Syntax n)) = n ≤ length a
Beyond a (Err (Depth n)) = n ≤ length a

-- what one reader answers where behind the same front stand the tokens a, and where b stand there
pub data Fares {A : Type 0} (a b : Input) (r s : Outcome A) : Type 0 where
  beyond : Beyond a r → Fares a b r s
  stops : (x : A) (t : Lexeme) (g : Input) → r ≡ Ok (x, t ∷ (g ++ a)) → s ≡ Ok (x, t ∷ (g ++ b)) → Fares a b r s
  refuses : (t : Lexeme) (g : Input) → r ≡ Err (Syntax (length (t ∷ (g ++ a)))) → s ≡ Err (Syntax (length (t ∷ (g ++ b)))) → Fares a b r s
  too_deep : (t : Lexeme) (g : Input) → r ≡ Err (Depth (length (t ∷ (g ++ a)))) → s ≡ Err (Depth (length (t ∷ (g ++ b)))) → Fares a b r s

pub record Local {A : Type 0} (p : Parser A) : Type 0 where
  pub short : (i : Input) → Beyond i (p i)
  pub fares : (t : Lexeme) (f a b : Input) → Fares a b (p (t ∷ (f ++ a))) (p (t ∷ (f ++ b)))

-- also where the front is empty
pub from : {A : Type 0} {p : Parser A} → Local p → (f a b : Input) → Fares a b (p (f ++ a)) (p (f ++ b))
from is [] a b = beyond (is.short a)
from is (t ∷ f) a b = is.fares t f a b

-- ---- one thing and then another

pub wider : {B : Type 0} (j i : Input) (r : Outcome B) → length j ≤ length i → Beyond j r → Beyond i r
wider j i (Ok read) le h = omega arith
wider j i (Err Memory) le h = tt
wider j i (Err (Syntax n)) le h = omega arith
wider j i (Err (Depth n)) le h = omega arith

pub short_on : {A B : Type 0} (i : Input) (r : Outcome A) (q : A → Parser B) → Beyond i r → ((x : A) (j : Input) → Beyond j (q x j)) → Beyond i (go_on r q)
short_on i (Ok read) q h next = wider read.1 i (q read.0 read.1) h (next read.0 read.1)
short_on i (Err Memory) q h next = h
short_on i (Err (Syntax n)) q h next = h
short_on i (Err (Depth n)) q h next = h

pub fares_on : {A B : Type 0} {a b : Input} {r s : Outcome A} (q w : A → Parser B) → Fares a b r s → ((x : A) (j : Input) → Beyond j (q x j))
    → ((x : A) (t : Lexeme) (g : Input) → r ≡ Ok (x, t ∷ (g ++ a)) → Fares a b (q x (t ∷ (g ++ a))) (w x (t ∷ (g ++ b)))) → Fares a b (go_on r q) (go_on s w)
fares_on {a = a} {r = r} q w (beyond h) short next = beyond (short_on a r q h short)
fares_on q w (stops x t g er es) short next = rw (er, es) (next x t g er)
fares_on q w (refuses t g er es) short next = refuses t g (ap (λ o. go_on o q) er) (ap (λ o. go_on o w) es)
fares_on q w (too_deep t g er es) short next = too_deep t g (ap (λ o. go_on o q) er) (ap (λ o. go_on o w) es)

pub bind : {A B : Type 0} {p : Parser A} {q : A → Parser B} → Local p → ((x : A) → Local (q x)) → Local (p >>= q)
bind {p = p} {q = q} is next = record {
  short = λ i. short_on i (p i) q (is.short i) (λ x j. (next x).short j);
  fares = λ t f a b. fares_on q q (is.fares t f a b) (λ x j. (next x).short j) (λ x u g e. (next x).fares u g a b);
}

pub then_local : {A B : Type 0} {p : Parser A} {q : Parser B} → Local p → Local q → Local (p >> q)
then_local {q = q} is next = bind {q = λ read. q} is (λ x. next)

pub pure_local : {A : Type 0} (x : A) → Local (pure x)
pure_local x = record { short = λ i. omega arith; fares = λ t f a b. stops x t f refl refl }

pub refuse_local : {A : Type 0} → Local (refuse {A = A})
refuse_local = record { short = λ i. omega arith; fares = λ t f a b. refuses t f refl refl }

pub into_local : {A B : Type 0} {p : Parser A} (whole : A → B) → Local p → Local (p into whole)
into_local whole is = bind {q = λ read. pure (whole read)} is (λ x. pure_local (whole x))

-- ---- one token

pub rest_fares : {A : Type 0} (x : A) (f a b : Input) → Fares a b (pure x (f ++ a)) (pure x (f ++ b))
rest_fares x [] a b = beyond (omega arith)
rest_fares x (t ∷ f) a b = stops x t f refl refl

pub either_fares : {A : Type 0} {a b : Input} {r s v w : Outcome A} (c : Bool) → Fares a b r s → Fares a b v w → Fares a b (if c then r else v) (if c then s else w)
either_fares true met unmet = met
either_fares false met unmet = unmet

pub either_short : {A : Type 0} (i : Input) (r s : Outcome A) (c : Bool) → Beyond i r → Beyond i s → Beyond i (if c then r else s)
either_short i r s true met unmet = met
either_short i r s false met unmet = unmet

pub if_short : {A : Type 0} (i : Input) (c : Bool) (p q : Parser A) → Beyond i (p i) → Beyond i (q i) → Beyond i ((if c then p else q) i)
if_short i true p q met unmet = met
if_short i false p q met unmet = unmet

-- what comes next is what the first token is
pub marked : (t : Lexeme) (i : Input) → mark (t ∷ i) ≡ mark (t ∷ [])
marked (l.Mark k) i = refl
marked (l.Name x) i = refl
marked l.Underscored i = refl
marked (l.Int n) i = refl
marked (l.Fix n) i = refl

seen : (k : Mark) (t : Lexeme) (i : Input) → sees k (t ∷ i) ≡ sees k (t ∷ [])
unfolding sees
seen k (l.Mark o) i = refl
seen k (l.Name x) i = refl
seen k l.Underscored i = refl
seen k (l.Int n) i = refl
seen k (l.Fix n) i = refl

one_less : (i : Input) → length (drop 1 i) ≤ length i
one_less [] = omega arith
one_less (t ∷ i) = omega arith

pub expect_local : (k : Mark) → Local (expect k)
unfolding expect
expect_local k = record {
  short = λ i. either_short i _ _ (sees k i) (one_less i) (omega arith);
  fares = λ t f a b. rw (seen k t (f ++ a), seen k t (f ++ b)) (either_fares (sees k (t ∷ [])) (rest_fares tt f a b) (refuses t f refl refl));
}

pub eat_short : (k : Mark) (i : Input) → Beyond i (eat k i)
unfolding eat
eat_short k i = either_short i _ _ (sees k i) (one_less i) (omega arith)

eaten : {B : Type 0} (c : Bool) (t : Lexeme) (f a b : Input) (q w : Bool → Parser B) → Fares a b (q true (f ++ a)) (w true (f ++ b)) → Fares a b (q false (t ∷ (f ++ a))) (w false (t ∷ (f ++ b)))
    → Fares a b (go_on (if c then Ok (true, f ++ a) else Ok (false, t ∷ (f ++ a))) q) (go_on (if c then Ok (true, f ++ b) else Ok (false, t ∷ (f ++ b))) w)
eaten true t f a b q w met unmet = met
eaten false t f a b q w met unmet = unmet

pub eat_fares : {B : Type 0} (k : Mark) (t : Lexeme) (f a b : Input) (q w : Bool → Parser B) → Fares a b (q true (f ++ a)) (w true (f ++ b)) → Fares a b (q false (t ∷ (f ++ a))) (w false (t ∷ (f ++ b)))
    → Fares a b (go_on (eat k (t ∷ (f ++ a))) q) (go_on (eat k (t ∷ (f ++ b))) w)
unfolding eat
eat_fares k t f a b q w met unmet = rw (seen k t (f ++ a), seen k t (f ++ b)) (eaten (sees k (t ∷ [])) t f a b q w met unmet)

pub eat_local : {B : Type 0} (k : Mark) {q : Bool → Parser B} → ((c : Bool) → Local (q c)) → Local (eat k >>= q)
eat_local k {q = q} next = record {
  short = λ i. short_on i (eat k i) q (eat_short k i) (λ c j. (next c).short j);
  fares = λ t f a b. eat_fares k t f a b q q (from (next true) f a b) ((next false).fares t f a b);
}

pub opens_local : (d : ℕ) (k : Mark) → Local (opens d k)
unfolding opens
opens_local d k = record {
  short = λ i. either_short i _ _ (d == 0) (either_short i _ _ (sees k i) (omega arith) (omega arith)) ((expect_local k).short i);
  fares = λ t f a b.
      either_fares (d == 0) (rw (seen k t (f ++ a), seen k t (f ++ b)) (either_fares (sees k (t ∷ [])) (too_deep t f refl refl) (refuses t f refl refl))) ((expect_local k).fares t f a b);
}

name_short : (i : Input) → Beyond i (name i)
unfolding name
name_short [] = omega arith
name_short (l.Mark k ∷ i) = omega arith
name_short (l.Name x ∷ i) = omega arith
name_short (l.Underscored ∷ i) = omega arith
name_short (l.Int n ∷ i) = omega arith
name_short (l.Fix n ∷ i) = omega arith

name_fares : (t : Lexeme) (f a b : Input) → Fares a b (name (t ∷ (f ++ a))) (name (t ∷ (f ++ b)))
unfolding name
name_fares (l.Mark k) f a b = refuses (l.Mark k) f refl refl
name_fares (l.Name x) f a b = rest_fares x f a b
name_fares l.Underscored f a b = refuses l.Underscored f refl refl
name_fares (l.Int n) f a b = refuses (l.Int n) f refl refl
name_fares (l.Fix n) f a b = refuses (l.Fix n) f refl refl

pub name_local : Local name
name_local = record { short = name_short; fares = name_fares }

int_short : (i : Input) → Beyond i (int i)
unfolding int
int_short [] = omega arith
int_short (l.Mark k ∷ i) = omega arith
int_short (l.Name x ∷ i) = omega arith
int_short (l.Underscored ∷ i) = omega arith
int_short (l.Int n ∷ i) = omega arith
int_short (l.Fix n ∷ i) = omega arith

int_fares : (t : Lexeme) (f a b : Input) → Fares a b (int (t ∷ (f ++ a))) (int (t ∷ (f ++ b)))
unfolding int
int_fares (l.Mark k) f a b = refuses (l.Mark k) f refl refl
int_fares (l.Name x) f a b = refuses (l.Name x) f refl refl
int_fares l.Underscored f a b = refuses l.Underscored f refl refl
int_fares (l.Int n) f a b = rest_fares n f a b
int_fares (l.Fix n) f a b = refuses (l.Fix n) f refl refl

pub int_local : Local int
int_local = record { short = int_short; fares = int_fares }

end_short : (i : Input) → Beyond i (end i)
unfolding end
end_short [] = omega arith
end_short (t ∷ i) = omega arith

end_fares : (t : Lexeme) (f a b : Input) → Fares a b (end (t ∷ (f ++ a))) (end (t ∷ (f ++ b)))
unfolding end
end_fares t f a b = refuses t f refl refl

pub end_local : Local end
end_local = record { short = end_short; fares = end_fares }

-- a choice by what comes next
pub peek : {A : Type 0} (by : Option Mark → Parser A) → ((next : Option Mark) → Local (by next)) → Local (λ i. by (mark i) i)
peek by is = record {
  short = λ i. (is (mark i)).short i;
  fares = λ t f a b. rw (marked t (f ++ a), marked t (f ++ b)) ((is (mark (t ∷ []))).fares t f a b);
}
