-- What one step of a reader does where the token is there.
use Rattle.std.proofs.Common.{◌≡◌, ℕ, suc, ◌<◌, true, false, ◌==◌, List, [], ◌∷◌, ◌++◌, Ok, refl, arith}
use denote.Enum.Bare.{true_same}
use Rattle.eb_rule_text.specs.contracts.marks.Mark.{the_type}
use Rattle.eb_rule_text.specs.declared.lexemes.Lexeme.TheVariants as l
use Rattle.eb_rule_text.specs.declared.marks.Mark.{Mark}
use Rattle.eb_rule_text.specs.declared.marks.Mark.TheVariants as m
use Rattle.eb_rule_text.specs.Input.{Input, Parser, until_brace, same_mark, sees, expect, eat, opens}

same_self : (k : Mark) → same_mark k k ≡ true
unfolding same_mark
same_self k = true_same the_type k k refl

pub expect_is : (k : Mark) (i : Input) → expect k (l.Mark k ∷ i) ≡ Ok (tt, i)
unfolding expect sees
expect_is k i = rw (same_self k) refl

pub eat_is : (k : Mark) (i : Input) → eat k (l.Mark k ∷ i) ≡ Ok (true, i)
unfolding eat sees
eat_is k i = rw (same_self k) refl

pub eat_not : (k : Mark) (i : Input) → sees k i ≡ false → eat k i ≡ Ok (false, i)
unfolding eat
eat_not k i h = rw h refl

some_left : (d : ℕ) → 0 < d → (d == 0) ≡ false
some_left d h = grind arith

pub opens_is : (d : ℕ) (k : Mark) (i : Input) → 0 < d → opens d k (l.Mark k ∷ i) ≡ Ok (tt, i)
unfolding opens
opens_is d k i h = rw (some_left d h) (expect_is k i)

-- ---- lists in braces

pub until_stop : {A : Type 0} (p : Parser A) (n : ℕ) (done : List A) (j : Input) → until_brace p (suc n) done (l.Mark m.RBrace ∷ j) ≡ Ok (done, j)
until_stop p n done j = rw (eat_is m.RBrace j) refl

pub until_go : {A : Type 0} (p : Parser A) (n : ℕ) (done : List A) (i k : Input) (x : A) → sees m.RBrace i ≡ false → p i ≡ Ok (x, k) → until_brace p (suc n) done i ≡ until_brace p n (done ++ x ∷ []) k
until_go p n done i k x h g = rw (eat_not m.RBrace i h, g) refl
