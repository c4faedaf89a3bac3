-- What it says of the tokens that one step of a reader went well.
use Rattle.std.proofs.Common.{◌≡◌, ℕ, ◌<◌, ℤ, Bool, true, false, if◌then◌else◌, ◌==◌, [], ◌∷◌, length, drop, Ok, Err, refl, ap, arith, rules}
use denote.Enum.Bare.{same_true}
use Rattle.eb_rule_text.specs.contracts.marks.Mark.{the_type}
use Rattle.eb_rule_text.specs.declared.errors.ReadError.TheVariants.{Depth}
use Rattle.eb_rule_text.specs.declared.lexemes.Lexeme.TheVariants as l
use Rattle.eb_rule_text.specs.declared.marks.Mark.{Mark}
use Rattle.eb_rule_text.specs.Tokens.{Text}
use Rattle.eb_rule_text.specs.Input.{Input, Outcome, Parser, go_on, pure, refuse, same_mark, sees, expect, eat, opens, name, int, end}

-- both halves of two steps that went well
pub record Went {A B : Type 0} (r : Outcome A) (f : A → Parser B) (b : B) (j : Input) : Type 0 where
  pub value : A
  pub rest : Input
  pub first : r ≡ Ok (value, rest)
  pub onward : f value rest ≡ Ok (b, j)

pub went : {A B : Type 0} (r : Outcome A) (f : A → Parser B) (b : B) (j : Input) → go_on r f ≡ Ok (b, j) → Went r f b j
went (Ok p) f b j h = record { value = p.0; rest = p.1; first = refl; onward = h }
went (Err e) f b j h = absurd (search rules)

pub ok_value : {A : Type 0} {a b : A} {i j : Input} (h : pure a i ≡ Ok (b, j)) → a ≡ b
ok_value h = search rules

pub ok_rest : {A : Type 0} {a b : A} {i j : Input} (h : pure a i ≡ Ok (b, j)) → i ≡ j
ok_rest h = search rules

same_is : (a b : Mark) → same_mark a b ≡ true → a ≡ b
unfolding same_mark
same_is a b h = same_true the_type (search rules) a b h

expected_where : (k other : Mark) (i j : Input) (v : Unit {0}) (b : Bool) → same_mark other k ≡ b
    → (if b then Ok (tt, i) else refuse (l.Mark other ∷ i)) ≡ Ok (v, j) → l.Mark other ∷ i ≡ l.Mark k ∷ j
expected_where k other i j v true e h = rw (same_is other k e, ok_rest h) refl
expected_where k other i j v false e h = absurd (search rules)

pub expected : (k : Mark) (i j : Input) (v : Unit {0}) → expect k i ≡ Ok (v, j) → i ≡ l.Mark k ∷ j
unfolding expect sees
expected k [] j v h = absurd (search rules)
expected k (l.Mark other ∷ i) j v h = expected_where k other i j v (same_mark other k) refl h
expected k (l.Name x ∷ i) j v h = absurd (search rules)
expected k (l.Underscored ∷ i) j v h = absurd (search rules)
expected k (l.Int n ∷ i) j v h = absurd (search rules)
expected k (l.Fix n ∷ i) j v h = absurd (search rules)

pub record Opened (d : ℕ) (k : Mark) (i j : Input) : Type 0 where
  pub room : 0 < d
  pub tokens : i ≡ l.Mark k ∷ j

no_level : (k : Mark) (i j : Input) (v : Unit {0}) (b : Bool) → (if b then Err (Depth (length i)) else refuse i) ≡ Ok (v, j) → ⊥
no_level k i j v true h = search rules
no_level k i j v false h = search rules

opened_where : (d : ℕ) (k : Mark) (i j : Input) (v : Unit {0}) (b : Bool) → (d == 0) ≡ b
    → (if b then (if sees k i then Err (Depth (length i)) else refuse i) else expect k i) ≡ Ok (v, j) → Opened d k i j
opened_where d k i j v true e h = absurd (no_level k i j v (sees k i) h)
opened_where d k i j v false e h = record { room = grind arith; tokens = expected k i j v h }

pub opened : (d : ℕ) (k : Mark) (i j : Input) (v : Unit {0}) → opens d k i ≡ Ok (v, j) → Opened d k i j
unfolding opens
opened d k i j v h = opened_where d k i j v (d == 0) refl h

pub named : (i j : Input) (x : Text) → name i ≡ Ok (x, j) → i ≡ l.Name x ∷ j
unfolding name
named [] j x h = absurd (search rules)
named (l.Mark k ∷ i) j x h = absurd (search rules)
named (l.Name y ∷ i) j x h = search rules
named (l.Underscored ∷ i) j x h = absurd (search rules)
named (l.Int n ∷ i) j x h = absurd (search rules)
named (l.Fix n ∷ i) j x h = absurd (search rules)

pub counted : (i j : Input) (n : ℤ) → int i ≡ Ok (n, j) → i ≡ l.Int n ∷ j
unfolding int
counted [] j n h = absurd (search rules)
counted (l.Mark k ∷ i) j n h = absurd (search rules)
counted (l.Name y ∷ i) j n h = absurd (search rules)
counted (l.Underscored ∷ i) j n h = absurd (search rules)
counted (l.Int x ∷ i) j n h = search rules
counted (l.Fix x ∷ i) j n h = absurd (search rules)

pub ended : (i j : Input) (v : Unit {0}) → end i ≡ Ok (v, j) → i ≡ []
unfolding end
ended [] j v h = refl
ended (x ∷ i) j v h = absurd (search rules)

eaten_where : (k : Mark) (i j : Input) (b c : Bool) → (if c then pure true (drop 1 i) else pure false i) ≡ Ok (b, j) → c ≡ b
eaten_where k i j b true h = ok_value h
eaten_where k i j b false h = ok_value h

-- what `eat` answers is whether the token comes next
pub eaten_sees : (k : Mark) (i j : Input) (b : Bool) → eat k i ≡ Ok (b, j) → sees k i ≡ b
unfolding eat
eaten_sees k i j b h = eaten_where k i j b (sees k i) h

taken_where : (k : Mark) (i j : Input) (c : Bool) → sees k i ≡ c → (if c then pure true (drop 1 i) else pure false i) ≡ Ok (true, j) → expect k i ≡ Ok (tt, j)
unfolding expect
taken_where k i j true e h = rw e (ap (λ n. Ok (tt, n)) (ok_rest h))
taken_where k i j false e h = absurd (search rules)

pub taken : (k : Mark) (i j : Input) → eat k i ≡ Ok (true, j) → i ≡ l.Mark k ∷ j
unfolding eat
taken k i j h = expected k i j tt (taken_where k i j (sees k i) refl h)

left_where : (k : Mark) (i j : Input) (c : Bool) → (if c then pure true (drop 1 i) else pure false i) ≡ Ok (false, j) → i ≡ j
left_where k i j true h = absurd (search rules)
left_where k i j false h = ok_rest h

pub left : (k : Mark) (i j : Input) → eat k i ≡ Ok (false, j) → i ≡ j
unfolding eat
left k i j h = left_where k i j (sees k i) h

-- what was read, and what is left, put in the place of what they are
pub moved : {A : Type 0} (spell : A → Input → Input) {a b : A} {i j : Input} → pure a i ≡ Ok (b, j) → spell a i ≡ spell b j
moved spell h = rw (ok_value h, ok_rest h) refl
