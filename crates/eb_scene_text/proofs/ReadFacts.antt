-- What the readers of numbers say of a value that was read.
use Rattle.std.proofs.Common.{◌≡◌, ℕ, ◌≤◌, ◌&&◌, List, Bool, true, false, nat_le, if◌then◌else◌, Option, Some, None, Result, Ok, Err, IfOk, true≢false, option_and_then, refl, sym, ap, subst, arith}
use Rattle.std.specs.Result.{is_ok}
use Rattle.std.proofs.lemmas.Bool.Decides.{nat_tests}
use Rattle.serde_json.specs.Data.{Data}
use Rattle.serde_json.specs.Find.{as_number, as_u64}
use Rattle.eb_json.specs.declared.faults.FormFault.{FormFault}
use Rattle.eb_json.specs.Forms.{◌>>=◌, or_wrong, natural_within, member_at}
use Rattle.eb_json.specs.Places.{after}
use Rattle.eb_scene.specs.Validity.{IsSceneNumber, IsNumber}
use Rattle.eb_scene_text.specs.Values.{scene_at, number_at, taken}

abbrev pub was_read : {X : Type 0} → X → Result X FormFault
was_read x = Ok x

pub read_same : {X : Type 0} (x y : X) → was_read x ≡ was_read y → x ≡ y
read_same x y h = cc

-- what is read step by step was read in its first step
pub bound : {A B E : Type 0} (r : Result A E) (f : A → Result B E) (b : B) → (r >>= f) ≡ Ok b → (a : A) × (r ≡ Ok a) × (f a ≡ Ok b)
bound (Ok a) f b h = (a, refl, h)
bound (Err e) f b h = absurd (true≢false (sym (ap is_ok h)))

within_if : (least most n m : ℕ) (place : ℕ) (b : Bool) → (nat_le least n && nat_le n most) ≡ b → or_wrong place (if b then Some n else None) ≡ Ok m → (least ≤ m) × (m ≤ most)
within_if least most n m place true t h = let same : n ≡ m = read_same n m h in grind (arith, nat_tests)
within_if least most n m place false t h = absurd (true≢false (sym (ap is_ok h)))

-- a number lies where it must
pub in_range : (least most place : ℕ) (found : Option ℕ) (m : ℕ) → or_wrong place (natural_within least most found) ≡ Ok m → (least ≤ m) × (m ≤ most)
in_range least most place None m h = absurd (true≢false (sym (ap is_ok h)))
in_range least most place (Some n) m h = within_if least most n m place _ refl h

pub scene_in_range : (place : ℕ) (d : Data) (s : ℕ) → scene_at place d ≡ Ok s → IsSceneNumber s
scene_in_range place d s h = in_range 1 16 place (option_and_then as_u64 (as_number d)) s h

pub number_in_range : (place : ℕ) (d : Data) (n : ℕ) → number_at place d ≡ Ok n → IsNumber n
number_in_range place d n h = in_range 1 4294967295 place (option_and_then as_u64 (as_number d)) n h

pub of_read : {A : Type 0} (r : Result A FormFault) (P : A → Type 0) → IfOk r P → (a : A) → r ≡ Ok a → P a
of_read r P holds a is = rw is at holds

-- what holds of all that can be read
pub reads_all : {A : Type 0} (r : Result A FormFault) (P : A → Type 0) → ((a : A) → r ≡ Ok a → P a) → IfOk r P
reads_all (Ok a) P tells = tells a refl
reads_all (Err e) P tells = tt

pub first_read : {A B : Type 0} (r : Result A FormFault) (f : A → Result B FormFault) (P : A → Type 0) (Q : B → Type 0) → IfOk r P → ((a : A) → P a → IfOk (f a) Q) → IfOk (r >>= f) Q
first_read (Ok a) f P Q holds rest = rest a holds
first_read (Err e) f P Q holds rest = tt

pub first_any : {A B : Type 0} (r : Result A FormFault) (f : A → Result B FormFault) (Q : B → Type 0) → ((a : A) → IfOk (f a) Q) → IfOk (r >>= f) Q
first_any (Ok a) f Q rest = rest a
first_any (Err e) f Q rest = tt

-- a member that was taken, and what holds of what its form reads
module _ {X : Type 0} (form : ℕ → Data → Result X FormFault) (P : X → Type 0) (tells : (place : ℕ) (d : Data) (x : X) → form place d ≡ Ok x → P x) where
  pub taken_tells : (key : List ℕ) (d : Data) (place : ℕ) (p : X × ℕ) → taken form key d place ≡ Ok p → P p.0
  taken_tells key d place p h =
      let m = bound (member_at key place d) _ p h in
      let x = bound (form place m.0) _ p m.2 in
      subst (λ (q : X × ℕ). P q.0) (read_same (x.0, after place m.0) p x.2) (tells place m.0 x.0 x.1)

  pub first_taken : {B : Type 0} (key : List ℕ) (d : Data) (place : ℕ) (f : X × ℕ → Result B FormFault) (Q : B → Type 0) → ((p : X × ℕ) → P p.0 → IfOk (f p) Q) → IfOk (taken form key d place >>= f) Q
  first_taken key d place f Q rest = first_read (taken form key d place) f (λ p. P p.0) Q (reads_all (taken form key d place) (λ p. P p.0) (taken_tells key d place)) rest
