-- What is counted and summed number by number is what is asked after all of them.
use Rattle.std.proofs.Common.{◌≡◌, ◌+◌, List, [], ◌∷◌, ◌++◌, length, Bool, true, false, cond, Some, refl, sym, ap, ◌∙◌, append_assoc, append-nil, arith, length-append}
use Rattle.std.specs.Prelude.{ℤ, ◌+ℤ◌}
use Rattle.std.specs.List.{fold}
use Rattle.std.proofs.lemmas.List.Sums.{fold-append}
use Rattle.std.proofs.lemmas.Int.{ints}
use Rattle.eb_eval.specs.declared.sums.Extreme.TheVariants.{Greatest}
use Rattle.eb_eval.specs.Sums.{total, best_of, better}
use Rattle.eb_system.specs.declared.totals.Total.{Total}
use Rattle.eb_system.specs.Totals.{total_of, greater}
use Rattle.eb_system.specs.Tables.{with_number}

total_push : (zs : List ℤ) (z : ℤ) → total (zs ++ z ∷ []) ≡ total zs +ℤ z
total_push [] z = omega (arith, ints)
total_push (y ∷ ys) z = ap (λ t. y +ℤ t) (total_push ys z) ∙ omega (arith, ints)

greatest_push : (zs : List ℤ) (z : ℤ) → best_of Greatest (zs ++ z ∷ []) ≡ Some (greater (best_of Greatest zs) z)
greatest_push [] z = refl
greatest_push (y ∷ ys) z = ap Some (fold-append (better Greatest) y ys (z ∷ []))

-- one more number
pub total_more : (zs : List ℤ) (z : ℤ) → total_of (zs ++ z ∷ []) ≡ with_number (total_of zs) z
total_more zs z =
    let count : length (zs ++ z ∷ []) ≡ length zs + 1 = length-append zs (z ∷ []) in
    rw (count, total_push zs z, greatest_push zs z) refl

behind : (done zs : List ℤ) → fold with_number (total_of done) zs ≡ total_of (done ++ zs)
behind done [] = ap total_of (sym (append-nil done))
behind done (z ∷ zs) =
    ap (λ t. fold with_number t zs) (sym (total_more done z)) ∙ behind (done ++ z ∷ []) zs ∙ ap total_of (append_assoc done (z ∷ []) zs)

-- all numbers, one after the other
pub total_all : (zs : List ℤ) → fold with_number (total_of []) zs ≡ total_of zs
total_all zs = behind [] zs

-- a number that is of the scene or not
pub one_number : (b : Bool) (t : Total) (z : ℤ) → cond b (with_number t z) t ≡ fold with_number t (cond b (z ∷ []) [])
one_number true t z = refl
one_number false t z = refl
