-- A quotient of the definitions is the floor: it isn't above the exact one, and the next number is.
use Rattle.std.proofs.Common.{◌≡◌, ℕ, suc, ◌+◌, ◌*◌, ◌/◌, ◌<◌, ℤ, pos, negsuc, ◌+ℤ◌, ◌*ℤ◌, ◌≤ℤ◌, ◌<ℤ◌, arith}
use Rattle.std.proofs.Math.Nat.{lt-div-mul-add, div-mul-le_self, add-mul}
use Rattle.std.proofs.lemmas.Int.{ints}
use Rattle.eb_base.specs.Arithmetic.{floor_over}

one_more : (q n : ℕ) → suc q * n ≡ q * n + n
one_more q n = omega (arith, add-mul q 1 n)

pub floor_low : (a : ℤ) (n : ℕ) → 0 < n → (floor_over a n *ℤ pos n) ≤ℤ a
floor_low (pos a) n h = let low = div-mul-le_self a n in omega (arith, ints, low)
floor_low (negsuc a) n h =
    let high = lt-div-mul-add {a = a} h in
    let size = one_more (a / n) n in
    omega (arith, ints, high, size)

pub floor_high : (a : ℤ) (n : ℕ) → 0 < n → a <ℤ (floor_over a n *ℤ pos n +ℤ pos n)
floor_high (pos a) n h = let high = lt-div-mul-add {a = a} h in omega (arith, ints, high)
floor_high (negsuc a) n h =
    let low = div-mul-le_self a n in
    let size = one_more (a / n) n in
    omega (arith, ints, low, size)
