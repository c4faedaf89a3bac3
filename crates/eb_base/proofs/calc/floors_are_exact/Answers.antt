use Rattle.std.proofs.Common.{◌≡◌, ℕ, zero, suc, ◌<◌, ℤ, pos, neg_ℤ, refl, arith}
use Rattle.eb_base.specs.Arithmetic.{floor_quotient}
use Rattle.eb_base.proofs.Floors.{floor_low, floor_high}
use Rattle.eb_base.proofs.calc.floors_are_exact.Goals as goal

turned : (a : ℤ) (b : ℕ) → 0 < b → floor_quotient a (neg_ℤ (pos b)) ≡ floor_quotient (neg_ℤ a) (pos b)
turned a zero h = absurd (omega arith)
turned a (suc b) h = refl

pub returns-clause-low : goal.returns-clause-low
returns-clause-low c a b h = floor_low a b h

pub returns-clause-high : goal.returns-clause-high
returns-clause-high c a b h = floor_high a b h

pub returns-clause-negative : goal.returns-clause-negative
returns-clause-negative c = turned
