-- places_write: the digits so far, and then those of the rest
use Rattle.std.proofs.Common.{◌≡◌, ◌-◌, ◌<◌, ◌++◌}
use Rattle.eb_base.specs.FixedPoint.{fraction_digits}
use Rattle.eb_base.proofs.fixed.places_write.Given as goal

abbrev pub invariant-loop-place : goal.invariant-loop-place
invariant-loop-place l = record {
  small : l.rest < 65536;
  told : l.out.items ++ fraction_digits (16 - l._place) l.rest ≡ l.fn.out.items ++ fraction_digits 16 l.fn.fraction;
}
