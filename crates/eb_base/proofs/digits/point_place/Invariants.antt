-- point_place: a first point is in what is left
use Rattle.std.proofs.Common.{◌≡◌, drop}
use Rattle.eb_base.specs.Digits.{point_in}
use Rattle.eb_base.proofs.Numerals.{onward}
use Rattle.eb_base.proofs.digits.point_place.Given as goal

abbrev pub invariant-loop-at : goal.invariant-loop-at
invariant-loop-at l = point_in l.text ≡ onward l.at (point_in (drop l.at l.text))
