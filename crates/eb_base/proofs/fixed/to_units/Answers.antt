-- a power of ten isn't 0, and 10 ^ 16 has room
use Rattle.std.proofs.Common.{◌≤◌, ◌^◌, arith, lit<}
use Rattle.std.proofs.Math.Nat.{one-le-pow, pow-le-pow_right}
use Rattle.std.proofs.lemmas.Int.{ints}
use Rattle.eb_base.proofs.fixed.to_units.Goals as goal

pub floor-units-requires-clause-nonzero : goal.floor-units-requires-clause-nonzero
floor-units-requires-clause-nonzero c e =
    let low : 1 ≤ 10 ^ c.args.places = one-le-pow c.args.places 10 (lit< tt) in
    let high : 10 ^ c.args.places ≤ 10 ^ 16 = pow-le-pow_right (lit< tt) c.requires.few in
    omega (arith, ints, c.pow-scale.ensures, low, high, e)
