use Rattle.std.proofs.Common.{arith, inl}
use Rattle.block_tests.proofs.block_moves.mark.Goals as goal

pub two-front-requires : goal.two-front-requires
two-front-requires c = record { first = omega arith; second = omega arith; apart = inl (omega arith) }
