use Rattle.std.proofs.Common.{rules}
use Rattle.eb_claims.proofs.Keeps.{learn_keeps}
use Rattle.eb_claims.proofs.claims.Claims.learn.Goals as goal

pub load-requires : goal.load-requires
load-requires c = (search rules, search rules, learn_keeps _ _ _ _ _ c.seat.invariant.0 c.seat.invariant.1)
