use Rattle.std.proofs.Common.{rules}
use Rattle.eb_claims.proofs.Keeps.{join_keeps}
use Rattle.eb_claims.proofs.claims.Claims.join.Goals as goal

pub join_seat-requires : goal.join_seat-requires
join_seat-requires c = (search rules, search rules, search rules, search rules, join_keeps _ _ _ _ _ c.seat.invariant.1)
