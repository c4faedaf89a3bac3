use Rattle.std.proofs.Common.{rules, ◌+◌, ◌<◌, ◌≤◌, sym, subst}
use Rattle.eb_claims.specs.Seats.{Held}
use Rattle.eb_claims.proofs.Keeps.{split_keeps}
use Rattle.eb_claims.proofs.claims.Claims.split_by.Goals as goal

pub split_seat-seat-requires : goal.split_seat-seat-requires
split_seat-seat-requires g c =
    let some_part = subst (λ n. 0 < n) c.requires.picked c.requires.part in
    let room = subst (λ (h : Held). h.view.stops + g.P.Part.part + 1 ≤ h.view.share) (sym c.seat.view_is) (search rules) in
    (search rules, search rules, split_keeps _ _ g.P.Part.part _ some_part room)
