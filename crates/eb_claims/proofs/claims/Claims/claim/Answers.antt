use Rattle.std.proofs.Common.{rules, ◌<◌, sym, ap, subst, arith}
use Rattle.eb_claims.specs.declared.rule.Work.{Work}
use Rattle.eb_claims.specs.Seats.{Held}
use Rattle.eb_claims.proofs.Keeps.{claim_keeps}
use Rattle.eb_claims.proofs.claims.Claims.claim.Goals as goal

pub fetch_add-found-requires : goal.fetch_add-found-requires
fetch_add-found-requires c =
    let items = ap (λ (w : Work). w.items) c.self.invariant.key_is in
    let workers = ap (λ (w : Work). w.workers) c.self.invariant.key_is in
    let most = c.self.invariant.items_fit in
    let more = c.self.invariant.workers_fit in
    let room = subst (λ (h : Held). h.view.stops < h.view.share) (sym c.seat.view_is) c.requires.room in
    (search rules, search rules, claim_keeps _ _ _ _ _ c.seat.invariant.0 (omega arith) room)
