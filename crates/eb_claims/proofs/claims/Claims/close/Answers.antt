use Rattle.std.proofs.Common.{◌<◌, sym, ap, ◌∙◌, subst}
use Rattle.eb_claims.specs.declared.rule.Work.{Work}
use Rattle.eb_claims.specs.Claiming.{EachOnce}
use Rattle.eb_claims.specs.Seats.{Known, Held}
use Rattle.eb_claims.proofs.Whole.{whole_once}
use Rattle.eb_claims.proofs.claims.Claims.close.Goals as goal

pub returns : goal.returns
returns c =
    let last = c.close_with.ensures.values.2.1 in
    let seat_is = ap (λ (h : Held). h.view) c.seat.view_is in
    let claims_are = c.self.view_is in
    let items = ap (λ (w : Work). w.items) c.self.invariant.key_is ∙ ap (λ (k : Known). k.items) claims_are in
    let workers = ap (λ (w : Work). w.workers) c.self.invariant.key_is ∙ ap (λ (k : Known). k.workers) claims_are in
    let whole = ap (λ (h : Held). h.view.share) c.seat.view_is ∙ (c.requires.whole ∙ sym workers) in
    let stop = subst (λ (h : Held). 0 < h.view.stops) (sym c.seat.view_is) c.requires.stop in
    subst (λ n. EachOnce n c.args.seat.view.list) items
    (subst (λ (h : Held). EachOnce c.self.inside.table.shared.key.items h.view.list) c.seat.view_is (whole_once _ _ _ _ _ last.0.1 last.1 whole stop))
