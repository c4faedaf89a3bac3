use Rattle.std.proofs.Common.{◌<◌, refl, sym, ap, ◌∙◌, subst}
use Rattle.eb_claims.specs.Claiming.{EachOnce}
use Rattle.eb_claims.specs.Seats.{Held, IsSeatOf}
use Rattle.eb_worker.proofs.Sorting.{sort_of_all}
use Rattle.eb_worker.proofs.finishing.finish.Goals as goal

pub returns : goal.returns
returns g c =
    let same = c.learn.ensures.same in
    record {
      list = sort_of_all g.E.Keyed.key_of _ _ c.args.gathered.seat.view.list _ _ c.learn.ensures.once c.requires.entries_are c.in_ok-list.ensures;
      claims = refl;
      of = subst (IsSeatOf c.args.claims) (sym same) c.requires.of;
      whole = ap (λ (h : Held). h.view.share) same ∙ c.requires.share;
      stop = subst (λ (h : Held). 0 < h.view.stops) (sym same) c.requires.stop;
      once = subst (λ (h : Held). EachOnce c.args.claims.items h.view.list) (sym same) c.learn.ensures.once;
    }
