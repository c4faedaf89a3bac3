use Rattle.std.proofs.Common.{refl, ap, sym, ◌∙◌, ◌<◌, ◌-◌, ◌++◌, ◌∷◌, [], subst, IsSome, arith}
use Rattle.std.specs.FinMap as map
use Rattle.eb_base.proofs.NameOrder.{places_total, exact_places, places_same}
use Rattle.eb_world.specs.Tables.{names_in, room_in}
use Rattle.eb_world.proofs.Hashed.{put-hashed, get-hashed}
use Rattle.eb_world.proofs.sections.Sections.add.Goals as goal

pub unreachable-requires : goal.unreachable-requires
unreachable-requires c =
    let none = sym (ap (λ m. map.get m c.args.place) c.self.view_is) ∙ sym (get-hashed places_total _ places_same c.self.inside.inner.entries c.args.place) ∙ sym c.in_default.ensures.value in
    let empty : 0 < 0 = subst (λ o. 0 < room_in o) none c.requires in
    absurd (omega arith)

pub push-requires : goal.push-requires
push-requires c =
    let found = c.in-Some.ensures.value ∙ get-hashed places_total _ places_same c.self.inside.inner.entries c.args.place ∙ ap (λ m. map.get m c.args.place) c.self.view_is in
    subst (λ o. 0 < room_in o) (sym found) c.requires

pub returns : goal.returns
returns c =
    let found = c.in-Some.ensures.value ∙ get-hashed places_total _ places_same c.self.inside.inner.entries c.args.place ∙ ap (λ m. map.get m c.args.place) c.self.view_is in
    let h = c.get_mut.follows.holds c.push.new.self in
    put-hashed places_total _ places_same exact_places c.self.inside.inner.entries _ c.args.place c.push.new.self (h.3 (subst IsSome c.in-Some.ensures.value refl)).0
    ∙ ap (λ m. map.insert m c.args.place c.push.new.self) c.self.view_is
    ∙ ap (map.insert c.args.self.now c.args.place) (c.push.ensures ∙ ap (λ o. record { items = names_in o ++ c.args.name ∷ []; room = room_in o - 1 }) found)
