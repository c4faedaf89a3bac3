use Rattle.std.proofs.Common.{refl, ap, sym, ◌∙◌, ◌≤◌, subst, IsSome}
use Rattle.std.specs.FinMap as map
use Rattle.eb_base.specs.Places.{place_cmp}
use Rattle.eb_base.proofs.NameOrder.{places_total, exact_places, places_same}
use Rattle.eb_world.specs.Tables.{names_in, names_at, room_at}
use Rattle.eb_world.proofs.Hashed.{put-hashed, get-hashed}
use Rattle.eb_world.proofs.SectionFacts.{names_stay, room_of}
use Rattle.eb_world.proofs.sections.Sections.reserve.Goals as goal

pub returns-in_err-reserve-clause-names : goal.returns-in_err-reserve-clause-names
returns-in_err-reserve-clause-names c q =
    let put = put-hashed places_total _ places_same exact_places c.self.inside.inner.entries _ c.args.place c.reserve.new.self
    ((c.get_mut.follows.holds c.reserve.new.self).3 (subst IsSome c.in-Some.ensures.value refl)).0
    ∙ ap (λ m. map.insert m c.args.place c.reserve.new.self) c.self.view_is in
    let found = c.in-Some.ensures.value ∙ get-hashed places_total _ places_same c.self.inside.inner.entries c.args.place ∙ ap (λ m. map.get m c.args.place) c.self.view_is in
    ap (λ m. names_at m q) put ∙ names_stay c.args.self.now c.args.place c.reserve.new.self (c.in_err-reserve.ensures.items ∙ ap names_in found) q

pub returns-in-Some-clause-names : goal.returns-in-Some-clause-names
returns-in-Some-clause-names c q =
    let put = put-hashed places_total _ places_same exact_places c.self.inside.inner.entries _ c.args.place c.reserve.new.self
    ((c.get_mut.follows.holds c.reserve.new.self).3 (subst IsSome c.in-Some.ensures.value refl)).0
    ∙ ap (λ m. map.insert m c.args.place c.reserve.new.self) c.self.view_is in
    let found = c.in-Some.ensures.value ∙ get-hashed places_total _ places_same c.self.inside.inner.entries c.args.place ∙ ap (λ m. map.get m c.args.place) c.self.view_is in
    ap (λ m. names_at m q) put ∙ names_stay c.args.self.now c.args.place c.reserve.new.self (c.in_ok-reserve.ensures.items ∙ ap names_in found) q

pub returns-in-Some-clause-room : goal.returns-in-Some-clause-room
returns-in-Some-clause-room c =
    let put = put-hashed places_total _ places_same exact_places c.self.inside.inner.entries _ c.args.place c.reserve.new.self
    ((c.get_mut.follows.holds c.reserve.new.self).3 (subst IsSome c.in-Some.ensures.value refl)).0
    ∙ ap (λ m. map.insert m c.args.place c.reserve.new.self) c.self.view_is in
    subst (λ n. c.args.count ≤ n) (sym (ap (λ m. room_at m c.args.place) put ∙ room_of c.args.self.now c.args.place c.reserve.new.self)) c.in_ok-reserve.ensures.room

pub returns-clause-names : goal.returns-clause-names
returns-clause-names c q =
    let none = c.in_default.ensures.value ∙ get-hashed places_total _ places_same c.self.inside.inner.entries c.args.place ∙ ap (λ m. map.get m c.args.place) c.self.view_is in
    let put = put-hashed places_total _ places_same exact_places c.get_mut.follows.lender-at-none.entries _ c.args.place c.reserve-2.new.self c.in_ok-insert.ensures.updates.0
    ∙ ap (λ i. map.insert (map.from_entries {R = place_cmp} i.entries) c.args.place c.reserve-2.new.self) c.get_mut.follows.holds-at-none
    ∙ ap (λ m. map.insert m c.args.place c.reserve-2.new.self) c.self.view_is in
    ap (λ m. names_at m q) put
    ∙ names_stay c.args.self.now c.args.place c.reserve-2.new.self (c.in_ok-reserve-2.ensures.items ∙ c.new-names.ensures ∙ ap names_in none) q

pub returns-clause-room : goal.returns-clause-room
returns-clause-room c =
    let put = put-hashed places_total _ places_same exact_places c.get_mut.follows.lender-at-none.entries _ c.args.place c.reserve-2.new.self c.in_ok-insert.ensures.updates.0
    ∙ ap (λ i. map.insert (map.from_entries {R = place_cmp} i.entries) c.args.place c.reserve-2.new.self) c.get_mut.follows.holds-at-none
    ∙ ap (λ m. map.insert m c.args.place c.reserve-2.new.self) c.self.view_is in
    subst (λ n. c.args.count ≤ n) (sym (ap (λ m. room_at m c.args.place) put ∙ room_of c.args.self.now c.args.place c.reserve-2.new.self)) c.in_ok-reserve-2.ensures.room
