use Rattle.std.proofs.Common.{◌+◌, map, ap, sym, subst, refl, ◌∙◌, ◌≤◌, ◌<◌, arith}
use Rattle.std.specs.Prelude.{slice_get}
use Rattle.std.specs.FinMap as finite
use Rattle.eb_base.specs.declared.names.Entity.{Entity}
use Rattle.eb_schema.specs.Rows.{kinds_of}
use Rattle.eb_world.specs.declared.beings.Being.{Being}
use Rattle.eb_world.specs.Beings.{IsSound, handles_of, live_of, shown, total}
use Rattle.eb_world.specs.Worlds.{RowFits, created, most_live}
use Rattle.eb_world.proofs.Creating.{handles_created, live_created}
use Rattle.eb_world.proofs.MapFacts.{len-map_values}
use Rattle.eb_world.proofs.Naming.{same_some}
use Rattle.eb_world.proofs.RowFacts.{flat_length}
use Rattle.eb_world.proofs.Shown.{not_kept}
use Rattle.eb_world.proofs.Soundness.{sound_created}
use Rattle.eb_world.proofs.worlds.World.create_reserved.Goals as goal

pub hold_row-values-requires-clause-room : goal.hold_row-values-requires-clause-room
hold_row-values-requires-clause-room c =
    let here = c.self.inside in
    let sound = subst (λ bs. IsSound here.schema here.beings here.seats here.sections here.spare_tag bs here.made) c.in-Some.ensures.items c.self.invariant in
    let kinds = same_some c.in-Some.field-0.kinds (kinds_of c.args.row.now)
    (sym (ap (λ bs. slice_get (map (λ b. b.kinds) bs) 0) c.in-Some.ensures.items) ∙ ap (λ w. slice_get w.spare.kinds 0) c.self.view_is ∙ c.requires.next) in
    let fits = subst (λ w. RowFits w.types c.args.row.now) (sym c.self.view_is) c.requires.fits in
    let room = (sound.ready 0 c.in-Some.field-0 (omega arith)).room in
    subst (λ n. n ≤ c.in-Some.field-0.values.room) (ap (total here.schema) kinds ∙ sym (flat_length here.schema c.args.row.now fits)) room

pub add-requires-clause-new : goal.add-requires-clause-new
add-requires-clause-new c =
    not_kept c.self.inside.schema c.self.inside.beings.map c.args.name (ap (λ w. finite.contains_key w.live c.args.name) c.self.view_is ∙ c.requires.new)

pub invariant_of-self : goal.invariant_of-self
invariant_of-self c =
    let here = c.self.inside in
    let sound = subst (λ bs. IsSound here.schema here.beings here.seats here.sections here.spare_tag bs here.made) c.in-Some.ensures.items c.self.invariant in
    let kinds = same_some c.in-Some.field-0.kinds (kinds_of c.args.row.now)
    (sym (ap (λ bs. slice_get (map (λ b. b.kinds) bs) 0) c.in-Some.ensures.items) ∙ ap (λ w. slice_get w.spare.kinds 0) c.self.view_is ∙ c.requires.next) in
    let fits = subst (λ w. RowFits w.types c.args.row.now) (sym c.self.view_is) c.requires.fits in
    let few = subst (λ n. n < most_live) (ap (λ w. finite.len w.live) (sym c.self.view_is) ∙ len-map_values (shown here.schema here.beings.map) here.beings.map) c.requires.few in
    let new = not_kept here.schema here.beings.map c.args.name (ap (λ w. finite.contains_key w.live c.args.name) c.self.view_is ∙ c.requires.new) in
    let seat = c.take_seat-index in
    subst (λ s. IsSound here.schema c.add.new.self seat.new.seats s here.spare_tag c.pop_front.new.self.items (here.made + 1)) (sym c.enlist.ensures)
    (sound_created here.schema here.beings c.add.new.self here.seats seat.new.seats here.sections here.spare_tag c.in-Some.field-0 c.pop_front.new.self.items here.made sound
    c.args.name _ c.args.row.now new few seat.ensures.vacant seat.ensures.taken seat.ensures.len seat.ensures.capacity c.add.ensures.map c.add.ensures.room refl refl fits kinds c.hold_row-values.ensures)

pub returns-clause-live : goal.returns-clause-live
returns-clause-live c =
    let here = c.self.inside in
    let kinds = same_some c.in-Some.field-0.kinds (kinds_of c.args.row.now)
    (sym (ap (λ bs. slice_get (map (λ b. b.kinds) bs) 0) c.in-Some.ensures.items) ∙ ap (λ w. slice_get w.spare.kinds 0) c.self.view_is ∙ c.requires.next) in
    let fits = subst (λ w. RowFits w.types c.args.row.now) (sym c.self.view_is) c.requires.fits in
    let new = not_kept here.schema here.beings.map c.args.name (ap (λ w. finite.contains_key w.live c.args.name) c.self.view_is ∙ c.requires.new) in
    ap (live_of here.schema) c.add.ensures.map
    ∙ live_created here.beings.map c.args.name _ here.schema c.args.row.now fits kinds c.hold_row-values.ensures here.made new (omega arith) (λ q x h. (c.self.invariant.each q x h).links)
    ∙ ap (λ w. created w.live c.args.name w.spare.tag c.args.row.now) c.self.view_is

pub returns-clause-handles : goal.returns-clause-handles
returns-clause-handles c =
    let here = c.self.inside in
    let entity : Entity = record { index = c.take_seat-index.result; serial = here.made + 1 } in
    let b : Being = record { entity = entity; tag = here.spare_tag; kinds = c.in-Some.field-0.kinds; values = c.hold_row-values.result } in
    ap handles_of c.add.ensures.map ∙ handles_created here.beings.map c.args.name b ∙ ap (λ w. finite.insert w.handles c.args.name entity) c.self.view_is
