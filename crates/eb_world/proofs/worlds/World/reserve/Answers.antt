use Rattle.std.proofs.Common.{None, length, ap, sym, subst, ◌∙◌, All, arith}
use Rattle.std.proofs.lemmas.List.{length-map}
use Rattle.eb_schema.specs.Rows.{kinds_of}
use Rattle.eb_world.specs.declared.beings.Blank.{Blank}
use Rattle.eb_world.specs.Beings.{HasRoom, IsBlank}
use Rattle.eb_world.specs.Worlds.{RowFits}
use Rattle.eb_world.proofs.Soundness.{no_more, sound_with_room}
use Rattle.eb_world.proofs.worlds.World.reserve.Goals as goal

pub blanks_of-requires : goal.blanks_of-requires
blanks_of-requires c = subst (λ w. All (RowFits w.types) c.args.rows.now) (sym c.self.view_is) c.requires

pub invariant_of-self-in_err-make_room : goal.invariant_of-self-in_err-make_room
invariant_of-self-in_err-make_room c =
    let here = c.self.inside in
    let room = c.in_err-make_room.ensures.kept (no_more here.beings here.seats here.sections here.spare_tag (length here.blanks.items) c.self.invariant.room) in
    sound_with_room here.schema here.beings c.make_room.new.beings here.seats c.make_room.new.seats here.sections c.make_room.new.sections here.made
    c.in_err-make_room.ensures.map c.in_err-make_room.ensures.seats c.in_err-make_room.ensures.sections here.spare_tag None here.blanks.items c.new.result.items c.self.invariant
    (subst (λ n. HasRoom c.make_room.new.beings c.make_room.new.seats c.make_room.new.sections None n) (sym (ap length c.new.ensures.items)) room)
    (subst (All (IsBlank here.schema)) (sym c.new.ensures.items) (λ k d h. absurd (omega (arith, h))))

pub invariant_of-self-2 : goal.invariant_of-self-2
invariant_of-self-2 c =
    let here = c.self.inside in
    let count = sym (length-map c.in_ok-blanks.blanks.items (λ (b : Blank). b.kinds)) ∙ ap length c.in_ok-blanks.ensures.kinds ∙ length-map c.args.rows.now kinds_of in
    sound_with_room here.schema here.beings c.make_room.new.beings here.seats c.make_room.new.seats here.sections c.make_room.new.sections here.made
    c.in_ok-make_room.ensures.map c.in_ok-make_room.ensures.seats c.in_ok-make_room.ensures.sections here.spare_tag c.args.tag here.blanks.items c.in_ok-blanks.blanks.items c.self.invariant
    (subst (λ n. HasRoom c.make_room.new.beings c.make_room.new.seats c.make_room.new.sections c.args.tag n) (sym count) c.in_ok-make_room.ensures.room)
    c.in_ok-blanks.ensures.ready
