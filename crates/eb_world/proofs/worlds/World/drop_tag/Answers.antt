use Rattle.std.proofs.Common.{None, ap, sym, subst, ◌∙◌, length, arith}
use Rattle.std.specs.FinMap.{len}
use Rattle.eb_world.specs.Beings.{IsSound, live_of, handles_of}
use Rattle.eb_world.specs.Worlds.{handles_without, tagged, without}
use Rattle.eb_world.proofs.Dropping.{handles_dropped, live_dropped, parted, tagged_count}
use Rattle.eb_world.proofs.Soundness.{all_listed, sound_dropped}
use Rattle.eb_world.proofs.worlds.World.drop_tag.Goals as goal

pub drop_section-requires-clause-listed : goal.drop_section-requires-clause-listed
drop_section-requires-clause-listed c =
    all_listed c.self.inside.schema c.self.inside.beings c.self.inside.seats c.self.inside.sections c.self.inside.spare_tag c.self.inside.blanks.items c.self.inside.made c.self.invariant c.args.place

pub overflow_sub-result : goal.overflow_sub-result
overflow_sub-result c =
    let all = parted c.args.place c.self.inside.beings.map in
    let left = ap len c.drop_section.ensures.beings in
    let before = c.len-before.ensures.entries in
    let after = c.len.ensures.entries in
    omega (arith, all, left, before, after)

pub invariant_of-self : goal.invariant_of-self
invariant_of-self c =
    let here = c.self.inside in
    let drop = c.drop_section in
    subst (λ s. IsSound here.schema drop.new.beings drop.new.seats s None c.clear.new.self.items here.made) (sym drop.ensures.sections)
    (sound_dropped here.schema here.beings drop.new.beings here.seats drop.new.seats here.sections here.spare_tag here.blanks.items c.clear.new.self.items here.made c.args.place c.self.invariant
    drop.ensures.beings drop.ensures.seats drop.ensures.capacity drop.ensures.len c.clear.ensures.items)

pub returns-clause-live : goal.returns-clause-live
returns-clause-live c =
    ap (live_of c.self.inside.schema) c.drop_section.ensures.beings ∙ live_dropped c.args.place c.self.inside.schema c.self.inside.beings.map
    ∙ ap (λ w. without w.live (tagged w.live c.args.place)) c.self.view_is

pub returns-clause-handles : goal.returns-clause-handles
returns-clause-handles c =
    ap handles_of c.drop_section.ensures.beings ∙ handles_dropped c.args.place c.self.inside.schema c.self.inside.beings.map
    ∙ ap (λ w. handles_without w.handles (tagged w.live c.args.place)) c.self.view_is

pub returns-clause-count : goal.returns-clause-count
returns-clause-count c =
    let all = parted c.args.place c.self.inside.beings.map in
    let left = ap len c.drop_section.ensures.beings in
    let before = c.len-before.ensures.entries in
    let after = c.len.ensures.entries in
    let tags = tagged_count c.args.place c.self.inside.schema c.self.inside.beings.map in
    let same = ap (λ w. length (tagged w.live c.args.place)) c.self.view_is in
    omega (arith, all, left, before, after, tags, same)
