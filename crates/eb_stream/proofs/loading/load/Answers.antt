use Rattle.std.proofs.Common.{◌+◌, ◌≤◌, ◌∙◌, length, Some, ap, sym, arith}
use Rattle.std.specs.FinMap.{len, get}
use Rattle.eb_world.specs.Worlds.{World, most_live}
use Rattle.eb_stream.specs.Loading.{with_rows, as_stored}
use Rattle.eb_stream.proofs.LoadFacts.{rows_fit, Creates-image, loaded_numbers}
use Rattle.eb_stream.proofs.loading.load.Goals as goal

pub overflow_cast-result : goal.overflow_cast-result
overflow_cast-result c =
    let stored : length c.items-stored.result.now ≤ 65536 = rw c.items-stored.ensures c.requires.valid.count in
    omega (arith, c.live.ensures.few)

pub reserve-requires : goal.reserve-requires
reserve-requires c =
    rw (c.as_slice.ensures.value, c.in_ok-rows.ensures, c.items-stored.ensures) (rows_fit c.args.world.now.types c.args.image.now c.requires.valid)

pub create_all-requires : goal.create_all-requires
create_all-requires c =
    let image = c.args.image.now in
    let few : len c.args.world.now.live + length image.rows ≤ most_live = rw (c.items-stored.ensures, c.live.ensures.count) at c.if-count-gt-MOST_LIVE.false in
    rw (c.items-stored.ensures, c.as_slice-2.ensures.value)
    (Creates-image c.args.world.now c.reserve.new.self image c.in_ok-rows.rows.items c.is_whole.ensures c.requires.valid c.requires.numbers c.requires.fresh few c.requires.serials
    (rw c.items-stored.ensures at c.in_ok-rows.ensures) (rw c.as_slice.ensures.value at c.in_ok-reserve.ensures.ok))

pub returns-clause-live : goal.returns-clause-live
returns-clause-live c =
    let image = c.args.image.now in
    c.create_all.ensures.live
    ∙ ap (λ (w : World). with_rows as_stored w.live w.spare.tag c.items-stored.result.now) c.in_ok-reserve.ensures.ok
    ∙ ap (with_rows as_stored c.args.world.now.live (Some image.place)) c.items-stored.ensures
    ∙ sym (loaded_numbers c.args.world.now.live image c.requires.numbers)

pub returns-clause-handles : goal.returns-clause-handles
returns-clause-handles c name entity has =
    c.create_all.ensures.handles name entity (ap (λ (w : World). get w.handles name) c.in_ok-reserve.ensures.ok ∙ has)
