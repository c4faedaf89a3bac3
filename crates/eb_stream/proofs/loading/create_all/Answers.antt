use Rattle.std.proofs.Common.{◌≡◌, ◌+◌, ◌<◌, ◌∷◌, ◌∙◌, length, drop, get_or, ap, sym, arith}
use Rattle.std.proofs.lemmas.List.{drop_more, length-map}
use Rattle.eb_stream.specs.Loading.{with_rows, as_stored, cells_of, Creates}
use Rattle.eb_stream.proofs.LoadFacts.{Creates-next, next_live, handle_stays}
use Rattle.eb_stream.proofs.loading.create_all.Goals as goal

pub loop-at-preserved : goal.loop-at-preserved
loop-at-preserved c =
    let at = c.loop-at.at in
    let world = c.loop-at.world in
    let new = c.create_reserved.new.self in
    let stored = c.args.stored.now in
    let rows = c.args.rows.now in
    let row = get_or stored at c.index-stored-at.result in
    let cells = c.index-rows-at.result in
    let long : length rows ≡ length stored = ap length c.requires.same ∙ length-map stored cells_of in
    let within_rows : at < length rows = omega arith in
    let left = drop_more stored at c.index-stored-at.result c.loop-at-test.true in
    let left_rows = drop_more rows at cells within_rows ∙ ap (λ x. x ∷ drop (at + 1) rows) (sym c.index-rows-at.is) in
    let creates : Creates world (row ∷ drop (at + 1) stored) (cells ∷ drop (at + 1) rows) = rw (left, left_rows) at c.loop-at.invariant.creates in
    let ensured = c.create_reserved.ensures in
    record {
      creates = Creates-next world new c.create_reserved.result row (drop (at + 1) stored) cells (drop (at + 1) rows) creates ensured.live ensured.handles ensured.made ensured.spare ensured.types;
      live = next_live world new row (drop (at + 1) stored) cells (drop (at + 1) rows) creates ensured.live ensured.spare ∙ ap (with_rows as_stored world.live world.spare.tag) (sym left) ∙ c.loop-at.invariant.live;
      made = omega (arith, ensured.made, c.loop-at.invariant.made);
      types = ensured.types ∙ c.loop-at.invariant.types;
      handles = λ name entity has. rw ensured.handles (handle_stays world.handles row c.create_reserved.result name entity (creates.unhandled 0 row (omega arith)) (c.loop-at.invariant.handles name entity has));
    }
