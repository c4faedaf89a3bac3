use Rattle.std.proofs.Common.{◌≡◌, ap, ◌∙◌, ◌≤◌, length, slice_index_or, arith}
use Rattle.std.specs.FinMap.{get, len, get-empty, len-empty}
use Rattle.eb_base.specs.Names.{name_cmp}
use Rattle.eb_world.specs.Worlds.{Living}
use Rattle.eb_session.proofs.sections.bring_into_empty.Goals as goal

pub load-requires-clause-fresh : goal.load-requires-clause-fresh
load-requires-clause-fresh c k d within = ap (λ m. get m (slice_index_or c.args.image.now.rows k d).name) c.requires.empty ∙ get-empty name_cmp (slice_index_or c.args.image.now.rows k d).name

pub unreachable-requires : goal.unreachable-requires
unreachable-requires c =
    let none : len c.args.world.now.live ≡ 0 = ap len c.requires.empty ∙ len-empty name_cmp Living in
    let rows : length c.args.image.now.rows ≤ 65536 = c.requires.section.count in
    let full = rw c.in-Err-WorldFull.field-0-is at c.in-Err-WorldFull.ensures.ends in
    omega (arith, full.1)
