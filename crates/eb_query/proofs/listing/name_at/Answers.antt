use Rattle.std.proofs.Common.{sym, ◌∙◌}
use Rattle.std.specs.Prelude.{slice_get}
use Rattle.eb_query.proofs.Listed.{named_at, no_name}
use Rattle.eb_query.proofs.listing.name_at.Goals as goal

pub unreachable-requires : goal.unreachable-requires
unreachable-requires c =
    no_name c.args.world.now c.is_whole.ensures (slice_get c.args.world.now.order c.args.place) c.at.result c.at.ensures (sym c.in_default.ensures)

pub returns : goal.returns
returns c =
    sym (named_at c.args.world.now c.is_whole.ensures (slice_get c.args.world.now.order c.args.place) c.at.result c.at.ensures) ∙ sym c.in-Some.ensures
