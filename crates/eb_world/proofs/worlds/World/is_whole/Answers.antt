use Rattle.std.proofs.Common.{subst}
use Rattle.eb_world.specs.Worlds.{IsWorld}
use Rattle.eb_world.proofs.Shown.{whole}
use Rattle.eb_world.proofs.worlds.World.is_whole.Goals as goal

pub returns : goal.returns
returns c =
    subst IsWorld c.self.view_is
    (whole c.self.inside.schema c.self.inside.beings c.self.inside.seats c.self.inside.sections c.self.inside.spare_tag c.self.inside.blanks.items c.self.inside.made c.self.invariant _ c.len.ensures.order)
