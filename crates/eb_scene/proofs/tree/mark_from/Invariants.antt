use Rattle.std.proofs.Common.{◌≡◌, ◌-◌}
use Rattle.eb_scene.specs.Projects.{above, first_mark}
use Rattle.eb_scene.proofs.tree.mark_from.Given as goal

-- what is left of the way has the same first mark
abbrev pub invariant-loop-i : goal.invariant-loop-i
invariant-loop-i l = first_mark l.scene (above (l.levels - l.i) l.scene l.at) ≡ first_mark l.fn.scene (above l.levels l.fn.scene l.fn.from)
