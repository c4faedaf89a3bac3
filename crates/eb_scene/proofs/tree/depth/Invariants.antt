use Rattle.std.proofs.Common.{◌≡◌, ◌+◌, ◌-◌, length}
use Rattle.eb_scene.specs.Projects.{above}
use Rattle.eb_scene.proofs.tree.depth.Given as goal

-- the objects so far, and those that are left
abbrev pub invariant-loop-i : goal.invariant-loop-i
invariant-loop-i l = l.i + length (above (l.levels - l.i) l.scene l.at) ≡ length (above l.levels l.fn.scene l.fn.from)
