use Rattle.std.proofs.Common.{◌≡◌, ◌+◌, ◌-◌, [], ◌∷◌}
use Rattle.eb_scene.specs.Trees.{height}
use Rattle.eb_scene.proofs.tree.height.Given as goal

-- the levels so far, and those from here on
abbrev pub invariant-loop-i : goal.invariant-loop-i
invariant-loop-i l = l.i + height (l.levels - l.i) l.scene l.level.items ≡ height l.levels l.fn.scene (l.fn.from ∷ [])
