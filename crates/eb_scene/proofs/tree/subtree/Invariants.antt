use Rattle.std.proofs.Common.{◌≡◌, ◌++◌, ◌-◌, [], ◌∷◌}
use Rattle.eb_scene.specs.Trees.{subtree}
use Rattle.eb_scene.proofs.tree.subtree.Given as goal

-- the objects so far, and those from this level on
abbrev pub invariant-loop-i : goal.invariant-loop-i
invariant-loop-i l = l.all.items ++ subtree (l.levels - l.i) l.scene l.level.items ≡ subtree l.levels l.fn.scene (l.fn.from ∷ [])
