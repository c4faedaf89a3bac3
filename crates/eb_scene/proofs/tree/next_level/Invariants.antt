use Rattle.std.proofs.Common.{◌≡◌, ◌++◌, drop}
use Rattle.eb_scene.specs.Trees.{next_level}
use Rattle.eb_scene.proofs.tree.next_level.Given as goal

-- those below the objects so far, and those below the others
abbrev pub invariant-loop-number : goal.invariant-loop-number
invariant-loop-number l = l.next.items ++ next_level l.scene (drop l.number-index l.level) ≡ next_level l.fn.scene l.fn.level
