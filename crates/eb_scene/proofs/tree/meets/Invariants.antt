use Rattle.std.proofs.Common.{◌≡◌, ◌-◌}
use Rattle.eb_scene.specs.Numbers.{has_number}
use Rattle.eb_scene.specs.Projects.{above}
use Rattle.eb_scene.proofs.tree.meets.Given as goal

-- it isn't among those before
abbrev pub invariant-loop-i : goal.invariant-loop-i
invariant-loop-i l = has_number (above (l.levels - l.i) l.scene l.at) l.wanted ≡ has_number (above l.levels l.fn.scene l.fn.from) l.fn.wanted
