use Rattle.std.proofs.Common.{◌≡◌, ◌+◌, drop}
use Rattle.std.specs.Prelude.{option_map}
use Rattle.eb_scene.specs.Parts.{position}
use Rattle.eb_scene.proofs.parts.position.Given as goal

-- the component isn't among those before
abbrev pub invariant-loop-index : goal.invariant-loop-index
invariant-loop-index l = option_map (λ j. j + l.index) (position (drop l.index l.parts) l.kind) ≡ position l.fn.parts l.fn.kind
