use Rattle.std.proofs.Common.{◌≡◌, drop}
use Rattle.eb_scene.specs.Projects.{part_of}
use Rattle.eb_scene.proofs.parts.part_of.Given as goal

-- the component isn't among those before
abbrev pub invariant-loop-part : goal.invariant-loop-part
invariant-loop-part l = part_of (drop l.part-index l.parts) l.kind ≡ part_of l.fn.parts l.fn.kind
