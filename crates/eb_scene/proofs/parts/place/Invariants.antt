use Rattle.std.proofs.Common.{◌≡◌, drop}
use Rattle.eb_schema.specs.TypeOrder.{place_of}
use Rattle.eb_scene.specs.Parts.{further}
use Rattle.eb_scene.proofs.parts.place.Given as goal

-- the place isn't among those before
abbrev pub invariant-loop-index : goal.invariant-loop-index
invariant-loop-index l = further l.index (place_of (λ p. p.kind) l.kind (drop l.index l.parts)) ≡ place_of (λ p. p.kind) l.fn.kind l.fn.parts
