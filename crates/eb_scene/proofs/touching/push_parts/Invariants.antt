use Rattle.std.proofs.Common.{◌≡◌, ◌++◌, map, drop}
use Rattle.eb_scene.specs.declared.keys.Key.TheVariants as key
use Rattle.eb_scene.proofs.touching.push_parts.Given as goal

-- the keys so far, and those of the other components
abbrev pub invariant-loop-part : goal.invariant-loop-part
invariant-loop-part l = l.keys.items ++ map (λ p. key.Comp l.scene l.object p.kind) (drop l.part-index l.parts) ≡ l.fn.keys.items ++ map (λ p. key.Comp l.fn.scene l.fn.object p.kind) l.fn.parts
