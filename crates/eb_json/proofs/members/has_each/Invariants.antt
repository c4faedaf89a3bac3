use Rattle.std.proofs.Common.{◌≡◌, map, drop}
use Rattle.serde_json.specs.View.{view}
use Rattle.eb_json.specs.Documents.{has_each}
use Rattle.eb_json.proofs.members.has_each.Given as goal

abbrev pub invariant-loop-key : goal.invariant-loop-key
invariant-loop-key l = has_each (map (λ k. k.now) (drop l.key-index l.keys)) (view l.value) ≡ has_each (map (λ k. k.now) l.keys) (view l.value)
