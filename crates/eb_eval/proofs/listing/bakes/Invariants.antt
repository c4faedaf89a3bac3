use Rattle.std.proofs.Common.{◌≡◌, drop, Some}
use Rattle.eb_eval.specs.Runs.{bakes}
use Rattle.eb_eval.proofs.listing.bakes.Given as goal

-- none before is of the type
abbrev pub invariant-loop-part : goal.invariant-loop-part
invariant-loop-part l = bakes (Some l.plan) (drop l.part-index l.parts) ≡ bakes (Some l.plan) l.parts
