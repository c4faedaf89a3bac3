use Rattle.std.proofs.Common.{◌≤◌}
use Rattle.eb_chunk.specs.Merging.{place_of}
use Rattle.eb_chunk.proofs.carrying.seek.Given as goal

-- no column before this one is passed over
abbrev pub invariant-loop-column : goal.invariant-loop-column
invariant-loop-column l = l.column ≤ place_of l.kind l.field l.layout
