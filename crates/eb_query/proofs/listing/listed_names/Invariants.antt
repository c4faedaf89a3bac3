-- what is done and what is left
use Rattle.std.proofs.Common.{◌≡◌, ◌++◌, drop}
use Rattle.eb_query.proofs.listing.listed_names.Given as goal

abbrev pub invariant-loop-place : goal.invariant-loop-place
invariant-loop-place l = l.names.items ++ drop l.place l.world.order ≡ l.world.order
