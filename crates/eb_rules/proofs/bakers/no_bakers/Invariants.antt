use Rattle.std.proofs.Common.{◌≡◌, ◌<◌, ℕ, [], length, Some}
use Rattle.std.specs.Prelude.{slice_get}
use Rattle.eb_rules.proofs.bakers.no_bakers.Given as goal

abbrev pub invariant-loop-at : goal.invariant-loop-at
invariant-loop-at l = record { many : length l.lists.items ≡ l._at; none : (k : ℕ) → k < l._at → slice_get l.lists.items k ≡ Some [] }
