use Rattle.std.proofs.Common.{◌≡◌, ◌++◌, flat_map, drop}
use Rattle.eb_system.specs.Wanted.{of_find}
use Rattle.eb_system.proofs.wanted.finds_want.Given as goal

-- those so far, and those that are left
abbrev pub invariant-loop-term : goal.invariant-loop-term
invariant-loop-term l = l.out ++ flat_map of_find (drop l.term-index l.terms) ≡ l.fn.out ++ flat_map of_find l.fn.terms
