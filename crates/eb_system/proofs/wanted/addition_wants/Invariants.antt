use Rattle.std.proofs.Common.{◌≡◌, ◌++◌, flat_map, drop}
use Rattle.eb_system.specs.Wanted.{term_wants}
use Rattle.eb_system.proofs.wanted.addition_wants.Given as goal

-- those so far, and those that are left
abbrev pub invariant-loop-filling : goal.invariant-loop-filling
invariant-loop-filling l = l.out ++ flat_map (λ x. term_wants x.value) (drop l.filling-index l.filling-items) ≡ l.fn.out ++ flat_map (λ x. term_wants x.value) l.filling-items
