use Rattle.std.proofs.Common.{◌≡◌, ◌+◌, length, drop}
use Rattle.eb_rules.proofs.Gathered.{Gathers}
use Rattle.eb_rules.proofs.bakers.bakers_by_type.Given as goal

abbrev pub invariant-loop-slot : goal.invariant-loop-slot
invariant-loop-slot l = record { at : l.number ≡ l.slot-index; many : length l.lists.items ≡ 128; rest : Gathers (l.number + 1) (drop l.slot-index l.bakers) l.lists.items l.bakers }
