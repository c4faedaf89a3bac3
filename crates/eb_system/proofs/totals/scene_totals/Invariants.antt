use Rattle.std.proofs.Common.{◌≡◌, ℕ, [], flat_map}
use Rattle.std.specs.List.{fold}
use Rattle.eb_system.specs.Tables.{total_in, with_number}
use Rattle.eb_system.specs.Totals.{numbers, numbers_in, total_of}
use Rattle.eb_system.proofs.totals.scene_totals.Given as goal

-- the entities that are left do the rest, in each scene
abbrev pub invariant-loop-name : goal.invariant-loop-name
invariant-loop-name l = (s : ℕ) → fold with_number (total_in l.totals s) (flat_map (numbers_in s l.summed.kind l.summed.place) l.name-iterator) ≡ fold with_number (total_of []) (numbers l.fn.entities s l.fn.summed.kind l.fn.summed.place)
