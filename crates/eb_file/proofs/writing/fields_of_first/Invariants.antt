use Rattle.std.proofs.Common.{◌≡◌, drop}
use Rattle.std.specs.Prelude.{find, ◌==◌}
use Rattle.eb_file.proofs.writing.fields_of_first.Given as goal

abbrev pub invariant-loop-component : goal.invariant-loop-component
invariant-loop-component l = find (λ c. c.number == 1) (drop l.component-index l.component-items) ≡ find (λ c. c.number == 1) l.component-items
