use Rattle.std.proofs.Common.{◌≡◌, drop}
use Rattle.std.specs.List.{fold}
use Rattle.eb_merge.specs.Objects.{outputs_of, with_extra}
use Rattle.eb_merge.proofs.objects.put_extras.Given as goal

-- the outputs that are left do the rest
abbrev pub invariant-loop-output : goal.invariant-loop-output
invariant-loop-output l = fold (with_extra l.place) l.entities (drop l.output-index l.output-items) ≡ fold (with_extra l.fn.place) l.fn.entities (outputs_of l.fn.run.outcome)
