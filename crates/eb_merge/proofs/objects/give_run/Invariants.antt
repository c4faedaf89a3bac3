use Rattle.std.proofs.Common.{◌≡◌, drop}
use Rattle.std.specs.List.{fold}
use Rattle.eb_merge.specs.Objects.{outputs_of, own_after_output}
use Rattle.eb_merge.proofs.objects.give_run.Given as goal

-- the outputs that are left do the rest
abbrev pub invariant-loop-output : goal.invariant-loop-output
invariant-loop-output l = fold (own_after_output l.id.baker) l.own (drop l.output-index l.output-items) ≡ fold (own_after_output l.fn.id.baker) l.fn.own (outputs_of l.fn.run.outcome)
