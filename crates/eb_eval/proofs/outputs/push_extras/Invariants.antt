use Rattle.std.proofs.Common.{◌≡◌, ◌++◌, map}
use Rattle.eb_eval.specs.Runs.{extra_output}
use Rattle.eb_eval.proofs.outputs.push_extras.Given as goal

-- the entities before, and those of the extras so far
abbrev pub invariant-loop-extra : goal.invariant-loop-extra
invariant-loop-extra l = l.all ≡ l.fn.all ++ map (extra_output l.fn.id) l.yielded
