use Rattle.std.proofs.Common.{◌≡◌, drop}
use Rattle.std.specs.Cmp.Lexicographic.{pointwise}
use Rattle.eb_bake.proofs.sameness.same_lists.Given as goal

-- what is left of both decides
abbrev pub invariant-loop-one : goal.invariant-loop-one
invariant-loop-one g l = pointwise g.T.Same.same_as (drop l.one-index l.some) l.rest ≡ pointwise g.T.Same.same_as l.fn.some l.fn.others
