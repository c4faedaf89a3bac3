use Rattle.std.proofs.Common.{◌≡◌, drop}
use Rattle.run_cases.specs.Wanted.{body_in}
use Rattle.run_cases.proofs.cases.body_in.Given as goal

abbrev pub invariant-loop-part : goal.invariant-loop-part
invariant-loop-part l = body_in (drop l.part-index l.parts) l.word l.name ≡ body_in l.parts l.word l.name
