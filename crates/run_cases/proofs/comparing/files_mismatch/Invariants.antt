use Rattle.std.proofs.Common.{take}
use Rattle.std.specs.Prelude.{All}
use Rattle.run_cases.specs.Wanted.{IsKept}
use Rattle.run_cases.proofs.comparing.files_mismatch.Given as goal

-- each file that an earlier part names is as the part says
abbrev pub invariant-loop-part : goal.invariant-loop-part
invariant-loop-part l = All (IsKept l.folder.files) (take l.part-index l.parts)
