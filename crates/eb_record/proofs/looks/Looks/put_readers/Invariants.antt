use Rattle.std.proofs.Common.{◌≡◌}
use Rattle.std.specs.List.{fold}
use Rattle.eb_record.specs.Readers.{with_readers, with_run}
use Rattle.eb_record.proofs.looks.Looks.put_readers.Given as goal

-- the looks that are left do the rest
abbrev pub invariant-loop-look : goal.invariant-loop-look
invariant-loop-look l = fold with_run l.found l.look-iterator ≡ with_readers l.self l.fn.found l.fn.key
