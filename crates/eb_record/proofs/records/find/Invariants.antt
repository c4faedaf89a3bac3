use Rattle.std.proofs.Common.{◌≡◌, drop}
use Rattle.std.specs.List.{fold}
use Rattle.eb_record.specs.Readers.{found_in, with_readers}
use Rattle.eb_record.proofs.records.find.Given as goal

-- the keys that are left do the rest
abbrev pub invariant-loop-key : goal.invariant-loop-key
invariant-loop-key l = fold (with_readers l.looks) l.found (drop l.key-index l.keys) ≡ found_in l.fn.looks l.fn.keys
