use Rattle.std.proofs.Common.{◌≡◌, drop}
use Rattle.eb_record.specs.Readers.{without_looks}
use Rattle.eb_record.proofs.looks.Looks.take_all.Given as goal

-- without the looks at the keys that are left
abbrev pub invariant-loop-key : goal.invariant-loop-key
invariant-loop-key l = without_looks l.id l.self (drop l.key-index l.keys) ≡ without_looks l.id l.initial.self l.keys
