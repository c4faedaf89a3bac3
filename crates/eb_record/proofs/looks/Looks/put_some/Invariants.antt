use Rattle.std.proofs.Common.{◌≡◌, take}
use Rattle.eb_record.specs.Readers.{with_looks}
use Rattle.eb_record.proofs.looks.Looks.put_some.Given as goal

-- the looks at the keys so far
abbrev pub invariant-loop-key : goal.invariant-loop-key
invariant-loop-key l = l.self ≡ with_looks l.id l.initial.self (take l.key-index l.keys)
