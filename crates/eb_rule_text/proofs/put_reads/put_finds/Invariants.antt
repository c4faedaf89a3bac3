use Rattle.std.proofs.Common.{◌≡◌, ◌++◌, drop}
use Rattle.eb_rule_text.specs.Printing.{finds_text}
use Rattle.eb_rule_text.proofs.put_reads.put_finds.Given as goal

abbrev pub invariant-loop-read : goal.invariant-loop-read
invariant-loop-read l = l.out.items ++ finds_text (drop l.read-index l.reads) ≡ l.fn.out.items ++ finds_text l.reads
