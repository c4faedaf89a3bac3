use Rattle.std.proofs.Common.{◌*◌, arith}
use Rattle.eb_base.proofs.FixedPrints.{fixed_of-fixed_text, fraction_exact, fraction_ends}
use Rattle.eb_base.proofs.fixed.fixed_text_reads_back.Goals as goal

pub returns-clause-back : goal.returns-clause-back
returns-clause-back c units h = fixed_of-fixed_text units h

pub returns-clause-exact : goal.returns-clause-exact
returns-clause-exact c fraction h = fraction_exact 16 fraction (fraction * 152587890625) h (omega arith)

pub returns-clause-ends : goal.returns-clause-ends
returns-clause-ends c fraction h some_digit = fraction_ends 16 fraction (fraction * 152587890625) h (omega arith) some_digit
