use Rattle.eb_rules.proofs.Gathered.{number_is_on, numbers_ascend}
use Rattle.eb_rules.proofs.bakers.numbers_are_those_on_the_type.Goals as goal

pub returns-clause-each : goal.returns-clause-each
returns-clause-each c kind n bakers = number_is_on kind n bakers

pub returns-clause-ascending : goal.returns-clause-ascending
returns-clause-ascending c kind bakers = numbers_ascend 1 kind bakers
