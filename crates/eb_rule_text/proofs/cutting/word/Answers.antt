use Rattle.std.proofs.Common.{rules, ◌∙◌}
use Rattle.eb_rule_text.specs.Tokens.{is_in}
use Rattle.eb_rule_text.specs.declared.cutting.Run.TheVariants as run
use Rattle.eb_rule_text.proofs.FirstBytes.{prefix_len_within}
use Rattle.eb_rule_text.proofs.cutting.word.Goals as goal

pub returns-clause-value : goal.returns-clause-value
returns-clause-value c = c.past.ensures.value ∙ prefix_len_within (is_in run.Word) c.min.result 32 c.args.z.now (search rules)
