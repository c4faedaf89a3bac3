use Rattle.eb_rule_text.proofs.SoundTexts.{rules_sound, job_sound}
use Rattle.eb_rule_text.proofs.laws.read_is_in_grammar.Goals as goal

pub returns-clause-rules : goal.returns-clause-rules
returns-clause-rules c = rules_sound

pub returns-clause-job : goal.returns-clause-job
returns-clause-job c = job_sound
