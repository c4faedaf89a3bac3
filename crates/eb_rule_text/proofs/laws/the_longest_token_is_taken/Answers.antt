use Rattle.eb_rule_text.proofs.LongestTokens.{cut_longest}
use Rattle.eb_rule_text.proofs.laws.the_longest_token_is_taken.Goals as goal

pub returns : goal.returns
returns c = cut_longest
