use Rattle.eb_json.proofs.KeyFacts.{just_keys}
use Rattle.eb_json.proofs.laws.keys_are_exact.Goals as goal

pub returns : goal.returns
returns c = just_keys
