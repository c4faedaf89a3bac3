use Rattle.std.proofs.Common.{◌∙◌}
use Rattle.eb_json.proofs.DocumentFacts.{has_keys-counted, has_keys-miscounted}
use Rattle.eb_json.proofs.members.has_keys.Goals as goal

pub returns-then-len-keys : goal.returns-then-len-keys
returns-then-len-keys c =
    c.has_each.ensures ∙ has_keys-counted c.args.keys.now _ _ _ c.in-Some.ensures c.len.ensures.len c.if-len-keys.true

pub returns-else-len-keys : goal.returns-else-len-keys
returns-else-len-keys c = has_keys-miscounted c.args.keys.now _ _ _ c.in-Some.ensures c.len.ensures.len c.if-len-keys.false
