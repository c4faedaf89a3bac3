use Rattle.std.proofs.Common.{arith, ap, length}
use Rattle.eb_json.proofs.FormFacts.{pair_at-other}
use Rattle.eb_json.proofs.forms.pair.Goals as goal

pub returns-in-len1 : goal.returns-in-len1
returns-in-len1 c = pair_at-other _ _ _ c.in-Some.ensures (λ two. omega (arith, c.in-len1.len_below, c.as_slice.ensures.len, ap length c.as_slice.ensures.value))

pub returns-in-len3-up : goal.returns-in-len3-up
returns-in-len3-up c = pair_at-other _ _ _ c.in-Some.ensures (λ two. omega (arith, c.in-len3-up.len_at_least, c.as_slice.ensures.len, ap length c.as_slice.ensures.value))
