use Rattle.std.proofs.Common.{◌≤◌, ◌-◌, length, rules}
use Rattle.eb_rules.proofs.Gathered.{no_gap}
use Rattle.eb_rules.proofs.texts.Rules.bakers_of.Goals as goal

pub returns-in-None : goal.returns-in-None
returns-in-None c = λ plan e.
    let short : length c.deref.result.now ≤ c.number.result - 1 = search rules in
    absurd (no_gap _ _ c.self.inside.plan.bakers _ c.self.invariant.1.1 c.deref.ensures.value c.number.ensures.range.0 c.number.ensures.range.1 short)
