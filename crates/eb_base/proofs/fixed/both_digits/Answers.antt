-- the digits of one part, and then those of the other
use Rattle.std.proofs.Common.{◌∙◌, sym}
use Rattle.eb_base.proofs.FixedReads.{both_none, both_some, both_room, whole_bound}
use Rattle.eb_base.proofs.fixed.both_digits.Goals as goal

pub returns-in_err-digits-clause-value : goal.returns-in_err-digits-clause-value
returns-in_err-digits-clause-value c =
    c.from_residual.ensures ∙ sym (both_none c.args.whole.now c.args.fraction.now (sym c.few_digits.ensures.value ∙ c.in_err-digits.was))

pub few_digits-requires-2-clause-small : goal.few_digits-requires-2-clause-small
few_digits-requires-2-clause-small c = whole_bound c.in_ok-digits.digits c.args.whole.now c.requires.whole c.in_ok-digits.ensures.bound

pub returns-clause-value : goal.returns-clause-value
returns-clause-value c = c.few_digits-2.ensures.value ∙ both_some c.in_ok-digits.digits c.args.whole.now c.args.fraction.now c.in_ok-digits.ensures.value

pub returns-clause-bound : goal.returns-clause-bound
returns-clause-bound c =
    let small = whole_bound c.in_ok-digits.digits c.args.whole.now c.requires.whole c.in_ok-digits.ensures.bound in
    both_room c.few_digits-2.result c.in_ok-digits.digits c.args.fraction.now small c.requires.fraction c.few_digits-2.ensures.bound
