-- the first digit that isn't one, or is too much, decides
use Rattle.std.proofs.Common.{suc, drop, slice_index, ap, sym, ◌∙◌, drop-cons}
use Rattle.eb_base.specs.Digits.{below, digits_after}
use Rattle.eb_base.proofs.Numerals.{digit_none}
use Rattle.eb_base.proofs.digits.digits_read.Goals as goal

pub returns-in_err-number : goal.returns-in_err-number
returns-in_err-number c =
    let text = c.args.text.now in
    let at = c.loop-digit.digit-index in
    let rest = ap (λ t. below c.args.limit (digits_after c.loop-digit.number t)) (drop-cons text at 0 c.loop-digit-test.true) in
    let none = digit_none c.args.limit c.loop-digit.number (slice_index text at) (drop (suc at) text) (sym c.digit_read.ensures ∙ c.in_err-number.was) in
    c.from_residual.ensures ∙ sym (sym c.loop-digit.invariant.told ∙ rest ∙ none)
