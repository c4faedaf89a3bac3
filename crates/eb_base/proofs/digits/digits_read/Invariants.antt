-- digits_read: what is left says what the whole text says
use Rattle.std.proofs.Common.{◌≡◌, ◌<◌, ◌^◌, drop}
use Rattle.eb_base.specs.Digits.{below, digits_after}
use Rattle.eb_base.proofs.digits.digits_read.Given as goal

abbrev pub invariant-loop-digit : goal.invariant-loop-digit
invariant-loop-digit l = record {
  room : l.number < 2 ^ 120;
  told : below l.limit (digits_after l.number (drop l.digit-index l.text)) ≡ below l.limit (digits_after l.fn.start l.text);
}
