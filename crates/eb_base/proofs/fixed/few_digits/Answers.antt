use Rattle.std.proofs.Common.{◌∙◌, sym, subst, ◌^◌, ◌*◌, ◌+◌, ◌<◌, length}
use Rattle.std.specs.Prelude.{IfSome}
use Rattle.eb_base.proofs.FixedReads.{all_room, digits_bound, few_room}
use Rattle.eb_base.proofs.fixed.few_digits.Goals as goal

pub returns-clause-value : goal.returns-clause-value
returns-clause-value c = c.digits_read.ensures ∙ all_room (2 ^ 120) c.args.start c.args.text.now (few_room c.args.start c.args.text.now c.requires.small c.requires.few)

pub returns-clause-bound : goal.returns-clause-bound
returns-clause-bound c =
    subst (λ r. IfSome r (λ m. m < (c.args.start + 1) * 10 ^ length c.args.text.now)) (sym (returns-clause-value c)) (digits_bound c.args.start c.args.text.now)
