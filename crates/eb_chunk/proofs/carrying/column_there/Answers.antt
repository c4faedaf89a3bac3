use Rattle.std.proofs.Common.{sym, ap, ◌∙◌, arith}
use Rattle.std.specs.Ordering.{is_eq}
use Rattle.eb_chunk.proofs.MergeFacts.{found_there, none_there}
use Rattle.eb_chunk.proofs.carrying.column_there.Goals as goal
use Rattle.eb_chunk.proofs.carrying.column_there.Goals.{else-at-columns-via-then-at-columns+else-is_eq, else-at-columns-via-else-at-columns}

pub returns-then-is_eq : goal.returns-then-is_eq
returns-then-is_eq c =
    sym (found_there c.args.kind c.args.field c.args.layout.now c.args.at c.requires (omega (arith, c.if-at-columns.true, c.columns.ensures.value))
    (ap is_eq (sym c.compare.ensures) ∙ sym c.is_eq.ensures ∙ c.if-is_eq.true))

pub returns-else-at-columns : goal.returns-else-at-columns
returns-else-at-columns c =
    sym (none_there c.args.kind c.args.field c.args.layout.now c.args.at c.columns.ensures.order c.requires (elim c.else-at-columns.branch [
      | else-at-columns-via-then-at-columns+else-is_eq w ↦ λ lt. ap is_eq (sym w.compare.ensures) ∙ sym w.is_eq.ensures ∙ w.if-is_eq.false
      | else-at-columns-via-else-at-columns w ↦ λ lt. absurd (omega (arith, lt, w.if-at-columns.false, c.columns.ensures.value))
    ]))
