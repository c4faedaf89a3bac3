use Rattle.std.proofs.Common.{sym, ap, subst, ◌∙◌}
use Rattle.std.specs.List.Sorted.{IsStrictlySortedBy}
use Rattle.eb_schema.specs.Layouts.{row_bytes, capacity, column_cmp, starts}
use Rattle.eb_schema.proofs.ColumnOrder.{columns_ascend}
use Rattle.eb_schema.proofs.layouts.Layout.of.Goals as goal

pub invariant_of-result : goal.invariant_of-result
invariant_of-result c = record {
  few = c.in_ok-columns.ensures.few;
  order = subst (λ cs. IsStrictlySortedBy column_cmp cs) (sym c.in_ok-columns.ensures.columns)
      (columns_ascend c.args.schema.now c.kinds.result.now (rw c.kinds.ensures.kinds c.kinds.ensures.order));
  row = c.bytes_of-row_bytes.ensures.value ∙ ap row_bytes c.items.ensures;
  room = c.rows_of-capacity.ensures.value ∙ ap capacity c.items-2.ensures;
  some = c.rows_of-capacity.ensures.range.0;
  places = c.in_ok-starts.ensures ∙ ap starts c.items-3.ensures;
}
