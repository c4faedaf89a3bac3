use Rattle.std.proofs.Common.{ℕ, ◌+◌, ◌-◌, List, ◌++◌, sym, ap, ◌∙◌, append_assoc, arith}
use Rattle.eb_file.specs.Plain.{number_column, number_columns}
use Rattle.eb_file.proofs.Columns.{have_numbers, columns_step}
use Rattle.eb_file.proofs.writing.put_columns.Goals as goal

pub put_column-requires : goal.put_column-requires
put_column-requires c = have_numbers _ _ _ (omega (arith, c.loop-field-test.true)) c.requires

pub loop-field-preserved : goal.loop-field-preserved
loop-field-preserved c =
    let rows = c.args.rows.now in
    let field = c.loop-field.field in
    let rest = number_columns rows (field + 1) (c.args.fields - (field + 1)) in
    ap (λ (front : List ℕ). front ++ rest) c.in_ok-put_column.ensures
    ∙ append_assoc c.loop-field.out.items (number_column rows field) rest
    ∙ ap (λ (back : List ℕ). c.loop-field.out.items ++ back) (sym (columns_step rows field c.args.fields (omega (arith, c.loop-field-test.true))))
    ∙ c.loop-field.invariant
