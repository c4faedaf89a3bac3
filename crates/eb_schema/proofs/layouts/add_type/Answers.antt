use Rattle.std.proofs.Common.{length, sym, ap, arith, length-append}
use Rattle.eb_schema.specs.Layouts.{columns_from}
use Rattle.eb_schema.proofs.LayoutFacts.{fields_few, length-columns_from}
use Rattle.eb_schema.proofs.layouts.add_type.Goals as goal

pub add_fields-requires : goal.add_fields-requires
add_fields-requires c = omega (arith, ap length c.items.ensures, fields_few c.args.schema.now c.args.kind c.in-Some.component.now c.components-types.ensures.sound (sym c.in-Some.ensures))

pub returns-in_ok-add_fields-clause-few : goal.returns-in_ok-add_fields-clause-few
returns-in_ok-add_fields-clause-few c =
    let fields = c.items.result.now in let cs = columns_from c.args.kind 0 fields in
    omega (
      arith,
      ap length c.in_ok-add_fields.ensures,
      length-append c.args.columns.now cs,
      length-columns_from c.args.kind 0 fields,
      ap length c.items.ensures,
      fields_few c.args.schema.now c.args.kind c.in-Some.component.now c.components-types.ensures.sound (sym c.in-Some.ensures),
    )
