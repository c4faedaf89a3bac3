use Rattle.std.proofs.Common.{◌≡◌, ◌<◌, length, sym, ap, ◌∙◌, arith, slice_set}
use Rattle.std.proofs.lemmas.List.{length-map}
use Rattle.eb_schema.specs.Layouts.{column_at, find_column}
use Rattle.eb_chunk.specs.Rows.{table, row_of, row_in, slot_set, carried, carried_slot, slot_or_zero}
use Rattle.eb_chunk.specs.Merging.{place_of}
use Rattle.eb_chunk.proofs.MergeFacts.{next_place}
use Rattle.eb_chunk.proofs.RowFacts.{head_step, row_step, all_mixed, nth_carried, found_below}
use Rattle.eb_chunk.proofs.TableFacts.{length-table, length-row_slots}
use Rattle.eb_chunk.proofs.carrying.carry_row.Goals as goal

pub loop-column-init : goal.loop-column-init
loop-column-init c =
    let cs = c.args.layout.now in let bs = c.args.block.now in let r = c.args.row in let old = (row_in (table cs bs) r).slots in let e = c.read_entity.ensures in let m = c.read_name.ensures in (
      head_step (table cs bs) (table cs c.write_entity.new.block) (table cs c.write_name.new.block) r c.read_entity.result c.read_name.result (omega (arith, length-table cs bs, c.requires.rows.0)) c.write_entity.ensures c.write_name.ensures
          ∙ (λ i. slice_set (table cs bs) r (row_of (e i) (m i) old)),
      λ lt. omega arith,
    )

pub seek-at-requires : goal.seek-at-requires
seek-at-requires c =
    let cs = c.args.layout.now in let old_cs = c.args.from_layout.now in let k = c.loop-column.column in let from = c.source_of-kind.ensures in
    let kind = c.source_of-kind.result.0 in let field = c.source_of-kind.result.1 in
    let same : place_of kind field old_cs ≡ place_of (column_at cs k).kind (column_at cs k).field old_cs = λ i. place_of (from.0 i) (from.1 i) old_cs in
    omega (arith, same, c.loop-column.invariant.1 (omega (arith, c.loop-column-test.true, c.columns-column-end.ensures.value)))

pub read_or_zero-slot-requires-clause-column : goal.read_or_zero-slot-requires-clause-column
read_or_zero-slot-requires-clause-column c k found =
    let cs = c.args.layout.now in let old_cs = c.args.from_layout.now in let n = c.loop-column.column in let from = c.source_of-kind.ensures in
    let e = sym (c.column_there-source.ensures ∙ (λ i. find_column (from.0 i) (from.1 i) 0 old_cs)) ∙ found in
    let x = column_at cs n in
    (found_below x.kind x.field k old_cs e, c.requires.alike n k (omega (arith, c.loop-column-test.true, c.columns-column-end.ensures.value)) e ∙ sym c.kind_at.ensures)

pub loop-column-preserved : goal.loop-column-preserved
loop-column-preserved c =
    let cs = c.args.layout.now in let old_cs = c.args.from_layout.now in let bs = c.args.block.now in let r = c.args.row in let k = c.loop-column.column in
    let source = row_in (table old_cs c.args.other.now) c.args.from in let row = carried cs old_cs source in let old = (row_in (table cs bs) r).slots in let inv = c.loop-column.invariant.0 in
    let long = length-map cs (carried_slot old_cs source) in
    let lt : k < length cs = omega (arith, c.loop-column-test.true, c.columns-column-end.ensures.value) in
    let from = c.source_of-kind.ensures in let holds = c.kind_at.ensures in
    let there = c.column_there-source.ensures ∙ (λ i. find_column (from.0 i) (from.1 i) 0 old_cs) in
    let value = c.read_or_zero-slot.ensures.value ∙ (λ i. slot_or_zero (there i) source (holds i)) ∙ sym (nth_carried cs old_cs source k lt) in
    let at = c.seek-at.ensures ∙ (λ i. place_of (from.0 i) (from.1 i) old_cs) in (
      c.write_slot.ensures ∙ (λ i. slot_set (inv i) r k (value i))
          ∙ row_step (table cs bs) r row.entity row.name row.slots old k (omega (arith, length-table cs bs, c.requires.rows.0)) (long ∙ sym (length-row_slots cs bs r c.requires.rows.0)) (omega (arith, lt, long)),
      λ more. omega (arith, at, next_place cs old_cs k c.columns-column-end.ensures.order more),
    )

pub returns : goal.returns
returns c =
    let cs = c.args.layout.now in let old_cs = c.args.from_layout.now in let bs = c.args.block.now in let r = c.args.row in
    let source = row_in (table old_cs c.args.other.now) c.args.from in let row = carried cs old_cs source in let old = (row_in (table cs bs) r).slots in
    let long = length-map cs (carried_slot old_cs source) in
    c.loop-column.invariant.0 ∙ ap (λ l. slice_set (table cs bs) r (row_of row.entity row.name l))
    (all_mixed row.slots old c.loop-column.column (long ∙ sym (length-row_slots cs bs r c.requires.rows.0)) (omega (arith, c.loop-column-test.false, c.loop-column.auto.column-end, c.columns-column-end.ensures.value, long)))
