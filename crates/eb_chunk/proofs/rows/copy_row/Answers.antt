use Rattle.std.proofs.Common.{sym, ap, ◌∙◌, arith, slice_set, get_or}
use Rattle.std.proofs.lemmas.List.{get_or-set_other}
use Rattle.eb_chunk.specs.Rows.{RowValue, table, row_of, row_in, slot_set, slot_in, no_slot, no_row}
use Rattle.eb_chunk.proofs.RowFacts.{mixed, head_step, row_step, all_mixed}
use Rattle.eb_chunk.proofs.TableFacts.{length-table, length-row_slots}
use Rattle.eb_chunk.proofs.rows.copy_row.Goals as goal

pub loop-column-init : goal.loop-column-init
loop-column-init c =
    let cs = c.args.layout.now in let bs = c.args.block.now in let r = c.args.row in let old = (row_in (table cs bs) r).slots in let e = c.read_entity-entity.ensures in let m = c.read_name-name.ensures in
    head_step (table cs bs) (table cs c.write_entity.new.block) (table cs c.write_name.new.block) r c.read_entity-entity.result c.read_name-name.result (omega (arith, length-table cs bs, c.requires.rows.0)) c.write_entity.ensures c.write_name.ensures
    ∙ (λ i. slice_set (table cs bs) r (row_of (e i) (m i) old))

pub loop-column-preserved : goal.loop-column-preserved
loop-column-preserved c =
    let cs = c.args.layout.now in let bs = c.args.block.now in let r = c.args.row in let from = c.args.from in let k = c.loop-column.column in
    let g = table cs bs in let row = row_in g from in let old = (row_in g r).slots in let inv = c.loop-column.invariant in
    let long = length-row_slots cs bs from c.requires.rows.1 in
    let value = c.read_slot-slot.ensures.value ∙ ap (λ t. slot_in t from k) inv
    ∙ ap (λ (x : RowValue). get_or x.slots k no_slot) (get_or-set_other g r from (row_of row.entity row.name (mixed k row.slots old)) no_row c.requires.other) in
    c.write_slot.ensures ∙ (λ i. slot_set (inv i) r k (value i))
    ∙ row_step g r row.entity row.name row.slots old k (omega (arith, length-table cs bs, c.requires.rows.0)) (long ∙ sym (length-row_slots cs bs r c.requires.rows.0))
    (omega (arith, c.loop-column-test.true, c.columns-column-end.ensures.value, long))

pub returns : goal.returns
returns c =
    let cs = c.args.layout.now in let bs = c.args.block.now in let r = c.args.row in
    let row = row_in (table cs bs) c.args.from in let old = (row_in (table cs bs) r).slots in let long = length-row_slots cs bs c.args.from c.requires.rows.1 in
    c.loop-column.invariant ∙ ap (λ l. slice_set (table cs bs) r (row_of row.entity row.name l))
    (all_mixed row.slots old c.loop-column.column (long ∙ sym (length-row_slots cs bs r c.requires.rows.0)) (omega (arith, c.loop-column-test.false, c.loop-column.auto.column-end, c.columns-column-end.ensures.value, long)))
