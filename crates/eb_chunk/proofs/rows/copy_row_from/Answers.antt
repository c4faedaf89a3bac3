use Rattle.std.proofs.Common.{sym, ap, ◌∙◌, arith, slice_set}
use Rattle.eb_chunk.specs.Rows.{table, row_of, row_in, slot_set}
use Rattle.eb_chunk.proofs.RowFacts.{head_step, row_step, all_mixed}
use Rattle.eb_chunk.proofs.TableFacts.{length-table, length-row_slots}
use Rattle.eb_chunk.proofs.rows.copy_row_from.Goals as goal

pub loop-column-init : goal.loop-column-init
loop-column-init c =
    let cs = c.args.layout.now in let bs = c.args.block.now in let r = c.args.row in let old = (row_in (table cs bs) r).slots in let e = c.read_entity.ensures in let m = c.read_name.ensures in
    head_step (table cs bs) (table cs c.write_entity.new.block) (table cs c.write_name.new.block) r c.read_entity.result c.read_name.result (omega (arith, length-table cs bs, c.requires.rows.0)) c.write_entity.ensures c.write_name.ensures
    ∙ (λ i. slice_set (table cs bs) r (row_of (e i) (m i) old))

pub loop-column-preserved : goal.loop-column-preserved
loop-column-preserved c =
    let cs = c.args.layout.now in let bs = c.args.block.now in let os = c.args.other.now in let r = c.args.row in let k = c.loop-column.column in
    let row = row_in (table cs os) c.args.from in let old = (row_in (table cs bs) r).slots in let value = c.read_slot.ensures.value in let inv = c.loop-column.invariant in
    let long = length-row_slots cs os c.args.from c.requires.rows.1 in
    c.write_slot.ensures ∙ (λ i. slot_set (inv i) r k (value i))
    ∙ row_step (table cs bs) r row.entity row.name row.slots old k (omega (arith, length-table cs bs, c.requires.rows.0)) (long ∙ sym (length-row_slots cs bs r c.requires.rows.0))
    (omega (arith, c.loop-column-test.true, c.columns-column-end.ensures.value, long))

pub returns : goal.returns
returns c =
    let cs = c.args.layout.now in let bs = c.args.block.now in let os = c.args.other.now in let r = c.args.row in
    let row = row_in (table cs os) c.args.from in let old = (row_in (table cs bs) r).slots in let long = length-row_slots cs os c.args.from c.requires.rows.1 in
    c.loop-column.invariant ∙ ap (λ l. slice_set (table cs bs) r (row_of row.entity row.name l))
    (all_mixed row.slots old c.loop-column.column (long ∙ sym (length-row_slots cs bs r c.requires.rows.0)) (omega (arith, c.loop-column-test.false, c.loop-column.auto.column-end, c.columns-column-end.ensures.value, long)))
