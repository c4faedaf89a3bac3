use Rattle.std.proofs.Common.{sym, ap, ◌∙◌, arith, slice_set, slice_index_or}
use Rattle.eb_chunk.specs.Rows.{table, row_of, row_in, slot_set, no_slot}
use Rattle.eb_chunk.proofs.RowFacts.{head_step, row_step, all_mixed}
use Rattle.eb_chunk.proofs.TableFacts.{length-table, length-row_slots}
use Rattle.eb_chunk.proofs.rows.write_row.Goals as goal

pub loop-column-init : goal.loop-column-init
loop-column-init c =
    let cs = c.args.layout.now in let bs = c.args.block.now in
    head_step (table cs bs) (table cs c.write_entity.new.block) (table cs c.write_name.new.block) c.args.row c.args.entity c.args.name (omega (arith, length-table cs bs, c.requires.rows)) c.write_entity.ensures c.write_name.ensures

pub loop-column-preserved : goal.loop-column-preserved
loop-column-preserved c =
    let cs = c.args.layout.now in let bs = c.args.block.now in let r = c.args.row in let k = c.loop-column.column in let new = c.args.slots.now in let old = (row_in (table cs bs) r).slots in
    c.write_slot.ensures ∙ ap (λ t. slot_set t r k (slice_index_or new k no_slot)) c.loop-column.invariant
    ∙ row_step (table cs bs) r c.args.entity c.args.name new old k (omega (arith, length-table cs bs, c.requires.rows)) (c.requires.slots.size ∙ sym (length-row_slots cs bs r c.requires.rows))
    (omega (arith, c.loop-column-test.true, c.columns-column-end.ensures.value, c.requires.slots.size))

pub returns : goal.returns
returns c =
    let cs = c.args.layout.now in let bs = c.args.block.now in let r = c.args.row in let new = c.args.slots.now in let old = (row_in (table cs bs) r).slots in
    c.loop-column.invariant ∙ ap (λ l. slice_set (table cs bs) r (row_of c.args.entity c.args.name l))
    (all_mixed new old c.loop-column.column (c.requires.slots.size ∙ sym (length-row_slots cs bs r c.requires.rows)) (omega (arith, c.loop-column-test.false, c.loop-column.auto.column-end, c.columns-column-end.ensures.value, c.requires.slots.size)))
