use Rattle.std.proofs.Common.{sym, ap, ◌∙◌, ◌+◌}
use Rattle.eb_schema.specs.Layouts.{column_at, widths, capacity}
use Rattle.eb_schema.specs.Slots.{slot_bytes}
use Rattle.eb_schema.proofs.SlotFacts.{slot_length}
use Rattle.eb_chunk.specs.Cells.{place_from}
use Rattle.eb_chunk.specs.Rows.{table}
use Rattle.eb_chunk.proofs.TableFacts.{put_over, slot_place, slot_written}
use Rattle.eb_chunk.proofs.cells.write_slot.Goals as goal

pub returns : goal.returns
returns c =
    let cs = c.args.layout.now in let bs = c.args.block.now in let k = (column_at cs c.args.column).holds in let s = c.args.slot in let r = c.args.row in
    ap (table cs) (put_over bs c.put_slot.new.into (slot_bytes k s) c.place-at.result.0 (place_from (widths cs) (capacity cs) 0 (c.args.column + 2) r) c.place-at.result.1
    (c.put_slot.ensures ∙ ap (λ x. slot_bytes x s) c.kind_at-kind.ensures) (c.place-at.ensures.place ∙ slot_place cs c.args.column r c.requires.columns)
    (slot_length k s c.requires.fits ∙ sym c.place-at.ensures.width))
    ∙ slot_written cs bs r c.args.column s c.requires.rows c.requires.columns c.requires.fits c.range_mut.ensures.size
