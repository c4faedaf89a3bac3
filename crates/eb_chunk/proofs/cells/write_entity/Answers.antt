use Rattle.std.proofs.Common.{◌≡◌, ◌*◌, ap, ◌∙◌, arith}
use Rattle.eb_schema.specs.Layouts.{widths, capacity}
use Rattle.eb_schema.specs.Slots.{entity_bytes}
use Rattle.eb_schema.proofs.SlotFacts.{entity_length}
use Rattle.eb_chunk.specs.Cells.{place_from}
use Rattle.eb_chunk.specs.Rows.{table}
use Rattle.eb_chunk.proofs.TableFacts.{put_over, entity_written}
use Rattle.eb_chunk.proofs.cells.write_entity.Goals as goal

pub returns : goal.returns
returns c =
    let cs = c.args.layout.now in let bs = c.args.block.now in let r = c.args.row in let e = c.args.entity in
    let at : r * 12 ≡ place_from (widths cs) (capacity cs) 0 0 r = omega arith in
    ap (table cs) (put_over bs c.put_entity.new.into (entity_bytes e) (r * 12) (place_from (widths cs) (capacity cs) 0 0 r) 12 c.put_entity.ensures.bytes at (entity_length e))
    ∙ entity_written cs bs r e c.requires c.put_entity.ensures.range c.range_mut.ensures.size
