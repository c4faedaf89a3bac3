use Rattle.std.proofs.Common.{◌≡◌, ◌+◌, ◌*◌, ap, ◌∙◌, arith}
use Rattle.eb_schema.specs.Layouts.{widths, capacity}
use Rattle.eb_schema.specs.Slots.{name_bytes}
use Rattle.eb_schema.proofs.SlotFacts.{name_length}
use Rattle.eb_chunk.specs.Cells.{place_from}
use Rattle.eb_chunk.specs.Rows.{table}
use Rattle.eb_chunk.proofs.TableFacts.{put_over, name_written}
use Rattle.eb_chunk.proofs.cells.write_name.Goals as goal

pub returns : goal.returns
returns c =
    let cs = c.args.layout.now in let bs = c.args.block.now in let r = c.args.row in let m = c.args.name in
    let here : capacity cs * 12 + r * 16 ≡ place_from (widths cs) (capacity cs) 0 1 r = omega arith in
    ap (table cs) (put_over bs c.put_name.new.into (name_bytes m) c.name_place-at.result (place_from (widths cs) (capacity cs) 0 1 r) 16 c.put_name.ensures.bytes (c.name_place-at.ensures.place ∙ here) (name_length m))
    ∙ name_written cs bs r m c.requires c.put_name.ensures.range c.range_mut.ensures.size
