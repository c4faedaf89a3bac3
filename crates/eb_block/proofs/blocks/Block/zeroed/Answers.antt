use Rattle.std.proofs.Common.{length, sym, ap, ◌∙◌}
use Rattle.eb_block.proofs.Written.{zeros-length}
use Rattle.eb_block.proofs.blocks.Block.zeroed.Goals as goal

pub invariant_of-result : goal.invariant_of-result
invariant_of-result c = record {
  place = sym (c.fill.ensures.place ∙ c.in_ok-base.ensures.0);
  size = ap length c.fill.ensures.bytes ∙ zeros-length;
  full = c.fill.ensures.room;
}
