use Rattle.eb_block.proofs.Written.{zeros}
use Rattle.eb_block.proofs.blocks.Block.clear.Goals as goal
use Rattle.std.proofs.Common.{◌∙◌, ap, length, replicate}

pub returns : goal.returns
returns c = zeros c.args.self.now c.fill.new.self c.range_mut.ensures.size (c.fill.ensures.after (λ y e. e) ∙ ap (λ l. replicate (length l) 0) c.range_mut.ensures.value)
