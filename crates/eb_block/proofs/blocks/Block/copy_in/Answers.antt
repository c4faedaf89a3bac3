use Rattle.std.proofs.Common.{length, arith, ap, length-take}
use Rattle.eb_block.proofs.Written.{copied_in}
use Rattle.eb_block.proofs.blocks.Block.copy_in.Goals as goal

pub copy_within-requires-clause-in_bounds : goal.copy_within-requires-clause-in_bounds
copy_within-requires-clause-in_bounds c = omega (arith, c.requires, c.range_mut.ensures.size, ap length c.range_mut.ensures.value, length-take 16384 c.args.self.now)

pub copy_within-requires-clause-dest_in_bounds : goal.copy_within-requires-clause-dest_in_bounds
copy_within-requires-clause-dest_in_bounds c = omega (arith, c.requires, c.range_mut.ensures.size, ap length c.range_mut.ensures.value, length-take 16384 c.args.self.now)

pub returns-clause-bytes : goal.returns-clause-bytes
returns-clause-bytes c = copied_in c.args.self.now c.range_mut.result.now c.copy_within.new.self c.args.from c.args.to c.args.len c.range_mut.ensures.size c.range_mut.ensures.value c.requires.0 c.copy_within.ensures.after c.copy_within.ensures.len
