use Rattle.std.proofs.Common.{◌≡◌, ◌+◌, replicate}
use Rattle.eb_block.proofs.blocks.fill.Given as goal

-- as many zeros as were written, and room for the rest
abbrev pub invariant-loop-index : goal.invariant-loop-index
invariant-loop-index l = (l.memory.at ≡ l.fn.memory.at) × (l.memory.bytes ≡ replicate l.index 0) × (l.memory.room + l.index ≡ 16384)
