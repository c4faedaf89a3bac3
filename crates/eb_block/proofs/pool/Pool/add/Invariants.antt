use Rattle.std.proofs.Common.{◌≡◌, ◌≤◌, ◌-◌, max}
use Rattle.eb_block.proofs.pool.Pool.add.Given as goal

-- spare blocks only come, and none goes out
abbrev pub invariant-loop-self : goal.invariant-loop-self
invariant-loop-self l = (l.fn.self.spare ≤ l.self.spare) × ((l.self.out ≡ l.fn.self.out) × (l.self.spare ≤ max l.fn.self.spare l.blocks))

abbrev pub decreases-loop-self : goal.decreases-loop-self
decreases-loop-self l = l.blocks - l.self.spare
