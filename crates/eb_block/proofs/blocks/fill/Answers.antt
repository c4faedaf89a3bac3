use Rattle.std.proofs.Common.{ℕ, zero, List, [], ◌∷◌, ◌++◌, length, refl, sym, ap, ◌∙◌, arith}
use lib.ListN.{length-replicate}
use Rattle.eb_block.proofs.Written.{more, all_zeros}
use Rattle.eb_block.proofs.blocks.fill.Goals as goal

pub loop-index-init : goal.loop-index-init
loop-index-init c = (refl, c.requires.1, omega (arith, c.requires.2))

pub push-requires : goal.push-requires
push-requires c = let inv = c.loop-index.invariant in let below = c.loop-index-test.true in
    (c.requires.0 ∙ sym inv.0, sym (ap length inv.1 ∙ length-replicate c.loop-index.index 0), omega (arith, inv.2, below))

pub loop-index-preserved : goal.loop-index-preserved
loop-index-preserved c = let inv = c.loop-index.invariant in let e = c.push.ensures in let below = c.loop-index-test.true in
    (e.0 ∙ inv.0, e.1 ∙ ap (λ (l : List ℕ). l ++ zero ∷ []) inv.1 ∙ more c.loop-index.index 0, omega (arith, e.2, inv.2, below))

pub returns-clause-bytes : goal.returns-clause-bytes
returns-clause-bytes c = all_zeros c.loop-index.memory.bytes c.loop-index.index c.loop-index.invariant.1 (omega (arith, c.loop-index-test.false, c.loop-index.invariant.2))
