-- What a block ends as, once a `&mut` into it has ended.
use Rattle.std.specs.Prelude.{ℕ, List}
use Rattle.std.specs.Borrow.{Fml, MutBor, Array, Lends, u8}
use Rattle.eb_block.specs.Bytes.{rewritten}
use Rattle.eb_block.specs.contracts.blocks.Block.{the_row}

abbrev pub lends_range : MutBor (List ℕ) → ℕ → ℕ → MutBor (List ℕ) → Fml
lends_range b off len r = Lends the_row (Array u8 0) b r (λ ws. rewritten b.now off len ws)
