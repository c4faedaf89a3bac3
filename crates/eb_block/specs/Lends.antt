-- What a block's memory ends as, once a `&mut` into it has ended.
use Rattle.std.specs.Prelude.{ℕ, List}
use Rattle.std.specs.Borrow.{Fml, MutBor, Array, Lends, u8}
use Rattle.eb_block.specs.Bytes.{rewritten}
use Rattle.std_heap.specs.declared.Global.{Global}
use Rattle.std_heap.specs.contracts.Global.{the_row as heap}
use Rattle.std_heap.specs.contracts.GlobalAllocator.TheImpl.{ghosts}
use Rattle.eb_block.specs.declared.memory.Memory.{Memory}
use Rattle.eb_block.specs.contracts.memory.Memory.{the_row}

abbrev pub with_bytes : Memory Global → List ℕ → Memory Global
with_bytes m bytes = record { mark = m.mark; at = m.at; bytes = bytes; room = m.room; alloc = m.alloc }

abbrev pub lends_bytes : MutBor (Memory Global) → ℕ → ℕ → MutBor (List ℕ) → Fml
lends_bytes m off len r = Lends (the_row heap ghosts) (Array u8 0) m r (λ ws. with_bytes m.now (rewritten m.now.bytes off len ws))
