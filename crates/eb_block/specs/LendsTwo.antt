-- What a slice ends as, once two `&mut` into it have ended.
use Rattle.std.specs.Prelude.{ℕ, List}
use Rattle.std.specs.Borrow.{Fml, MutBor, Array, LendsBoth, u8}
use Rattle.eb_block.specs.Bytes.{rewritten}

abbrev pub lends_two : MutBor (List ℕ) → ℕ → ℕ → ℕ → ℕ → MutBor (List ℕ) × MutBor (List ℕ) → Fml
lends_two s a la b lb r = LendsBoth (Array u8 0) (Array u8 0) (Array u8 0) s r (λ xs ys. rewritten (rewritten s.now a la xs) b lb ys)
