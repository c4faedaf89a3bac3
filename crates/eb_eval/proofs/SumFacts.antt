-- Sums of what is left of a list.
use Rattle.std.proofs.Common.{◌≡◌, ℕ, suc, ◌+◌, ◌<◌, ℤ, List, ◌∷◌, ◌∙◌, ap, drop, drop-cons, get_or, length, arith}
use Rattle.std.specs.Prelude.{◌+ℤ◌, pos}
use Rattle.eb_eval.specs.Sums.{total}

pub total_drop : (zs : List ℤ) (at : ℕ) → at < length zs → total (drop at zs) ≡ get_or zs at (pos 0) +ℤ total (drop (at + 1) zs)
total_drop zs at here = let onward : suc at ≡ at + 1 = omega arith in ap total (drop-cons zs at (pos 0) here ∙ ap (λ k. get_or zs at (pos 0) ∷ drop k zs) onward)
