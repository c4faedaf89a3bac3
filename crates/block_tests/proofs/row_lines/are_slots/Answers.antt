use Rattle.std.proofs.Common.{◌≡◌, ◌<◌, ◌+◌, ℕ, slice_index_or, refl, subst, inl, inr, arith}
use Rattle.std.proofs.lemmas.Bool.{cases_lt}
use Rattle.eb_schema.specs.declared.kinds.Kind.{Kind}
use Rattle.eb_schema.specs.Layouts.{column_at}
use Rattle.eb_schema.specs.Slots.{Fits}
use Rattle.eb_chunk.specs.Rows.{no_slot}
use Rattle.block_tests.proofs.row_lines.are_slots.Goals as goal

-- what holds below n, and at n, holds below n + 1
one_more : (P : ℕ → Type 0) (n : ℕ) → ((c : ℕ) → c < n → P c) → P n → (c : ℕ) → c < n + 1 → P c
one_more P n all here c lt =
    elim (cases_lt c n) [
      | inl less ↦ all c less
      | inr more ↦ let same : n ≡ c = omega (arith, more, lt) in subst P same here
    ]

pub loop-column-preserved : goal.loop-column-preserved
loop-column-preserved c =
    one_more (λ n. Fits (column_at c.args.layout.now n).holds (slice_index_or c.args.slots.now n no_slot)) c.loop-column.column c.loop-column.invariant
    (subst (λ (k : Kind). Fits k (slice_index_or c.args.slots.now c.loop-column.column no_slot)) c.kind_at.ensures (c.if-not-fits.ensures refl))

pub returns : goal.returns
returns c = λ _. record {
  size = omega (arith, c.if-slots-columns.false, c.columns.ensures.value);
  fit = λ n lt. c.loop-column.invariant n (omega (arith, lt, c.loop-column-test.false, c.columns-column-end.ensures.value));
}
