use Rattle.std.proofs.Common.{◌≡◌, ℕ, ◌≤◌, List, length, drop}
use Rattle.eb_schema.specs.Tables.{first_from, under_name}
use Rattle.eb_schema.specs.SchemaTests.{is_named}
use Rattle.eb_schema.proofs.authoring_drafts.copies.Given as goal

abbrev pub invariant-loop-index : goal.invariant-loop-index
invariant-loop-index l = record {
  within : l.index ≤ length l.drafts;
  firsts : (q : List ℕ) → under_name l.map q ≡ first_from l.index (λ a. is_named q a.copy.value) (drop l.index l.drafts);
}

abbrev pub decreases-loop-index : goal.decreases-loop-index
decreases-loop-index l = l.index
