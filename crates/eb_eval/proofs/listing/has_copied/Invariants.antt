use Rattle.std.proofs.Common.{◌≡◌, drop}
use Rattle.std.specs.List.{list_any}
use Rattle.eb_eval.specs.Copying.{is_copied}
use Rattle.eb_eval.proofs.listing.has_copied.Given as goal

-- none before is copied
abbrev pub invariant-loop-part : goal.invariant-loop-part
invariant-loop-part l = list_any (λ p. is_copied l.schema p.kind) (drop l.part-index l.parts) ≡ list_any (λ p. is_copied l.schema p.kind) l.parts
