use Rattle.std.proofs.Common.{◌≡◌, ℕ, List, Some, None, cond, length, arith}
use Rattle.std.specs.Prelude.{bytes_eq}
use Rattle.std.specs.Option.{option_or}
use Rattle.eb_rule_names.specs.Places.{under_name}
use Rattle.eb_rule_names.proofs.PlaceFacts.{first_pushed}
use Rattle.eb_rule_names.proofs.visible.VisibleNames.push.Goals as goal

pub invariant_of-self-2 : goal.invariant_of-self-2
invariant_of-self-2 g c =
    let old = c.self.inside in
    let last : c.len.result ≡ length old.names.items = let is = c.len.ensures in let kept = c.reserve.ensures.len in omega (arith, is, kept) in
    let put : (q : List ℕ) → under_name c.note.new.places q ≡ option_or (under_name old.places q) (cond (bytes_eq q (g.V.Named.name_of c.args.value)) (Some c.len.result) None) = rw c.name.ensures at c.in_ok-note.ensures.ok in
    rw (c.push_reserved.ensures.items, c.reserve.ensures.items)
    (first_pushed g.V.Named.name_of old.names.items c.args.value (under_name old.places) (under_name c.note.new.places) c.len.result last c.self.invariant put)
