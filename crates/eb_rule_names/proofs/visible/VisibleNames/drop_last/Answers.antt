use Rattle.std.proofs.Common.{◌≡◌, ℕ, ◌+◌, ◌-◌, ◌<◌, List, [], ◌∷◌, ◌++◌, cond, sym, length, take, arith}
use Rattle.std.proofs.lemmas.List.{length-take-le}
use Rattle.std.specs.Prelude.{bytes_eq}
use Rattle.std.specs.List.{position_from}
use Rattle.eb_rule_names.specs.Places.{under_name, other_than}
use Rattle.eb_rule_names.proofs.PlaceFacts.{first_dropped, last_split}
use Rattle.eb_rule_names.proofs.visible.VisibleNames.drop_last.Goals as goal

pub invariant_of-self : goal.invariant_of-self
invariant_of-self g c =
    let xs = c.self.inside.names.items in
    let at = c.len-at.result - 1 in
    let some : 0 < length xs = rw c.self.view_is c.requires in
    let last : at + 1 ≡ length xs = let is = c.len-at.ensures in omega (arith, some, is) in
    let split = last_split xs c.index.result.now at last c.index.ensures in
    let firsts : (q : List ℕ) → under_name c.self.inside.places q ≡ position_from (λ v. bytes_eq q (g.V.Named.name_of v)) 0 (take at xs ++ c.index.result.now ∷ []) = rw split at c.self.invariant in
    let taken : (q : List ℕ) → under_name c.forget.new.places q ≡ cond (bytes_eq q (g.V.Named.name_of c.index.result.now)) (other_than at (under_name c.self.inside.places q)) (under_name c.self.inside.places q) = rw c.name.ensures at c.forget.ensures in
    rw c.truncate.ensures.items (first_dropped g.V.Named.name_of (take at xs) c.index.result.now (under_name c.self.inside.places) (under_name c.forget.new.places) at (sym (length-take-le at xs (omega (arith, last)))) firsts taken)
