use Rattle.std.proofs.Common.{◌≡◌, Bool, length, ap, ◌∙◌, arith}
use Rattle.std.specs.Prelude.{bytes_eq, unwrap_or}
use Rattle.std.specs.List.{position_or_len, position_from}
use Rattle.eb_rule_names.proofs.PlaceFacts.{place_is}
use Rattle.eb_rule_names.proofs.visible.VisibleNames.place.Goals as goal

pub returns : goal.returns
returns g c =
    let names = c.self.inside.names.items in
    let test : g.row.V.Denot → Bool = λ v. bytes_eq c.args.name.now (g.V.Named.name_of v) in
    let all : c.len.result ≡ length names = let is = c.len.ensures in omega (arith, is) in
    c.unwrap_or.ensures ∙ ap (λ o. unwrap_or o c.len.result) (c.copied.ensures ∙ c.get.ensures.value ∙ c.self.invariant c.args.name.now)
    ∙ ap (unwrap_or (position_from test 0 names)) all ∙ place_is test names ∙ ap (position_or_len test) c.self.view_is
