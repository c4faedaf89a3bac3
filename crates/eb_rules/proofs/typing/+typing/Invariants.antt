use Rattle.std.proofs.Common.{◌≡◌, map, drop}
use Rattle.eb_rules.specs.Typing.{links_typed, typed_link}
use Rattle.eb_rules.proofs.typing.+typing.Given as goal

abbrev pub invariant-typed_links-loop-link : goal.invariant-typed_links-loop-link
invariant-typed_links-loop-link l = links_typed (map (typed_link l.scope) (drop l.link-index l.links)) l.shape l.done l.places l.rest ≡ links_typed (map (typed_link l.scope) l.links) l.fn.first l.fn.done l.places l.fn.behind
