use Rattle.std.proofs.Common.{ap, sym, ◌∙◌, ◌++◌, append-nil}
use Rattle.std.specs.Prelude.{option_map}
use Rattle.std.specs.FinMap as finite
use Rattle.eb_schema.specs.Rows.{kinds_of}
use Rattle.eb_world.specs.Worlds.{Living}
use Rattle.eb_query.specs.Pieces.{line_of}
use Rattle.eb_query.proofs.LineFacts.{does_match, does_not, lives_as, no_match}
use Rattle.eb_query.proofs.queries.Query.put_match.Goals as goal

pub returns-in_default-types_of : goal.returns-in_default-types_of
returns-in_default-types_of c =
    let same = lives_as c.args.world.now c.is_whole.ensures c.args.name c.in-Some.entity c.in-Some.ensures.handle in
    sym (append-nil c.args.out.now.items)
    ∙ ap (λ t. c.args.out.now.items ++ t) (sym (no_match c.args.self.now c.args.schema.now c.args.name (finite.get c.args.world.now.live c.args.name)
    (c.in_default-types_of.ensures ∙ ap (option_map (λ (l : Living). kinds_of l.row)) same)))

pub returns-in_ok-put_line : goal.returns-in_ok-put_line
returns-in_ok-put_line c =
    let same = lives_as c.args.world.now c.is_whole.ensures c.args.name c.in-Some.entity c.in-Some.ensures.handle in
    c.in_ok-put_line.ensures
    ∙ ap (λ o. c.args.out.now.items ++ line_of c.args.schema.now c.args.name o) same
    ∙ ap (λ t. c.args.out.now.items ++ t) (does_match c.args.self.now c.args.schema.now c.args.name (finite.get c.args.world.now.live c.args.name) c.in-Some-types_of.kinds.now
    (c.in-Some-types_of.ensures ∙ ap (option_map (λ (l : Living). kinds_of l.row)) same) (sym c.if-matches_types.ensures))

pub returns-else-matches_types : goal.returns-else-matches_types
returns-else-matches_types c =
    let same = lives_as c.args.world.now c.is_whole.ensures c.args.name c.in-Some.entity c.in-Some.ensures.handle in
    sym (append-nil c.args.out.now.items)
    ∙ ap (λ t. c.args.out.now.items ++ t) (sym (does_not c.args.self.now c.args.schema.now c.args.name (finite.get c.args.world.now.live c.args.name) c.in-Some-types_of.kinds.now
    (c.in-Some-types_of.ensures ∙ ap (option_map (λ (l : Living). kinds_of l.row)) same) (sym c.if-matches_types.ensures)))
