use Rattle.std.proofs.Common.{ap, ◌∙◌, ◌++◌, flat_map}
use Rattle.std.specs.FinMap as finite
use Rattle.eb_base.specs.declared.names.Name.{Name}
use Rattle.eb_query.specs.Pieces.{match_of}
use Rattle.eb_query.proofs.LineFacts.{all_lines}
use Rattle.eb_query.proofs.queries.Query.rows_text.Goals as goal

pub returns : goal.returns
returns c =
    let line = λ (name : Name). match_of c.args.self.now c.args.schema.now name (finite.get c.args.world.now.live name) in
    c.from_vec.ensures ∙ c.in_ok-put_matches.ensures ∙ ap (λ o. o ++ flat_map line c.as_slice.result.now) c.new-out.ensures.items
    ∙ ap (flat_map line) (c.as_slice.ensures.value ∙ c.in_ok-names.ensures) ∙ all_lines c.args.self.now c.args.schema.now c.args.world.now.live
