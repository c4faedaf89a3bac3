use Rattle.std.proofs.Common.{[], ◌∷◌, ap, ◌∙◌, ◌++◌, flat_map}
use Rattle.eb_base.specs.Names.{name_text}
use Rattle.eb_world.specs.Worlds.{living_of}
use Rattle.eb_query.specs.EntityText.{tag_text}
use Rattle.eb_query.specs.Pieces.{kind_text}
use Rattle.eb_query.proofs.LineFacts.{line_whole, written}
use Rattle.eb_query.proofs.entities.put_line.Goals as goal

pub returns : goal.returns
returns c =
    let living = living_of c.args.world.now c.args.entity in
    let kinds = flat_map (kind_text c.args.schema.now living) c.args.kinds.now in
    c.in_ok-push-2.ensures.items
    ∙ ap (λ o. o ++ 10 ∷ []) (c.in_ok-put_kinds.ensures ∙ ap (λ ks. c.put_tag.new.out.items ++ flat_map (kind_text c.args.schema.now living) ks) c.kinds.ensures.kinds)
    ∙ ap (λ o. (o ++ kinds) ++ 10 ∷ []) (c.in_ok-put_tag.ensures ∙ ap (λ o. o ++ tag_text c.args.tag) (c.in_ok-push.ensures.items ∙ ap (λ o. o ++ 32 ∷ []) c.in_ok-put_name.ensures))
    ∙ written c.args.out.now.items (name_text c.args.name) (tag_text c.args.tag) kinds
    ∙ ap (λ t. c.args.out.now.items ++ t) (line_whole c.args.schema.now c.args.name living c.args.tag c.args.kinds.now c.requires.tag c.requires.kinds c.kinds.ensures.order)
