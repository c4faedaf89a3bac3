use Rattle.std.proofs.Common.{◌≤◌, ◌++◌, length, map, ap, ◌∙◌, arith}
use Rattle.eb_merge.specs.Standing.{too_many_of, type_beyond}
use Rattle.eb_merge.proofs.GiftFacts.{none_beyond, all_beyond}
use Rattle.eb_merge.proofs.own_cells.OwnCells.put_too_many.Goals as goal

pub returns-in_ok-put_types : goal.returns-in_ok-put_types
returns-in_ok-put_types c =
    c.in_ok-put_types.ensures ∙ ap (λ xs. c.args.out.now ++ map (type_beyond c.args.name) xs) (all_beyond 32 c.as_slice.result.now)
    ∙ ap (λ xs. c.args.out.now ++ too_many_of c.args.name xs) (c.as_slice.ensures.value ∙ c.self.view_is)

pub returns-else-len-gt-MOST_KINDS : goal.returns-else-len-gt-MOST_KINDS
returns-else-len-gt-MOST_KINDS c =
    let few : length c.self.inside.standing.items ≤ 32 = omega arith in
    none_beyond c.args.name c.self.inside.standing.items c.args.out.now few ∙ ap (λ xs. c.args.out.now ++ too_many_of c.args.name xs) c.self.view_is
