use Rattle.std.proofs.Common.{◌≡◌, [], sym, subst, ◌∙◌}
use Rattle.std.specs.FinMap.{entries}
use Rattle.std.specs.Map.Iter.{deref_pair}
use Rattle.std.proofs.lemmas.Map.Iter.{rest_more, rest_all}
use Rattle.eb_session.proofs.RowFacts.{AreRows, rows-more, rows-none, rows-end}
use Rattle.eb_session.proofs.imaging.plain_rows.Goals as goal

pub returns-in-None-2 : goal.returns-in-None-2
returns-in-None-2 c =
    let left = rest_more deref_pair c.loop-name.name-iterator c.next.new.self c.next.result (c.in-Some.name, c.in-Some.entity) c.in-Some.is c.next.ensures.steps in
    let all = entries c.args.baked.now in
    let so_far = subst (λ l. AreRows c.args.schema.now c.loop-name.rows.items l all) left c.loop-name.invariant in
    rows-none c.args.schema.now c.loop-name.rows.items (deref_pair (c.in-Some.name, c.in-Some.entity)) c.next.new.self all (sym c.in-None-2.is ∙ c.in_ok-row.ensures) so_far

pub loop-name-preserved : goal.loop-name-preserved
loop-name-preserved c =
    let left = rest_more deref_pair c.loop-name.name-iterator c.next.new.self c.next.result (c.in-Some.name, c.in-Some.entity) c.in-Some.is c.next.ensures.steps in
    let all = entries c.args.baked.now in
    let so_far = subst (λ l. AreRows c.args.schema.now c.loop-name.rows.items l all) left c.loop-name.invariant in
    rw c.in_ok-push-in-Some-2.ensures.items
    (rows-more c.args.schema.now c.loop-name.rows.items c.in-Some-2.row (deref_pair (c.in-Some.name, c.in-Some.entity)) c.next.new.self all (sym c.in-Some-2.is ∙ c.in_ok-row.ensures) so_far)

pub returns : goal.returns
returns c =
    let end : c.loop-name.name-iterator ≡ [] = (rest_all deref_pair c.loop-name.name-iterator c.next.new.self c.next.result c.in-None.is c.next.ensures.steps) in
    rows-end c.args.schema.now c.loop-name.rows.items (entries c.args.baked.now) (subst (λ l. AreRows c.args.schema.now c.loop-name.rows.items l (entries c.args.baked.now)) end c.loop-name.invariant)
