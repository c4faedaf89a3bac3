use Rattle.std.proofs.Common.{arith, subst, Vec, Global}
use Rattle.eb_json.specs.Forms.{Gives}
use Rattle.eb_json.proofs.FormFacts.{list_within_at-long, list_within_at-short}
use Rattle.eb_json.proofs.lists.list_within.Goals as goal

pub returns-then-len-most : goal.returns-then-len-most
returns-then-len-most g c = list_within_at-long (g.F.Form.reads c.args.form.now) _ _ _ _ c.in-Some.ensures (omega (arith, c.len.ensures))

pub returns-else-len-most : goal.returns-else-len-most
returns-else-len-most g c =
    let e = list_within_at-short (g.F.Form.reads c.args.form.now) c.args.most c.args.place _ _ c.in-Some.ensures (omega (arith, c.len.ensures)) in
    subst (Gives (λ (v : Vec g.row.F-Read.Denot Global). v.items) c.items_of.result) e (rw (c.inside.ensures, c.deref.ensures.value) at c.items_of.ensures)
