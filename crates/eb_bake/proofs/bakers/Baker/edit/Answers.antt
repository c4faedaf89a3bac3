use Rattle.std.proofs.Common.{ap, subst, ◌∙◌}
use Rattle.eb_bake.specs.Baking.{Bakery, IsRebaked}
use Rattle.eb_bake.proofs.KeptSchema.{edited-schema}
use Rattle.eb_bake.proofs.Rebakings.{rebaked_told}
use Rattle.eb_bake.proofs.bakers.Baker.edit.Goals as goal

pub returns-in-Ok-renew-clause-rebaked : goal.returns-in-Ok-renew-clause-rebaked
returns-in-Ok-renew-clause-rebaked g c =
    let before = c.self.inside in
    let done = c.in-Ok-renew.ensures in
    let live = ap (λ (b : Bakery). b.spent) c.self.view_is ∙ c.requires.live in
    subst (λ (b : Bakery). IsRebaked c.in-Ok-renew.done b (record { rules = before.rules; project = c.edit.new.self; spent = before.spent }) c.args.edit.now) c.self.view_is
    (rebaked_told c.in-Ok-renew.done before.spent before.rules before.project c.edit.new.self c.args.edit.now before.bake c.renew.new.bake c.items.result.now c.as_slice.result.now
    c.schema.ensures.valid c.schema-in-Ok-edit.ensures.valid c.in-Ok-edit.ensures.edited (c.self.invariant live) done.bake
    (c.items.ensures ∙ c.in-Ok.ensures) (c.as_slice.ensures.value ∙ c.in-Ok-edit.ensures.touched) done.rerun done.runs done.changed live)

pub returns-in-Ok-renew-clause-schema : goal.returns-in-Ok-renew-clause-schema
returns-in-Ok-renew-clause-schema g c =
    edited-schema c.self.inside.project c.edit.new.self c.args.edit.now c.in-Ok-edit.ensures.edited ∙ ap (λ (b : Bakery). b.project.schema) c.self.view_is

pub returns-in-Ok-edit-clause-schema : goal.returns-in-Ok-edit-clause-schema
returns-in-Ok-edit-clause-schema g c =
    edited-schema c.self.inside.project c.edit.new.self c.args.edit.now c.in-Ok-edit.ensures.edited ∙ ap (λ (b : Bakery). b.project.schema) c.self.view_is
