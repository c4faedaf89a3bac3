use Rattle.std.proofs.Common.{ap, sym, subst, ◌∙◌, ◌≤◌}
use Rattle.eb_world.specs.Beings.{total}
use Rattle.eb_world.proofs.RowFacts.{flat_length}
use Rattle.eb_world.proofs.spares.blank_of.Goals as goal

pub returns-clause-ready : goal.returns-clause-ready
returns-clause-ready c =
    let count = c.in_ok-value_count.ensures ∙ flat_length c.args.schema.now c.args.row.now c.requires ∙ sym (ap (total c.args.schema.now) c.in_ok-kinds.ensures) in
    record {
      empty = c.in_ok-reserve.ensures.items ∙ c.new-values.ensures;
      room = subst (λ n. n ≤ c.reserve.new.self.room) count c.in_ok-reserve.ensures.room;
    }
