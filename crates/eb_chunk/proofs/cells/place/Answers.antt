use Rattle.std.proofs.Common.{ℕ, ◌+◌, ◌*◌, ◌≤◌, sym, ap, subst, ◌∙◌}
use Rattle.eb_schema.specs.Slots.{width}
use Rattle.eb_chunk.proofs.TableFacts.{slot_room}
use Rattle.eb_chunk.proofs.cells.place.Goals as goal

pub returns-clause-within : goal.returns-clause-within
returns-clause-within c =
    let wide = c.width-width.ensures.value ∙ ap width c.kind_at.ensures in let start = c.start_of-start.ensures in
    subst (λ (n : ℕ). n ≤ 16384) (sym (λ i. start i + c.args.row * wide i + wide i)) (slot_room c.args.layout.now c.args.column c.args.row c.requires.rows c.requires.columns)
