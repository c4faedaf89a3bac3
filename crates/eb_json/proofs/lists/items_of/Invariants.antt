use Rattle.std.proofs.Common.{◌≡◌, drop}
use Rattle.serde_json.specs.View.{items_view}
use Rattle.eb_json.specs.Forms.{items_at}
use Rattle.eb_json.proofs.FormFacts.{with_front}
use Rattle.eb_json.proofs.lists.items_of.Given as goal

abbrev pub invariant-loop-value : goal.invariant-loop-value
invariant-loop-value g l = with_front l.read.items (items_at (g.F.Form.reads l.form) l.next (items_view (drop l.value-index l.values))) ≡ items_at (g.F.Form.reads l.form) l.place (items_view l.values)
