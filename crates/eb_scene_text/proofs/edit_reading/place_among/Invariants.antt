use Rattle.std.proofs.Common.{◌≡◌, ◌<◌, ◌^◌, drop, length}
use Rattle.serde_json.specs.View.{members_view}
use Rattle.eb_json.specs.Places.{further}
use Rattle.eb_scene_text.specs.EditForm.{nodes_before}
use Rattle.eb_scene_text.proofs.edit_reading.place_among.Given as goal

abbrev pub invariant-loop-name : goal.invariant-loop-name
invariant-loop-name l = record {
  fits : l.next < 2 ^ 32;
  counts : further l.next (nodes_before l.key (members_view (drop (length l.yielded) l.map.entries))) ≡ further l.fn.place (nodes_before l.key (members_view l.map.entries));
}
