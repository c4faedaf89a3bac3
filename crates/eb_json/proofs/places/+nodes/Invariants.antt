use Rattle.std.proofs.Common.{◌≡◌, ◌<◌, ◌^◌, drop, length}
use Rattle.serde_json.specs.View.{items_view, members_view}
use Rattle.eb_json.specs.Places.{further, items_nodes, members_nodes}
use Rattle.eb_json.proofs.places.+nodes.Given as goal

abbrev pub invariant-after_items-loop-value : goal.invariant-after_items-loop-value
invariant-after_items-loop-value l = record {
  fits : l.next < 2 ^ 32;
  counts : further l.next (items_nodes (items_view (drop l.value-index l.list))) ≡ further l.fn.place (items_nodes (items_view l.list));
}

abbrev pub invariant-after_members-loop-value : goal.invariant-after_members-loop-value
invariant-after_members-loop-value l = record {
  fits : l.next < 2 ^ 32;
  counts : further l.next (members_nodes (members_view (drop (length l.yielded) l.map.entries))) ≡ further l.fn.place (members_nodes (members_view l.map.entries));
}
