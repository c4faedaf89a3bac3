-- The numbers of a document's nodes, in preorder.
use Rattle.std.specs.Prelude.{ℕ, suc, ◌+◌, ◌-◌, ◌^◌, min}
use Rattle.serde_json.specs.Data.{Data, null, boolean, number, string, array, object, Items, no_items, item, Members, no_members, member}

-- how many nodes a document has
abbrev mutual
  pub nodes_of : Data → ℕ
  nodes_of null = 1
  nodes_of (boolean b) = 1
  nodes_of (number n) = 1
  nodes_of (string s) = 1
  nodes_of (array ds) = suc (items_nodes ds)
  nodes_of (object ms) = suc (members_nodes ms)

  pub items_nodes : Items → ℕ
  items_nodes no_items = 0
  items_nodes (item d ds) = nodes_of d + items_nodes ds

  pub members_nodes : Members → ℕ
  members_nodes no_members = 0
  members_nodes (member k d ms) = nodes_of d + members_nodes ms

-- the place so many nodes further on: places end at 2 ^ 32 - 1
abbrev pub further : ℕ → ℕ → ℕ
further place count = min (place + count) (2 ^ 32 - 1)

-- the place of the first node after d and all below it
abbrev pub after : ℕ → Data → ℕ
after place d = further place (nodes_of d)
