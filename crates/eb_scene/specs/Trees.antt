-- Walks down through the objects of a scene, level by level.
use Rattle.std.specs.Prelude.{ℕ, zero, suc, List, [], ◌∷◌, ◌++◌, flat_map}
use Rattle.eb_scene.specs.Projects.{Objects, children_of}
use Rattle.eb_scene.specs.Tables.{without_numbered}

-- the objects right below these
abbrev pub next_level : Objects → List ℕ → List ℕ
next_level es ns = flat_map (children_of es) ns

-- how many levels there are from these objects down, at most so many
unfoldable pub height : ℕ → Objects → List ℕ → ℕ
height zero es ns = 0
height (suc levels) es [] = 0
height (suc levels) es (n ∷ ns) = suc (height levels es (next_level es (n ∷ ns)))

-- these objects and all below them, at most so many levels
unfoldable pub subtree : ℕ → Objects → List ℕ → List ℕ
subtree zero es ns = []
subtree (suc levels) es ns = ns ++ subtree levels es (next_level es ns)

-- the objects without these
abbrev pub without_all : Objects → List ℕ → Objects
without_all es [] = es
without_all es (n ∷ ns) = without_all (without_numbered es n) ns
