-- Keys in ascending order: by variant, and then by scene, number and type.
use Rattle.std.specs.Prelude.{ℕ, List, [], ◌∷◌}
use Rattle.std.specs.BTreeSet.{insert_key}
use Rattle.std.specs.Ordering.{nat_cmp, ordering_then}
use Rattle.std.specs.declared.cmp.Ordering.{Ordering}
use Rattle.eb_scene.specs.declared.keys.Key.{Key}
use Rattle.eb_scene.specs.declared.keys.Key.TheVariants.{Comp, Parent, Children, Exists, Asset}

-- ---- the four numbers of a key

abbrev pub variant_of : Key → ℕ
variant_of (Comp s n kind) = 0
variant_of (Parent s n) = 1
variant_of (Children s n) = 2
variant_of (Exists s n) = 3
variant_of (Asset n) = 4

abbrev pub scene_of : Key → ℕ
scene_of (Comp s n kind) = s
scene_of (Parent s n) = s
scene_of (Children s n) = s
scene_of (Exists s n) = s
scene_of (Asset n) = 0

abbrev pub number_of : Key → ℕ
number_of (Comp s n kind) = n
number_of (Parent s n) = n
number_of (Children s n) = n
number_of (Exists s n) = n
number_of (Asset n) = n

abbrev pub kind_of : Key → ℕ
kind_of (Comp s n kind) = kind
kind_of (Parent s n) = 0
kind_of (Children s n) = 0
kind_of (Exists s n) = 0
kind_of (Asset n) = 0

abbrev pub place_of : Key → ℕ × ℕ × ℕ × ℕ
place_of k = (variant_of k, scene_of k, number_of k, kind_of k)

-- ---- their order

abbrev pub key_cmp : Key → Key → Ordering
key_cmp j k = ordering_then (ordering_then (ordering_then (nat_cmp (variant_of j) (variant_of k)) (nat_cmp (scene_of j) (scene_of k)))
    (nat_cmp (number_of j) (number_of k))) (nat_cmp (kind_of j) (kind_of k))

-- the same keys in ascending order, each once
abbrev pub in_order : List Key → List Key
in_order [] = []
in_order (k ∷ ks) = insert_key key_cmp (in_order ks) k
