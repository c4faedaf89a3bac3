-- What a project is: a schema, scenes under their numbers, and assets under theirs. A scene is its objects
-- under their numbers. All are in ascending order of the numbers, each number once.
use Rattle.std.specs.Prelude.{ℕ, zero, suc, Bool, false, cond, ◌==◌, List, [], ◌∷◌, Option, Some, None, option_map, option_and_then, find}
use Rattle.std.specs.Option.{unwrap_or}
use Rattle.std.specs.Map.{lookup, keys_of}
use Rattle.std.specs.BTreeMap.{is_at}
use Rattle.std.specs.Ordering.{nat_cmp}
use Rattle.std.specs.List.Sorted.{IsStrictlySortedBy}
use Rattle.eb_schema.specs.Schemas.{Types}
use Rattle.eb_scene.specs.declared.objects.Object.{Object}
use Rattle.eb_scene.specs.declared.objects.Part.{Part}
use Rattle.eb_scene.specs.declared.objects.Given.{Given}

-- things under their numbers
abbrev pub Numbered : Type 0 → Type 0
Numbered X = List (ℕ × X)

-- the thing of a number
abbrev pub numbered : {X : Type 0} → Numbered X → ℕ → Option X
numbered xs n = lookup (is_at (nat_cmp n)) xs

abbrev pub Objects : Type 0
Objects = Numbered Object

pub record Content : Type 0 where
  pub schema : Types
  pub scenes : Numbered Objects
  pub assets : Numbered (List Given)

-- ---- a scene

-- the parent of an object, none where it isn't there too
abbrev pub parent_at : Objects → ℕ → Option ℕ
parent_at es n = option_and_then (λ o. o.parent) (numbered es n)

-- the mark of an object, none where it isn't there too
abbrev pub mark_at : Objects → ℕ → Option ℕ
mark_at es n = option_and_then (λ o. o.mark) (numbered es n)

-- whether an object below this one stands below p
abbrev pub is_parent : Option ℕ → ℕ → Bool
is_parent None p = false
is_parent (Some q) p = q == p

-- the numbers of the objects right below p, ascending
abbrev pub children_of : Objects → ℕ → List ℕ
children_of [] p = []
children_of (e ∷ es) p = cond (is_parent e.1.parent p) (e.0 ∷ children_of es p) (children_of es p)

-- the component of a type
abbrev pub part_of : List Part → ℕ → Option Part
part_of parts kind = find (λ p. p.kind == kind) parts

-- the way up from an object, itself first, at most so many
unfoldable pub above : ℕ → Objects → Option ℕ → List ℕ
above zero es at = []
above (suc levels) es None = []
above (suc levels) es (Some n) = n ∷ above levels es (parent_at es n)

-- the first mark of these objects, or else 0
abbrev pub first_mark : Objects → List ℕ → ℕ
first_mark es [] = 0
first_mark es (n ∷ ns) = unwrap_or (mark_at es n) (first_mark es ns)

-- most objects on the way up from one, itself included
abbrev pub most_depth : ℕ
most_depth = 64

-- the section of an object: the mark of the nearest object with one, itself first, then upward, or else 0
abbrev pub section : Objects → ℕ → ℕ
section es n = first_mark es (above most_depth es (Some n))

-- ---- a project

-- the objects of a scene, none where it isn't there
abbrev pub objects_of : Content → ℕ → Objects
objects_of g s = unwrap_or (numbered g.scenes s) []

abbrev pub object_in : Content → ℕ → ℕ → Option Object
object_in g s n = numbered (objects_of g s) n

abbrev pub part_in : Content → ℕ → ℕ → ℕ → Option Part
part_in g s n kind = option_and_then (λ o. part_of o.components kind) (object_in g s n)

-- the section of an object that is there
abbrev pub section_in : Content → ℕ → ℕ → Option ℕ
section_in g s n = option_map (λ o. section (objects_of g s) n) (object_in g s n)

-- whether all lists of a project ascend: the scenes, the objects of each, and the assets
pub record IsAscending (g : Content) : Type 0 where
  pub scenes : IsStrictlySortedBy nat_cmp (keys_of g.scenes)
  pub objects : (s : ℕ) → IsStrictlySortedBy nat_cmp (keys_of (objects_of g s))
  pub assets : IsStrictlySortedBy nat_cmp (keys_of g.assets)
