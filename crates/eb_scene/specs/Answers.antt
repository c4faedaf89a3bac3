-- What a key names in a project. What isn't there answers none, no children, or false.
use Rattle.std.specs.Prelude.{ℕ, Bool, true, false, ◌==◌, ◌&&◌, List, Option, option_map, is_some}
use Rattle.eb_scene.specs.declared.objects.Given.{Given}
use Rattle.eb_scene.specs.declared.keys.Key.{Key}
use Rattle.eb_scene.specs.declared.keys.Key.TheVariants.{Comp, Parent, Children, Exists, Asset}
use Rattle.std.specs.List.{list_any}
use Rattle.eb_scene.specs.Projects.{Content, numbered, objects_of, object_in, part_in, parent_at, children_of}

pub data Answer : Type 0 where
  Values : Option (List Given) → Answer
  Above : Option ℕ → Answer
  Below : List ℕ → Answer
  There : Bool → Answer

abbrev pub answer : Content → Key → Answer
answer g (Comp s n kind) = Values (option_map (λ p. p.values) (part_in g s n kind))
answer g (Parent s n) = Above (parent_at (objects_of g s) n)
answer g (Children s n) = Below (children_of (objects_of g s) n)
answer g (Exists s n) = There (is_some (object_in g s n))
answer g (Asset n) = Values (numbered g.assets n)

-- ---- keys in lists

-- whether two keys are the same
abbrev pub same_key : Key → Key → Bool
same_key (Comp s n kind) (Comp t m other) = s == t && n == m && kind == other
same_key (Parent s n) (Parent t m) = s == t && n == m
same_key (Children s n) (Children t m) = s == t && n == m
same_key (Exists s n) (Exists t m) = s == t && n == m
same_key (Asset n) (Asset m) = n == m
same_key _ _ = false

-- whether a key is among these
abbrev pub has_key : List Key → Key → Bool
has_key keys k = list_any (same_key k) keys

-- ---- what a key asks after

-- whether the scene that a key asks after is there; an asset stands in none
abbrev pub has_scene_of : Content → Key → Bool
has_scene_of g (Comp s n kind) = is_some (numbered g.scenes s)
has_scene_of g (Parent s n) = is_some (numbered g.scenes s)
has_scene_of g (Children s n) = is_some (numbered g.scenes s)
has_scene_of g (Exists s n) = is_some (numbered g.scenes s)
has_scene_of g (Asset n) = true

-- whether the object whose parent a key asks after is there; the other keys may ask after one that isn't
abbrev pub has_object_of : Content → Key → Bool
has_object_of g (Comp s n kind) = true
has_object_of g (Parent s n) = is_some (object_in g s n)
has_object_of g (Children s n) = true
has_object_of g (Exists s n) = true
has_object_of g (Asset n) = true
