-- What the crate keeps beside the objects of a scene, and changes to a list of things under numbers.
use Rattle.std.specs.Prelude.{◌≡◌, ℕ, Bool, true, false, List, [], Option, Some, None}
use Rattle.std.specs.Option.{unwrap_or}
use Rattle.std.specs.Map.{remove_entry, set_value, keys_of}
use Rattle.std.specs.BTreeMap.{is_at, insert_entry}
use Rattle.std.specs.Ordering.{nat_cmp}
use Rattle.eb_scene.specs.Numbers.{with_number, without_number}
use Rattle.eb_scene.specs.Projects.{Numbered, numbered, Objects, children_of}

-- with x at a number, in place of what was there
abbrev pub with_numbered : {X : Type 0} → Numbered X → ℕ → X → Numbered X
with_numbered xs n x = insert_entry nat_cmp xs n x

-- without what is at a number
abbrev pub without_numbered : {X : Type 0} → Numbered X → ℕ → Numbered X
without_numbered xs n = remove_entry (is_at (nat_cmp n)) xs

-- with f of what was found at a number in its place
abbrev pub set_found : {X : Type 0} → (X → X) → Numbered X → ℕ → Option X → Numbered X
set_found f xs n None = xs
set_found f xs n (Some x) = set_value (is_at (nat_cmp n)) xs (f x)

-- with f of what is at a number in its place
abbrev pub changed : {X : Type 0} → (X → X) → Numbered X → ℕ → Numbered X
changed f xs n = set_found f xs n (numbered xs n)

-- ---- lists of numbers under numbers

-- the list of a number, empty where there is none
abbrev pub list_at : Numbered (List ℕ) → ℕ → List ℕ
list_at lists p = unwrap_or (numbered lists p) []

-- the list of children of one object, after n moved: was it a child, and is it one now
abbrev pub changed_list : ℕ → Bool → Bool → List ℕ → List ℕ
changed_list n true true ks = ks
changed_list n true false ks = without_number ks n
changed_list n false true ks = with_number ks n
changed_list n false false ks = ks

-- the children of each object are kept
abbrev pub ListsChildren : Objects → Numbered (List ℕ) → Type 0
ListsChildren es below = (p : ℕ) → list_at below p ≡ children_of es p

-- what is kept beside the objects of a scene: the children of each, and all numbers
pub record IsIndex (es : Objects) (below : Numbered (List ℕ)) (all : List ℕ) : Type 0 where
  pub lists : ListsChildren es below
  pub numbers : all ≡ keys_of es
