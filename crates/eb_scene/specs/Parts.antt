-- Where components stand in the list of an object.
use Rattle.std.specs.Prelude.{ℕ, suc, ◌+◌, ◌==◌, cond, List, [], ◌∷◌, Option, Some, None, option_map, Result, Ok, Err}
use Rattle.eb_scene.specs.declared.objects.Part.{Part}

-- the place of the first component of a type
abbrev pub position : List Part → ℕ → Option ℕ
position [] kind = None
position (p ∷ ps) kind = cond (p.kind == kind) (Some 0) (option_map suc (position ps kind))

-- a place so much further
abbrev pub further : ℕ → Result ℕ ℕ → Result ℕ ℕ
further i (Ok at) = Ok (at + i)
further i (Err at) = Err (at + i)
