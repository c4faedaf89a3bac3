-- What the copy baker looks at, and the cells that it makes.
use Rattle.std.specs.Prelude.{ℕ, Bool, true, false, List, [], ◌∷◌, ◌++◌, Option, Some, None, option_and_then, is_some}
use Rattle.eb_schema.specs.Schemas.{Types, authoring_of}
use Rattle.eb_schema.specs.declared.kinds.Authoring.{Authoring}
use Rattle.eb_schema.specs.declared.rows.Cell.{Cell}
use Rattle.eb_schema.specs.declared.rows.Val.{Val}
use Rattle.eb_schema.specs.declared.rows.Val.TheVariants as val
use Rattle.eb_scene.specs.declared.keys.Key.TheVariants as key
use Rattle.eb_scene.specs.declared.objects.Given.{Given}
use Rattle.eb_scene.specs.declared.objects.Given.TheVariants as given
use Rattle.eb_meaning.specs.Asks.{Asks, AVal, ACell, AnEnd, Many, Through, done, look, bind}
use Rattle.eb_eval.specs.declared.ids.RunId.{RunId}
use Rattle.eb_eval.specs.Entities.{own_entity}
use Rattle.eb_eval.specs.Walks.{values_of, is_there}

-- whether components of an authoring type are copied
abbrev pub is_copied : Types → ℕ → Bool
is_copied types kind = is_some (option_and_then (λ a. a.copy) (authoring_of types kind))

-- ---- values

-- a copied reference: to the object's own entity where the object is there, and else to none
abbrev pub val_where : Bool → ℕ → ℕ → Val
val_where true s n = val.To (own_entity s n)
val_where false s n = val.Null

abbrev pub copied : ℕ → Given → Asks AVal
copied s (given.Num z) = done (val.Num z)
copied s (given.Object n) = bind (look (key.Exists s n)) (λ a. done (val_where (is_there a) s n))
copied s (given.Asset n) = done val.Null
copied s given.Null = done val.Null

-- behind the values before
abbrev pub copied_all : ℕ → List Given → List Val → Asks (Many AVal)
copied_all s [] have = done have
copied_all s (x ∷ xs) have = bind (copied s x) (λ y. copied_all s xs (have ++ y ∷ []))

-- ---- components

-- a component as a cell of the type that it is copied to, if it is there
abbrev pub copied_part : ℕ → ℕ → Option (List Given) → List Cell → Asks (Many ACell)
copied_part s to None cells = done cells
copied_part s to (Some values) cells = bind (copied_all s values []) (λ copies. done (cells ++ record { kind = to; values = copies } ∷ []))

-- the component of an authoring type, if the type has a copy
abbrev pub copied_type : RunId → ℕ → Option ℕ → List Cell → Asks (Many ACell)
copied_type id kind None cells = done cells
copied_type id kind (Some to) cells = bind (look (key.Comp id.scene id.object kind)) (λ a. copied_part id.scene to (values_of a) cells)

abbrev pub copied_types : RunId → List Authoring → List Cell → Asks (Many ACell)
copied_types id [] cells = done cells
copied_types id (x ∷ xs) cells = bind (copied_type id x.number x.copy cells) (copied_types id xs)

-- the copy baker on an object: each authoring type with a copy, also those that the object lacks
abbrev pub copy_asks : Types → RunId → Asks AnEnd
copy_asks types id = bind (copied_types id types.authoring []) (λ cells. done (Through (record { names = []; own = cells; extras = [] })))
