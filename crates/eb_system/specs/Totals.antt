-- What is counted and summed over the entities of a scene.
use Rattle.std.specs.Prelude.{ℕ, ℤ, pos, ◌==◌, cond, List, [], length, map, flat_map, Option, Some, None, option_to_list}
use Rattle.std.specs.Int.{int_max}
use Rattle.std.specs.List.{slice_get}
use Rattle.std.specs.FinMap.{entries}
use Rattle.eb_base.specs.declared.names.Name.{Name}
use Rattle.eb_schema.specs.BakedEntities.{Entities}
use Rattle.eb_schema.specs.declared.baked.BakedEntity.{BakedEntity}
use Rattle.eb_schema.specs.declared.rows.Cell.{Cell}
use Rattle.eb_schema.specs.declared.rows.Val.{Val}
use Rattle.eb_schema.specs.declared.rows.Val.TheVariants as val
use Rattle.eb_schema.specs.Rows.{cell_of}
use Rattle.eb_eval.specs.declared.sums.Extreme.TheVariants.{Greatest}
use Rattle.eb_eval.specs.Sums.{total, best_of}
use Rattle.eb_system.specs.declared.totals.Total.{Total}

-- the number in a field, 0 where it holds none
abbrev pub number_in : Option Val → ℤ
number_in (Some (val.Num z)) = z
number_in value = pos 0

abbrev pub number_at : ℕ → Cell → ℤ
number_at place c = number_in (slice_get c.values place)

-- the number of an entity, if it is of the scene and has the type
abbrev pub numbers_in : ℕ → ℕ → ℕ → Name × BakedEntity → List ℤ
numbers_in scene kind place e = cond (e.0.scene == scene) (map (number_at place) (option_to_list (cell_of e.1.row kind))) []

-- the numbers in one field of the entities of a scene that have its type
abbrev pub numbers : Entities → ℕ → ℕ → ℕ → List ℤ
numbers all scene kind place = flat_map (numbers_in scene kind place) (entries all)

-- what is asked after numbers, all at once
abbrev pub total_of : List ℤ → Total
total_of zs = record { count = length zs; sum = total zs; greatest = best_of Greatest zs }

abbrev pub greater : Option ℤ → ℤ → ℤ
greater None z = z
greater (Some most) z = int_max most z
