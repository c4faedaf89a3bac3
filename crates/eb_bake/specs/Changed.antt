-- Which entities are not as they were.
use Rattle.std.specs.Prelude.{◌==◌, Bool, true, false, ◌&&◌, not, List, Option, Some, None, fold, is_some}
use Rattle.std.specs.Cmp.Lexicographic.{pointwise}
use Rattle.std.specs.FinMap.{FinMap, empty, entries, get, insert, keys}
use Rattle.std.specs.Ordering.{int_eq}
use Rattle.eb_base.specs.Names.{name_cmp}
use Rattle.eb_base.specs.declared.names.Name.{Name}
use Rattle.eb_base.specs.declared.names.Place.{Place}
use Rattle.eb_schema.specs.BakedEntities.{Entities}
use Rattle.eb_schema.specs.declared.baked.BakedEntity.{BakedEntity}
use Rattle.eb_schema.specs.declared.rows.Cell.{Cell}
use Rattle.eb_schema.specs.declared.rows.Val.{Val}
use Rattle.eb_schema.specs.declared.rows.Val.TheVariants.{Num, To, Null, Gone}

-- ---- what is the same

abbrev pub same_name : Name → Name → Bool
same_name a b = a.play == b.play && (a.scene == b.scene && (a.object == b.object && a.extra == b.extra))

abbrev pub same_val : Val → Val → Bool
same_val (Num a) (Num b) = int_eq a b
same_val (To a) (To b) = same_name a b
same_val Null Null = true
same_val Gone Gone = true
same_val a b = false

abbrev pub same_cell : Cell → Cell → Bool
same_cell a b = a.kind == b.kind && pointwise same_val a.values b.values

abbrev pub same_place : Place → Place → Bool
same_place a b = a.scene == b.scene && a.section == b.section

abbrev pub same_entity : BakedEntity → BakedEntity → Bool
same_entity a b = same_place a.place b.place && pointwise same_cell a.row b.row

-- whether an entity is new or not as it was
abbrev pub is_changed : Option BakedEntity → BakedEntity → Bool
is_changed None e = true
is_changed (Some before) e = not (same_entity before e)

-- ---- names

-- a set of names
abbrev pub NameSet : Type 0
NameSet = FinMap name_cmp (Unit {0})

-- a name among others where it is to be
abbrev pub noted_if : Bool → NameSet → Name → NameSet
noted_if true m name = insert m name tt
noted_if false m name = m

abbrev pub with_changed : Entities → NameSet → Name × BakedEntity → NameSet
with_changed old m e = noted_if (is_changed (get old e.0) e.1) m e.0

abbrev pub with_gone : Entities → NameSet → Name × BakedEntity → NameSet
with_gone new m e = noted_if (not (is_some (get new e.0))) m e.0

-- the entities that are new or not as they were, and those that are gone
abbrev pub changed : Entities → Entities → NameSet
changed old new = fold (with_gone new) (fold (with_changed old) empty (entries new)) (entries old)

-- their names, ascending, each once
unfoldable pub changed_names : Entities → Entities → List Name
changed_names old new = keys (changed old new)
