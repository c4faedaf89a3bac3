-- What the reads of a system mean. They ask after no key: all that is looked at is the entities as they were before the system.
use Rattle.std.specs.Prelude.{List, Option, Some, None, option_map, option_and_then}
use Rattle.std.specs.List.{slice_get}
use Rattle.std.specs.FinMap.{get}
use Rattle.eb_base.specs.declared.names.Name.{Name}
use Rattle.eb_schema.specs.BakedEntities.{Entities}
use Rattle.eb_schema.specs.declared.baked.BakedEntity.{BakedEntity}
use Rattle.eb_schema.specs.declared.kinds.Kind.{Kind}
use Rattle.eb_schema.specs.declared.rows.Cell.{Cell}
use Rattle.eb_schema.specs.declared.rows.Val.{Val}
use Rattle.eb_schema.specs.declared.rows.Val.TheVariants as val
use Rattle.eb_schema.specs.Rows.{cell_of}
use Rattle.eb_rules.specs.declared.plans.ComponentField.{ComponentField}
use Rattle.eb_rules.specs.declared.plans.FindTerm.{FindTerm}
use Rattle.eb_rules.specs.declared.plans.FindTerm.TheVariants as find
use Rattle.eb_rules.specs.declared.plans.ReadTerm.{ReadTerm}
use Rattle.eb_rules.specs.declared.plans.ReadTerm.TheVariants as read
use Rattle.std.specs.Option.{unwrap_or}
use Rattle.eb_meaning.specs.Operators.{no_value}
use Rattle.eb_meaning.specs.Asks.{Asks, Sight, AValue, Found, done, lift}
use Rattle.eb_meaning.specs.declared.values.Value.{Value}
use Rattle.eb_meaning.specs.declared.values.Value.TheVariants as v
use Rattle.eb_meaning.specs.declared.values.Link.TheVariants as link
use Rattle.eb_eval.specs.declared.sums.Extreme.TheVariants.{Greatest}
use Rattle.eb_eval.specs.Sums.{sum_value, count_value, best_value}
use Rattle.eb_eval.specs.Walks.{value_as}
use Rattle.eb_system.specs.Totals.{numbers}

-- ---- one field

-- what a field of the kind holds, as a value
abbrev pub value_in : Kind → Val → Value
value_in kind (val.Num z) = value_as kind z
value_in kind (val.To name) = v.Link (link.To name)
value_in kind val.Null = v.Link link.Null
value_in kind val.Gone = v.Link link.Gone

-- what a row holds in a field, if it has the component
abbrev pub held : List Cell → ComponentField → Option Val
held row x = option_and_then (λ c. slice_get c.values x.field.place) (cell_of row x.kind)

abbrev pub found_in : List Cell → ComponentField → Option Value
found_in row x = option_map (value_in x.field.kind) (held row x)

-- what an entity has in a field of one of its components
abbrev pub own_value : List Cell → ComponentField → Value
own_value row x = unwrap_or (found_in row x) no_value

-- ---- another entity

-- the entity that a value refers to, if there is one
abbrev pub referred : Entities → Option Val → Option BakedEntity
referred all (Some (val.To name)) = get all name
referred all value = None

-- a field of the entity that a field of this row refers to
abbrev pub found_at : Entities → List Cell → ComponentField → ComponentField → Option Value
found_at all row r x = option_and_then (λ e. found_in e.row x) (referred all (held row r))

-- ---- the reads

-- Each read that always has a value. The reads of bakers stand in no system.
abbrev pub system_read : Entities → Name → List Cell → ReadTerm → Asks AValue
system_read all name row (read.Field x) = done (own_value row x)
system_read all name row (read.SumAll x) = lift (sum_value x.field.kind (numbers all name.scene x.kind x.field.place))
system_read all name row (read.CountAll kind) = done (count_value (numbers all name.scene kind 0))
system_read all name row read.Entity = done (v.Link (link.To name))
system_read all name row _ = done no_value

-- each read that finds a value or nothing
abbrev pub system_find : Entities → Name → List Cell → FindTerm → Asks Found
system_find all name row (find.At r x) = done (found_at all row r x)
system_find all name row (find.MaxAll x) = done (best_value Greatest x.field.kind (numbers all name.scene x.kind x.field.place))
system_find all name row _ = done None

-- what a system sees on the entity of this name and row; it has no extras
abbrev pub system_sight : Entities → Name → List Cell → Sight
system_sight all name row = record { read = system_read all name row; find = system_find all name row; extra = λ number. v.Link link.Null }
