-- The pieces that an entity's line is written in: type by type, and field by field.
use Rattle.std.specs.Prelude.{ℕ, zero, suc, List, [], ◌∷◌, Option, Some, None}
use Rattle.eb_base.specs.declared.names.Name.{Name}
use Rattle.eb_schema.specs.declared.kinds.Field.{Field}
use Rattle.eb_schema.specs.declared.rows.Val.{Val}
use Rattle.eb_schema.specs.declared.rows.Cell.{Cell}
use Rattle.eb_schema.specs.Rows.{cell_of}
use Rattle.eb_schema.specs.Schemas.{Types, component_of}
use Rattle.eb_world.specs.Worlds.{Living}
use Rattle.eb_query.specs.EntityText.{component_text, entity_line, fields_text, more_fields}
use Rattle.eb_query.specs.Queries.{Asked, matching_line}

abbrev pub cell_values : Option Cell → List Val
cell_values None = []
cell_values (Some c) = c.values

-- the values that an entity has of a type
abbrev pub values_of : Option Living → ℕ → List Val
values_of None kind = []
values_of (Some l) kind = cell_values (cell_of l.row kind)

abbrev pub kind_text : Types → Option Living → ℕ → List ℕ
kind_text types living kind = component_text (component_of types kind) (values_of living kind)

-- a comma, but before the first field
abbrev pub separator : ℕ → List ℕ
separator zero = []
separator (suc index) = 44 ∷ []

-- the text of the fields from this place on
abbrev pub fields_from : ℕ → List Field → List Val → List ℕ
fields_from zero fields values = fields_text fields values
fields_from (suc index) fields values = more_fields fields values

-- the line of what may be an entity
abbrev pub line_of : Types → Name → Option Living → List ℕ
line_of types name None = []
line_of types name (Some l) = entity_line types name l

-- the same, where it matches
abbrev pub match_of : Asked → Types → Name → Option Living → List ℕ
match_of asked types name None = []
match_of asked types name (Some l) = matching_line asked types (name, l)
